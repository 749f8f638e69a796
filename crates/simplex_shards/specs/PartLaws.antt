-- Messages of one class that are recorded one after another.
use Rattle.std.proofs.Common.{◌≡◌, ◌+◌, ◌<◌, ◌≤◌, ◌^◌, ℕ, Bool, true, false, cond, List, [], ◌∷◌, ◌++◌, length, refl, sym, ap, subst, ◌∙◌, arith, length-append}
use Rattle.std.proofs.lemmas.List.Elements.{filter-append}
use Rattle.simplex_base.specs.Positions.{Round}
use Rattle.simplex_evidence.specs.Activity.{activity_round}
use Rattle.simplex_evidence.specs.declared.types.activity.Activity.{Activity}
use Rattle.simplex_detector.specs.Detector.{RecallsMore}
use Rattle.simplex_detector.specs.DetectorLaws.{recalls_none, recalls_on}
use Rattle.simplex_rules.specs.Independence.{of_rounds}
use Rattle.simplex_rules.specs.Rules.{Rules}
use Rattle.simplex_shards.specs.Cut.{class_under}
use Rattle.simplex_shards.specs.Part.{RecordsPart, is_class, part_of}
use Rattle.simplex_shards.specs.declared.cut.Cut.{Cut}
use Rattle.simplex_shards.specs.declared.part.PartRecorder.{PartRecorder}

module _ {S D C P G : Type 0} (rules : Rules S D C P G) where
  -- no message came
  pub part_none : (state : PartRecorder S D P G) → RecordsPart rules [] state state
  part_none state = record {
    cut_is = refl;
    class_is = refl;
    read_is = omega arith;
    recalls = recalls_none rules state.detector;
  }

  -- one message more came
  pub part_more : (ms : List (Activity S D C P G)) (m : Activity S D C P G) (a b c : PartRecorder S D P G) →
      RecordsPart rules ms a b → RecordsPart rules (m ∷ []) b c → RecordsPart rules (ms ++ m ∷ []) a c
  part_more ms m a b c before one =
      let same : part_of b ≡ part_of a =
      ap (λ (cut : Cut). is_class (class_under cut) b.class) before.cut_is
      ∙ ap (is_class (class_under a.cut)) before.class_is in
      let of : (Round → Bool) → List (Activity S D C P G) → List (Activity S D C P G) = λ part ks. of_rounds part ks in
      let joined : of (part_of a) (ms ++ m ∷ []) ≡ of (part_of a) ms ++ of (part_of a) (m ∷ []) =
      filter-append (λ k. part_of a (activity_round k)) ms (m ∷ []) in
      record {
        cut_is = one.cut_is ∙ before.cut_is;
        class_is = one.class_is ∙ before.class_is;
        read_is =
            let first = before.read_is in
            let last = one.read_is ∙ ap (λ (part : Round → Bool). b.read + length (of part (m ∷ []))) same in
            let both = ap length joined ∙ length-append (of (part_of a) ms) (of (part_of a) (m ∷ [])) in
            omega (arith, first, last, both);
        recalls = subst (λ ks. RecallsMore rules ks a.detector c.detector) (sym joined)
            (recalls_on rules (of (part_of a) ms) (of (part_of a) (m ∷ [])) a.detector b.detector c.detector before.recalls
            (subst (λ (part : Round → Bool). RecallsMore rules (of part (m ∷ [])) b.detector c.detector) same one.recalls));
      }

  -- a message takes no more room than its bytes
  pub part_left : (m : Activity S D C P G) (a b : PartRecorder S D P G) (size n : ℕ) → 1 ≤ size →
      RecordsPart rules (m ∷ []) a b → a.read + (size + n) < 2 ^ 64 → b.read + n < 2 ^ 64
  part_left m a b size n some one room =
      let read = one.read_is in
      let few = at_most (part_of a (activity_round m)) in
      omega (arith, some, read, few, room)
    where
      at_most : (here : Bool) → length (cond here (m ∷ []) []) ≤ 1
      at_most true = omega arith
      at_most false = omega arith
