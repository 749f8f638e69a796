-- One message that a recorder of one class takes, and the report of the class.
use Rattle.std.proofs.Common.{◌≡◌, ◌+◌, ℕ, Bool, cond, Option, List, [], ◌∷◌, length, refl, sym, ap, subst, ◌∙◌, arith, append-nil}
use Rattle.std.specs.List.{flat_map}
use Rattle.std.proofs.lemmas.Bool.{eq-eqb, ne_eqb}
use Rattle.std.proofs.lemmas.List.Elements.{All-weaker}
use Rattle.simplex_base.specs.Format.{Format, IsLawful}
use Rattle.simplex_base.specs.Positions.{Round}
use Rattle.simplex_base.specs.declared.codec.error.Error.{Error}
use Rattle.simplex_stream.specs.Fault.{IsFault}
use Rattle.simplex_stream.specs.Progress.{IsProgress}
use Rattle.simplex_stream.specs.StreamLaws.{messages_once}
use Rattle.simplex_votes.specs.Votes.{SignedVote}
use Rattle.simplex_evidence.specs.Activity.{IsActivity, activity_round, contents_of}
use Rattle.simplex_evidence.specs.Contents.{AreInConflict}
use Rattle.simplex_evidence.specs.Contradiction.{Conflicting_finalize, Conflicting_notarize, Equivocation, Nullify_finalize}
use Rattle.simplex_evidence.specs.declared.types.activity.Activity.{Activity}
use Rattle.simplex_evidence.specs.declared.types.activity.Activity.TheVariants as activity
use Rattle.simplex_detector.specs.Detector.{Recalls, RecallsMore}
use Rattle.simplex_rules.specs.Evidence.{IsEvidence}
use Rattle.simplex_rules.specs.Independence.{IsOfOneRound, RoundsAreIndependent, evidence_within, in_rounds, of_rounds, splits_within}
use Rattle.simplex_rules.specs.Laws.{EvidenceIsUnique}
use Rattle.simplex_rules.specs.Rules.{Rules, valid_votes}
use Rattle.simplex_rules.specs.SplitLaws.{SplitsAreUnique}
use Rattle.simplex_rules.specs.Splits.{AreSplits}
use Rattle.simplex_rules.specs.declared.split.Split.{Split}
use Rattle.simplex_audit.specs.Basis.{Basis}
use Rattle.simplex_audit.specs.Report.{IsReport, evidence_in}
use Rattle.simplex_audit.specs.declared.audit.Report.{Report}
use Rattle.simplex_shards.specs.Cut.{class_under}
use Rattle.simplex_shards.specs.Part.{IsPartAudit, IsPartOf, RecordsPart, part_of}
use Rattle.simplex_shards.specs.declared.part.PartRecorder.{PartRecorder}
use Rattle.simplex_shards.proofs.AloneLemmas.{splits_alike, votes_alike}

-- the votes of evidence that can be encoded contradict
pub in_conflict : {S D C P G : Type 0} (eq : D → D → Bool) (payload : Format D) (is_certificate : C → Type 0)
    (signature : Format G) (m : Activity S D C P G) → IsActivity eq payload is_certificate signature m →
    AreInConflict eq (contents_of m)
in_conflict eq payload is_certificate signature (activity.ConflictingNotarize c) is = (Conflicting_notarize, is.1)
in_conflict eq payload is_certificate signature (activity.ConflictingFinalize c) is = (Conflicting_finalize, is.1)
in_conflict eq payload is_certificate signature (activity.NullifyFinalize c) is = (Nullify_finalize, is.1)
in_conflict eq payload is_certificate signature _ is = tt

module _ {S D C P G : Type 0} (rules : Rules S D C P G) (m : Activity S D C P G) where
  -- a message of the class was recorded
  pub part_here : (old new : PartRecorder S D P G) (c : ℕ) → c ≡ class_under old.cut (activity_round m) → c ≡ old.class →
      new.cut ≡ old.cut → new.class ≡ old.class → new.read ≡ old.read + 1 →
      RecallsMore rules (m ∷ []) old.detector new.detector → RecordsPart rules (m ∷ []) old new
  part_here old new c is here cut class read recalls =
      let alone : of_rounds (part_of old) (m ∷ []) ≡ m ∷ [] =
      ap (λ (b : Bool). cond b (m ∷ []) []) (eq-eqb (class_under old.cut (activity_round m)) old.class (sym is ∙ here)) in
      record {
        cut_is = cut;
        class_is = class;
        read_is = read ∙ ap (λ (ks : List (Activity S D C P G)). old.read + length ks) (sym alone);
        recalls = subst (λ ks. RecallsMore rules ks old.detector new.detector) (sym alone) recalls;
      }

  -- one of another class was not
  pub part_elsewhere : (state : PartRecorder S D P G) (c : ℕ) → c ≡ class_under state.cut (activity_round m) →
      (c ≡ state.class → ⊥) → RecordsPart rules (m ∷ []) state state
  part_elsewhere state c is other =
      let none : of_rounds (part_of state) (m ∷ []) ≡ [] =
      ap (λ (b : Bool). cond b (m ∷ []) [])
      (ne_eqb (class_under state.cut (activity_round m)) state.class (λ e. other (is ∙ e))) in
      record {
        cut_is = refl;
        class_is = refl;
        read_is =
            let nothing = ap length none in
            omega (arith, nothing);
        recalls = subst (λ ks. RecallsMore rules ks state.detector state.detector) (sym none)
            (λ before held. subst (λ ks. Recalls rules ks state.detector) (sym (append-nil before)) held);
      }

module _ {S D C P G : Type 0} (basis : Basis S D C P G) where
  -- all messages of the class were recorded
  pub part_audit : (part : Round → Bool) (stream rest : List ℕ) (read : ℕ) (stop : Option Error)
      (old new : PartRecorder S D P G) (report : Report S D P G) →
      ((m : Activity S D C P G) → basis.format.is_value m → IsOfOneRound basis.rules.listed m) →
      part_of old ≡ part → Recalls basis.rules [] old.detector → old.read ≡ 0 →
      (p : IsProgress basis.format (λ ms. RecordsPart basis.rules ms old new) stream rest read stop) →
      report.read ≡ new.read →
      ((ms : List (Activity S D C P G)) → Recalls basis.rules ms new.detector →
      IsEvidence basis.rules.eq (valid_votes basis.rules ms) (evidence_in report)) →
      ((ms : List (Activity S D C P G)) → Recalls basis.rules ms new.detector →
      AreSplits basis.rules ms report.splits.items) →
      IsFault basis.format.reading (length (flat_map basis.format.encoding p.messages)) rest report.fault →
      IsPartAudit basis part stream report
  part_audit part stream rest read stop old new report one_round same nothing start p count evidence splits fault =
      let ms = p.messages in
      let one = All-weaker basis.format.is_value (IsOfOneRound basis.rules.listed) one_round ms p.are_messages.each in
      let recalled = p.recorded.recalls [] nothing in
      subst (λ (side : Round → Bool). IsPartAudit basis side stream report) same (record {
        messages = ms;
        rest = rest;
        are_messages = p.are_messages;
        report_is = record {
          read_is =
              let counted = p.recorded.read_is in
              omega (arith, count, counted, start);
          evidence_is = subst (λ vs. IsEvidence basis.rules.eq vs (evidence_in report))
              (votes_alike basis.rules (part_of old) ms one) (evidence (of_rounds (part_of old) ms) recalled);
          splits_are = splits_alike basis.rules (part_of old) ms one report.splits.items
              (splits (of_rounds (part_of old) ms) recalled);
        };
        fault_is = fault;
      })

  -- the report has the evidence and the splits of the class in the report of the whole stream
  pub part_of_whole : (part : Round → Bool) (stream : List ℕ) (report whole : Report S D P G) → IsLawful basis.format →
      ((vs : List (SignedVote D G)) (es : List (Equivocation D G)) → IsEvidence basis.rules.eq vs es →
      EvidenceIsUnique basis.rules.eq vs es) →
      ((rules : Rules S D C P G) (messages : List (Activity S D C P G)) (splits : List Split) →
      AreSplits rules messages splits → SplitsAreUnique rules messages splits) →
      ((messages : List (Activity S D C P G)) → RoundsAreIndependent basis.rules messages part) →
      IsPartAudit basis part stream report → IsReport basis stream whole → IsPartOf part whole report
  part_of_whole part stream report whole law only only_splits independent is all =
      let ms = is.messages in
      let judged = in_rounds part basis.rules in
      let same : all.messages ≡ ms =
      (messages_once basis.format law stream all.rest is.rest all.messages ms all.are_messages is.are_messages).0 in
      record {
        evidence = only (valid_votes judged ms) (evidence_in report) is.report_is.evidence_is
            (evidence_within part (evidence_in whole))
            ((independent ms).evidence (evidence_in whole)
            (subst (λ ks. IsEvidence basis.rules.eq (valid_votes basis.rules ks) (evidence_in whole)) same all.evidence_is));
        splits = only_splits judged ms report.splits.items is.report_is.splits_are
            (splits_within part whole.splits.items)
            ((independent ms).splits whole.splits.items
            (subst (λ ks. AreSplits basis.rules ks whole.splits.items) same all.splits_are));
      }
