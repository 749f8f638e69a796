-- The messages of rounds from a floor on, kept one after another.
use Rattle.std.proofs.Common.{◌≡◌, ℕ, List, [], ◌∷◌, ◌++◌, sym, ap, ◌∙◌, append_assoc, append-nil}
use Rattle.std.specs.List.{flat_map}
use Rattle.std.proofs.lemmas.Grind.{flat_map-append}
use Rattle.std.proofs.lemmas.List.Elements.{filter-append}
use Rattle.simplex_base.specs.Positions.{Round}
use Rattle.simplex_evidence.specs.Activity.{activity_round}
use Rattle.simplex_evidence.specs.declared.types.activity.Activity.{Activity}
use Rattle.simplex_rules.specs.Independence.{is_from, of_rounds}
use Rattle.simplex_monitor.specs.declared.sieve.Sieve.{Sieve}

module _ {S D C P G : Type 0} (encoding : Activity S D C P G → List ℕ) where
  -- the encodings of those of the messages that are of rounds from the floor on are appended
  pub record SievesMore (messages : List (Activity S D C P G)) (old new : Sieve) : Type 0 where
    pub floor : new.floor ≡ old.floor
    pub kept : new.kept.items ≡ old.kept.items ++ flat_map encoding (of_rounds (is_from old.floor) messages)

  -- what is kept of messages, if nothing was before
  pub sieved : (ms ks : List (Activity S D C P G)) (old new : Sieve) → SievesMore ms old new → ms ≡ ks → old.kept.items ≡ [] →
      new.kept.items ≡ flat_map encoding (of_rounds (is_from old.floor) ks)
  sieved ms ks old new more same none =
      more.kept ∙ (λ i. none i ++ flat_map encoding (of_rounds (is_from old.floor) (same i)))

  -- no message came
  pub sieves_none : (state : Sieve) → SievesMore [] state state
  sieves_none state = record { floor = λ i. state.floor; kept = sym (append-nil state.kept.items) }

  -- one message more came
  pub sieves_more : (ms : List (Activity S D C P G)) (m : Activity S D C P G) (a b c : Sieve) → SievesMore ms a b →
      SievesMore (m ∷ []) b c → SievesMore (ms ++ m ∷ []) a c
  sieves_more ms m a b c first one =
      let from : Round → List (Activity S D C P G) → List (Activity S D C P G) = λ floor. of_rounds (is_from floor) in
      let so_far = from a.floor ms in
      let here = from a.floor (m ∷ []) in
      record {
        floor = one.floor ∙ first.floor;
        kept = one.kept
            ∙ (λ i. first.kept i ++ flat_map encoding (from (first.floor i) (m ∷ [])))
            ∙ append_assoc a.kept.items (flat_map encoding so_far) (flat_map encoding here)
            ∙ ap (λ xs. a.kept.items ++ xs) (sym (flat_map-append encoding so_far here)
            ∙ ap (flat_map encoding) (sym (filter-append (λ k. is_from a.floor (activity_round k)) ms (m ∷ []))));
      }
