use Rattle.std.proofs.Common.{None, length, ◌<◌, Ok, Err, IfOk, IfErr, sym, subst, ◌∙◌, ◌≡◌}
use Rattle.std.proofs.lemmas.Result.{IfOk-weaker}
use Rattle.std.specs.List.{slice_get}
use Rattle.std.specs.Option.{IsSome}
use Rattle.std.specs.Prelude.{OnErr}
use Rattle.simplex_evidence.specs.VoteMap.{item_of, IsBySigner, IsGap}
use Rattle.simplex_evidence.proofs.GapLemmas.{item_in_gap, stands_at}
use Rattle.simplex_evidence.proofs.sorted.SortedList.find.Goals as goal

pub returns-clause-found : goal.returns-clause-found
returns-clause-found g c =
    let key_of = g.T.Keyed.key_of in
    let ordered = subst (IsBySigner key_of) (sym c.deref.ensures.value) c.self.invariant in
    IfOk-weaker c.place_of.result _ _ (λ place at.
    subst (λ xs. (place < length xs) × (IsSome (item_of key_of xs c.args.key) ×
    (slice_get xs place ≡ item_of key_of xs c.args.key))) (c.deref.ensures.value ∙ c.self.view_is)
    (at.0, stands_at key_of c.deref.result.now ordered place c.args.key at.0 at.1))
    c.place_of.ensures.found

pub returns-clause-none : goal.returns-clause-none
returns-clause-none g c =
    let key_of = g.T.Keyed.key_of in
    (elim c.place_of.result as (λ r. IfErr r (IsGap key_of c.deref.result.now c.args.key) →
    OnErr r (item_of key_of c.args.self.now c.args.key ≡ None)) [
      | Ok place ↦ λ at. tt
      | Err place ↦ λ gap. subst (λ xs. item_of key_of xs c.args.key ≡ None) (c.deref.ensures.value ∙ c.self.view_is)
          (item_in_gap key_of c.deref.result.now c.args.key place gap)
    ]) c.place_of.ensures.gap

pub returns-clause-gap : goal.returns-clause-gap
returns-clause-gap g c =
    subst (λ xs. IfErr c.place_of.result (IsGap g.T.Keyed.key_of xs c.args.key)) (c.deref.ensures.value ∙ c.self.view_is)
    c.place_of.ensures.gap
