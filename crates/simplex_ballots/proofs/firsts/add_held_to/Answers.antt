use Rattle.std.proofs.Common.{ap, get_or, sym, take, [], ◌∷◌, ◌++◌, ◌∙◌, List, ℕ}
use Rattle.std.proofs.lemmas.List.{flat_map_more}
use Rattle.std.specs.List.{flat_map}
use Rattle.simplex_ballots.specs.Firsts.{first_key, held_from}
use Rattle.simplex_ballots.specs.declared.firsts.First.{First}
use Rattle.simplex_ballots.proofs.TableLemmas.{held_next_none, held_next_some}
use Rattle.simplex_ballots.proofs.firsts.add_held_to.Goals as goal
use Rattle.simplex_ballots.proofs.firsts.add_held_to.Goals.{then-places-index+in_ok-push, else-places-index}

pub places-preserved : goal.places-preserved
places-preserved c =
    let places = c.args.places.now in
    let i = c.places.index in
    let own : First → List ℕ = λ f. first_key f ∷ [] in
    elim c.if-places-index.branch [
      | then-places-index+in_ok-push w ↦
          ap (λ v. v.items) w.signers-is ∙ w.in_ok-push.ensures.items ∙ ap (λ ss. ss ++ i ∷ []) c.places.invariant
          ∙ flat_map_more own c.args.signers.now.items (held_from 0 (take i places))
          (record { signer = i; place = get_or places i 0 })
          ∙ ap (λ fs. c.args.signers.now.items ++ flat_map own fs)
          (sym (held_next_some places i 0 c.places-test.true w.if-places-index.true))
      | else-places-index w ↦
          ap (λ v. v.items) w.signers-is ∙ c.places.invariant
          ∙ ap (λ fs. c.args.signers.now.items ++ flat_map own fs)
          (sym (held_next_none places i 0 c.places-test.true w.if-places-index.false))
    ]
