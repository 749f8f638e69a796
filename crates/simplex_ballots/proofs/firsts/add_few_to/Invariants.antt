use Rattle.std.proofs.Common.{take, [], ◌∷◌, ◌++◌, ◌≡◌}
use Rattle.std.specs.List.{flat_map}
use Rattle.simplex_ballots.specs.Firsts.{first_key}
use Rattle.simplex_ballots.specs.declared.firsts.First.{First}
use Rattle.simplex_ballots.proofs.firsts.add_few_to.Given as goal

abbrev pub invariant-few : goal.invariant-few
invariant-few l =
    l.signers.items ≡ l.fn.signers.items ++ flat_map (λ (f : First). first_key f ∷ []) (take l.first-index l.few)
