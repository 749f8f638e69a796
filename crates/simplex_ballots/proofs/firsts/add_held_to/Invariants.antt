use Rattle.std.proofs.Common.{take, [], ◌∷◌, ◌++◌, ◌≡◌}
use Rattle.std.specs.List.{flat_map}
use Rattle.simplex_ballots.specs.Firsts.{first_key, held_from}
use Rattle.simplex_ballots.specs.declared.firsts.First.{First}
use Rattle.simplex_ballots.proofs.firsts.add_held_to.Given as goal

abbrev pub invariant-places : goal.invariant-places
invariant-places l =
    l.signers.items ≡ l.fn.signers.items ++ flat_map (λ (f : First). first_key f ∷ []) (held_from 0 (take l.index l.places))
