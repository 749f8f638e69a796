use Rattle.std.proofs.Common.{take, [], ◌∷◌, ◌++◌, ◌≡◌}
use Rattle.std.specs.List.{flat_map}
use Rattle.simplex_ballots.specs.Firsts.{first_key}
use Rattle.simplex_ballots.specs.Index.{second_signer}
use Rattle.simplex_ballots.specs.declared.firsts.First.{First}
use Rattle.simplex_ballots.proofs.index.Index.add_seconds_to.Given as goal

abbrev pub invariant-others : goal.invariant-others
invariant-others l =
    l.signers.items
    ≡ (l.fn.signers.items ++ flat_map (λ (f : First). first_key f ∷ []) l.self.nullifies)
    ++ flat_map second_signer (take l.placed-index l.placed-items)
