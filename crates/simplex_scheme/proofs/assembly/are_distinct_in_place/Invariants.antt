use Rattle.std.proofs.Common.{take}
use Rattle.simplex_scheme.proofs.AssemblyLemmas.{AreDistinctBelow}
use Rattle.simplex_scheme.proofs.assembly.are_distinct_in_place.Given as goal

abbrev pub invariant-signed : goal.invariant-signed
invariant-signed g l = AreDistinctBelow g.T.Attributable.signer_of l.fn.participants l.above (take l.place l.fn.signed)
