use Rattle.std.proofs.Common.{◌-◌, ◌≤◌}
use Rattle.simplex_base.specs.Format.{fixed}
use Rattle.simplex_schemes.proofs.ListedLemmas.{SoFar}
use Rattle.simplex_schemes.proofs.listed.read_attestations.Given as goal

abbrev pub invariant-attestations : goal.invariant-attestations
invariant-attestations g l =
    (l.least ≤ l.bound) × SoFar (fixed g.S.Signature.Fixed.SIZE g.S.Signature.Fixed.bytes_of g.S.Signature.Fixed.of_bytes)
    l.bound l.count l.initial.rest l.attestations.items l.least (l.count - l.counter) l.rest
