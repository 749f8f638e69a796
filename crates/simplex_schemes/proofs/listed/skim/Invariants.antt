use Rattle.std.proofs.Common.{◌≤◌}
use Rattle.simplex_base.specs.Format.{fixed}
use Rattle.simplex_schemes.specs.Skimmed.{IsSkimmed}
use Rattle.simplex_schemes.proofs.listed.skim.Given as goal

abbrev pub invariant-attestations : goal.invariant-attestations
invariant-attestations g l = (l.least ≤ l.bound) × IsSkimmed g.row.S.Denot g.row.S-PublicKey.Denot
    (fixed g.S.Signature.Fixed.SIZE g.S.Signature.Fixed.bytes_of g.S.Signature.Fixed.of_bytes)
    l.initial.rest l.rest l.read l.least
