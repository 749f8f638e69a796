use Rattle.simplex_base.specs.Format.{fixed}
use Rattle.simplex_base.specs.FinalityLaws.{fixed_final}
use Rattle.simplex_schemes.specs.ListedLaws.{listed_final}
use Rattle.simplex_schemes.proofs.listed.listed_refusals_are_final.Goals as goal

pub returns : goal.returns
returns g c bound =
    listed_final (fixed g.S.Signature.Fixed.SIZE g.S.Signature.Fixed.bytes_of g.S.Signature.Fixed.of_bytes) bound
    (fixed_final g.S.Signature.Fixed.SIZE g.S.Signature.Fixed.of_bytes)
