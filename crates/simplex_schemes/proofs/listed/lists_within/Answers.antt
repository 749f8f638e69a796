use Rattle.simplex_base.specs.Format.{fixed}
use Rattle.simplex_schemes.proofs.CountLemmas.{listed_within_bytes}
use Rattle.simplex_schemes.proofs.listed.lists_within.Goals as goal

pub returns : goal.returns
returns g c certificate =
    listed_within_bytes (fixed g.S.Signature.Fixed.SIZE g.S.Signature.Fixed.bytes_of g.S.Signature.Fixed.of_bytes)
    certificate
