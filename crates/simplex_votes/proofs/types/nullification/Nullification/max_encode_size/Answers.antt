use Rattle.std.proofs.Common.{arith}
use Rattle.simplex_base.specs.Positions.{round_format}
use Rattle.simplex_base.specs.PositionLaws.{round_within}
use Rattle.simplex_votes.proofs.SizeLemmas.{certified_within}
use Rattle.simplex_votes.proofs.types.nullification.Nullification.max_encode_size.Goals as goal

pub returns-clause-within : goal.returns-clause-within
returns-clause-within g c n h =
    let most = certified_within round_format 20 (g.S.CertificateScheme.max_size c.args.participants)
    (g.S.Certificate.Read.fits c.args.participants) g.S.Certificate.Encoding.encoding round_within
    (λ certificate. g.met.S.CertificateScheme.certificates_within c.args.participants certificate (omega arith)) n.round
    n.certificate h.0 h.1 in
    omega (arith, most)
