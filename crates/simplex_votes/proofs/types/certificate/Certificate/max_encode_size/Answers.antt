use Rattle.std.proofs.Common.{arith}
use Rattle.simplex_votes.proofs.SizeLemmas.{certificate_within}
use Rattle.simplex_votes.proofs.types.certificate.Certificate.max_encode_size.Goals as goal

pub returns-clause-within : goal.returns-clause-within
returns-clause-within g c n h =
    let most = certificate_within g.D.Fixed.SIZE (g.S.CertificateScheme.max_size c.args.participants) g.D.Fixed.bytes_of
    g.D.Fixed.of_bytes (g.S.Certificate.Read.fits c.args.participants) g.S.Certificate.Encoding.encoding
    (λ certificate. g.met.S.CertificateScheme.certificates_within c.args.participants certificate (omega arith)) n h in
    omega (arith, most)
