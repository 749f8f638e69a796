use Rattle.std.proofs.Common.{arith}
use Rattle.simplex_votes.proofs.SizeLemmas.{proposed_within}
use Rattle.simplex_votes.proofs.types.notarization.Notarization.max_encode_size.Goals as goal

pub returns-clause-within : goal.returns-clause-within
returns-clause-within g c n h =
    let most = proposed_within g.D.Fixed.SIZE (g.S.CertificateScheme.max_size c.args.participants) g.D.Fixed.bytes_of
    g.D.Fixed.of_bytes (g.S.Certificate.Read.fits c.args.participants) g.S.Certificate.Encoding.encoding
    (λ certificate. g.met.S.CertificateScheme.certificates_within c.args.participants certificate (omega arith)) n.proposal
    n.certificate h.0 h.1 in
    omega (arith, most)
