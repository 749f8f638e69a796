use Rattle.std.proofs.Common.{◌≡◌, length, rules}
use Rattle.simplex_base.specs.Format.{fixed}
use Rattle.simplex_scheme.specs.Committee.{is_quorum}
use Rattle.simplex_schemes.specs.CommitteeLaws.{quorum_meaning}
use Rattle.simplex_schemes.specs.Plain.{plain_good}
use Rattle.simplex_scheme.specs.Subject.{subject_value}
use Rattle.simplex_schemes.proofs.plain.PlainCertificateVerifier.verify_certificate.Goals as goal

pub returns-clause-exactly : goal.returns-clause-exactly
returns-clause-exactly g c =
    let good = plain_good (fixed g.D.Fixed.SIZE g.D.Fixed.bytes_of g.D.Fixed.of_bytes) c.args.self.now
    (subject_value c.args.subject) in
    let tested : c.is_certified.result ≡ is_quorum (length c.args.self.now.keys) good c.args.certificate.now = search rules in
    rw tested (quorum_meaning (length c.args.self.now.keys) good c.args.certificate.now)
