use Rattle.std.proofs.Common.{◌≡◌, length, rules}
use Rattle.simplex_scheme.specs.Committee.{is_quorum}
use Rattle.simplex_schemes.specs.CommitteeLaws.{quorum_meaning}
use Rattle.simplex_schemes.specs.Marked.{marked_good}
use Rattle.simplex_scheme.specs.Subject.{subject_value}
use Rattle.simplex_schemes.proofs.marked.MarkedCertificateVerifier.verify_certificate.Goals as goal

pub returns-clause-exactly : goal.returns-clause-exactly
returns-clause-exactly g c =
    let keys = length c.args.self.now.keys in
    let tested : c.is_certified.result
    ≡ is_quorum keys (marked_good keys (subject_value c.args.subject)) c.args.certificate.now =
    search rules in
    rw tested (quorum_meaning keys (marked_good keys (subject_value c.args.subject)) c.args.certificate.now)
