use Rattle.std.proofs.Common.{map}
use Rattle.std.specs.Prelude.{codes}
use Rattle.simplex_scheme.specs.Subject.{subject_value}
use Rattle.simplex_rules.specs.Scheme.{scheme_of}
use Rattle.simplex_inspect.specs.Line.{subject_members, attestation_json}
use Rattle.simplex_inspect.specs.Shown.{shown_of}
use Rattle.simplex_inspect.proofs.TokenLemmas.{listed}
use Rattle.simplex_inspect.proofs.line.write_certificate.Goals as goal

pub returns : goal.returns
returns g c =
    let shown =
    shown_of g.D.Fixed.bytes_of g.S.Signature.Fixed.bytes_of (scheme_of g.D.PartialEq.eq g.S.CertificateScheme.keys
    g.S.Scheme.good g.S.CertificateVerifier.certified g.S.Listing.listed) c.args.committees.now in
    let subject = subject_value c.args.subject.now in
    rw (← c.attestations.ensures, ← c.certificate_validity.ensures)
    (listed c.close_listing.result (subject_members g.D.Fixed.bytes_of subject) (codes "signatures")
    (map (attestation_json shown subject) c.attestations.result.now) c.certificate_validity.result _
    c.in_ok-open_statement.ensures c.in_ok-write_attestations.ensures c.close_listing.ensures)
