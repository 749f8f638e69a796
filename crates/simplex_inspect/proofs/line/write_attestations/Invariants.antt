use Rattle.simplex_scheme.specs.Subject.{subject_value}
use Rattle.simplex_rules.specs.Scheme.{scheme_of}
use Rattle.simplex_inspect.specs.Line.{attestation_json}
use Rattle.simplex_inspect.specs.Shown.{shown_of}
use Rattle.simplex_inspect.proofs.TokenLemmas.{IsBefore}
use Rattle.simplex_inspect.proofs.line.write_attestations.Given as goal

abbrev pub invariant-loop-attestation : goal.invariant-loop-attestation
invariant-loop-attestation g l =
    let shown =
    shown_of g.D.Fixed.bytes_of g.S.Signature.Fixed.bytes_of (scheme_of g.D.PartialEq.eq g.S.CertificateScheme.keys
    g.S.Scheme.good g.S.CertificateVerifier.certified g.S.Listing.listed) l.committees in
    IsBefore (attestation_json shown (subject_value l.subject)) l.attestations l.attestation-index l.fn.writer l.writer
