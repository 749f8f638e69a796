use Rattle.std.proofs.Common.{arith}
use Rattle.simplex_scheme.specs.Subject.{subject_value}
use Rattle.simplex_rules.specs.Scheme.{scheme_of}
use Rattle.simplex_inspect.specs.Line.{attestation_json}
use Rattle.simplex_inspect.specs.Shown.{shown_of}
use Rattle.simplex_inspect.proofs.TokenLemmas.{written_next}
use Rattle.simplex_inspect.proofs.line.write_attestations.Goals as goal

pub loop-attestation-preserved : goal.loop-attestation-preserved
loop-attestation-preserved g c =
    let shown =
    shown_of g.D.Fixed.bytes_of g.S.Signature.Fixed.bytes_of (scheme_of g.D.PartialEq.eq g.S.CertificateScheme.keys
    g.S.Scheme.good g.S.CertificateVerifier.certified g.S.Listing.listed) c.args.committees.now in
    written_next (attestation_json shown (subject_value c.args.subject.now)) c.args.attestations.now
    c.loop-attestation.attestation-index c.attestation-item.result c.args.writer.now
    c.loop-attestation.writer c.write_attestation.new.writer (omega arith) c.attestation-item.is
    c.in_ok-write_attestation.ensures c.loop-attestation.invariant
