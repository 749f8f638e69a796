use Rattle.std.proofs.Common.{◌≡◌, length, ap, ◌∙◌}
use Rattle.simplex_base.specs.Format.{fixed}
use Rattle.simplex_scheme.specs.Committee.{is_quorum}
use Rattle.simplex_scheme.specs.Subject.{subject_value}
use Rattle.simplex_schemes.specs.CommitteeLaws.{quorum_meaning}
use Rattle.node_examples.specs.Judged.{judged_good}
use Rattle.node_examples.proofs.judged.JudgedCertificateVerifier.verify_certificate.Goals as goal
use Rattle.node_examples.proofs.judged.JudgedCertificateVerifier.verify_certificate.Goals.{in-Notarize, in-Nullify, in-Finalize}

pub returns-clause-certified : goal.returns-clause-certified
returns-clause-certified g c =
    let same : subject_value c.match-subject.subject2 ≡ subject_value c.args.subject = elim c.match-subject.branch [
      | in-Notarize w ↦ let a = w.in-Notarize.is in let b = w.subject2-is in cc
      | in-Nullify w ↦ let a = w.in-Nullify.is in let b = w.subject2-is in cc
      | in-Finalize w ↦ let a = w.in-Finalize.is in let b = w.subject2-is in cc
    ] in
    c.is_certified.ensures ∙ ap (λ s. is_quorum (length c.args.self.now.keys) (judged_good
    (fixed g.D.Fixed.SIZE g.D.Fixed.bytes_of g.D.Fixed.of_bytes) c.args.self.now s) c.args.certificate.now) same

pub returns-clause-exactly : goal.returns-clause-exactly
returns-clause-exactly g c =
    rw (returns-clause-certified g c) (quorum_meaning (length c.args.self.now.keys) (judged_good (fixed g.D.Fixed.SIZE
    g.D.Fixed.bytes_of g.D.Fixed.of_bytes) c.args.self.now (subject_value c.args.subject)) c.args.certificate.now)
