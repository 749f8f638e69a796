use Rattle.simplex_rules.proofs.Prelude.{and_left, ap, round_of, subject_value, sym, ◌&&◌, ◌∙◌}
use Rattle.simplex_rules.proofs.CommitteeLemmas.{certified_if_verified, valid_by_scheme}
use Rattle.simplex_rules.proofs.judge.Judge.certifies.Goals as goal

-- no certificate of the round certifies
pub returns-then-not-verifies_certificates : goal.returns-then-not-verifies_certificates
returns-then-not-verifies_certificates g c valid =
    let x = subject_value c.args.subject.now in
    sym (certified_if_verified g.S.CertificateVerifier.certified c.args.self.now.judging.now c.args.self.now.committee.now x
    c.args.certificate.now
    ∙ and_left _ _ (sym c.verifies_certificates.ensures ∙ c.if-not-verifies_certificates.true))

-- what is known is valid under the scheme
pub returns : goal.returns
returns g c valid =
    let x = subject_value c.args.subject.now in
    let judging = c.args.self.now.judging.now in
    let s = c.args.self.now.committee.now in
    let verified = sym c.verifies_certificates.ensures ∙ c.if-not-verifies_certificates.false in
    c.verify_certificate.ensures (λ y signer signature known.
    valid_by_scheme g.S.CertificateScheme.keys g.S.Scheme.good judging s (round_of x) verified y signer signature
    (valid y signer signature known))
    ∙ sym (certified_if_verified g.S.CertificateVerifier.certified judging s x c.args.certificate.now
    ∙ ap (λ b. b && g.S.CertificateVerifier.certified s x c.args.certificate.now) verified)
