use Rattle.simplex_rules.proofs.Prelude.{All, ap, are_known, certified_under, subject_value, true, ◌∙◌, ◌≡◌}
use Rattle.simplex_rules.proofs.CommitteeLemmas.{certified_by_scheme, holds_of_listed, known_tells}
use Rattle.simplex_detector.proofs.DetectorLemmas.{takes_certificate}
use Rattle.simplex_detector.proofs.GatherLemmas.{gathers_certificate}
use Rattle.simplex_detector.proofs.round_state.RoundState.observe_certificate.Goals as goal

-- if what is recorded is valid, a certificate that is found to certify does, and the signatures that it lists are valid
pub returns : goal.returns
returns g c =
    let x = subject_value c.args.subject.now in
    let s = c.args.judge.now.committee.now in
    let judging = c.args.judge.now.judging.now in
    let good = g.S.Scheme.good s x in
    let valid_if_certified : certified_under g.S.CertificateVerifier.certified judging s x c.args.certificate.now ≡ true →
    All (λ a. g.S.Scheme.good s x a.signer a.signature ≡ true) (g.S.Listing.listed c.args.certificate.now) = λ certifies.
    (g.met.S.Listing.lists_quorums s x c.args.certificate.now
    (certified_by_scheme g.S.CertificateVerifier.certified judging s x c.args.certificate.now
    certifies)).each_good in
    record {
      takes = rw c.either.ensures (takes_certificate _ s x c.args.certificate.now _ c.attestations-attestations.ensures
          c.in_ok-news.news c.are_known.result c.args.self.now _ c.in_ok-signatures.ensures.records
          (λ valid. c.are_known.ensures ∙ (ap are_known (c.in_ok-signatures.ensures.verified valid) ∙ known_tells _))
          (λ valid. c.in_ok-news.ensures.records (holds_of_listed good _ _ _ _ _ c.attestations-attestations.ensures
          (c.in_ok-signatures.ensures.verified valid) valid_if_certified)));
      gathers = gathers_certificate _ s x c.args.certificate.now _ c.attestations-attestations.ensures _ c.args.self.now _ _
          c.in_ok-news.ensures.wanted
          (λ valid. ap are_known (c.in_ok-signatures.ensures.verified valid) ∙ known_tells _)
          (λ valid. c.in_ok-news.ensures.gathers (holds_of_listed good _ _ _ _ _ c.attestations-attestations.ensures
          (c.in_ok-signatures.ensures.verified valid) valid_if_certified));
    }
