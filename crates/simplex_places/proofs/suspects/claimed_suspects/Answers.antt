use Rattle.std.proofs.Common.{◌≡◌, map, sym, ap, subst, ◌∙◌}
use Rattle.std.specs.BTreeSet.{contains}
use Rattle.std.proofs.lemmas.Simd.{map-map}
use Rattle.simplex_scheme.specs.Subject.{round_of}
use Rattle.simplex_rules.specs.Scheme.{rules_of, scheme_of}
use Rattle.simplex_rules.specs.Evidence.{IsEvidence}
use Rattle.simplex_rules.specs.Accusation.{round_cmp, signer_cmp, signer_in}
use Rattle.simplex_rules.specs.Rules.{valid_votes}
use Rattle.simplex_rules.specs.Suspects.{is_suspect, is_suspect_round, suspect_of}
use Rattle.simplex_rules.specs.Values.{evidence_value}
use Rattle.simplex_rules.specs.declared.evidence.SignerInRound.{SignerInRound}
use Rattle.simplex_rules.specs.declared.judging.Judging.TheVariants.{Claimed}
use Rattle.simplex_places.proofs.SuspectLemmas.{holds_alike}
use Rattle.simplex_places.proofs.suspects.claimed_suspects.Goals as goal

pub returns-clause-signers : goal.returns-clause-signers
returns-clause-signers g c = λ committees messages lawful recalls round signer.
    let eq = g.D.PartialEq.eq in
    let scheme = scheme_of g.D.PartialEq.eq g.S.CertificateScheme.keys g.S.Scheme.good
    g.S.CertificateVerifier.certified g.S.Listing.listed in
    let rules = rules_of scheme committees in
    let items = c.in_ok-evidence.evidence.items in
    let claims = map evidence_value items in
    let suspects = c.in_ok-suspects.suspects in
    let is = subst (λ judged. IsEvidence eq (valid_votes judged messages) claims)
    (c.suspects_determine_reports.ensures.claims committees)
    (c.in_ok-evidence.ensures.evidence Claimed committees messages recalls) in
    let law = c.suspects_suffice.ensures.signers rules messages claims lawful is (signer_in round signer) in
    let same : map (λ e. suspect_of (evidence_value e)) c.deref.result.now ≡ map suspect_of claims =
    ap (map (λ e. suspect_of (evidence_value e))) c.deref.ensures.value ∙ sym (map-map suspect_of evidence_value items) in
    holds_alike (contains signer_cmp suspects.signers) (λ (s : SignerInRound). is_suspect rules messages s.round s.signer)
    (map (λ e. suspect_of (evidence_value e)) c.deref.result.now) (map suspect_of claims) (signer_in round signer)
    same c.in_ok-suspects.ensures.signers (c.in_ok-suspects.ensures.only_signers (signer_in round signer)) law

pub returns-clause-rounds : goal.returns-clause-rounds
returns-clause-rounds g c = λ committees messages lawful recalls round.
    let eq = g.D.PartialEq.eq in
    let scheme = scheme_of g.D.PartialEq.eq g.S.CertificateScheme.keys g.S.Scheme.good
    g.S.CertificateVerifier.certified g.S.Listing.listed in
    let rules = rules_of scheme committees in
    let items = c.in_ok-evidence.evidence.items in
    let claims = map evidence_value items in
    let suspects = c.in_ok-suspects.suspects in
    let is = subst (λ judged. IsEvidence eq (valid_votes judged messages) claims)
    (c.suspects_determine_reports.ensures.claims committees)
    (c.in_ok-evidence.ensures.evidence Claimed committees messages recalls) in
    let law = c.suspects_suffice.ensures.rounds rules messages claims lawful is round in
    let same : map (λ e. round_of (evidence_value e).first.subject) c.deref.result.now
    ≡ map (λ e. round_of e.first.subject) claims =
    ap (map (λ e. round_of (evidence_value e).first.subject)) c.deref.ensures.value
    ∙ sym (map-map (λ e. round_of e.first.subject) evidence_value items) in
    holds_alike (contains round_cmp suspects.rounds) (is_suspect_round rules messages)
    (map (λ e. round_of (evidence_value e).first.subject) c.deref.result.now) (map (λ e. round_of e.first.subject) claims) round
    same c.in_ok-suspects.ensures.rounds (c.in_ok-suspects.ensures.only_rounds round) law
