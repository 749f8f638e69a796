use Rattle.std.proofs.Common.{◌≡◌, length, map, sym, ap, ◌∙◌, subst, arith, vec_len}
use Rattle.std.specs.Prelude.{All, IsTrue}
use Rattle.std.specs.BTreeSet.{contains}
use Rattle.std.proofs.lemmas.Bool.{eqb-true}
use Rattle.std.proofs.lemmas.Simd.{map-map}
use Rattle.simplex_scheme.specs.Subject.{round_of}
use Rattle.simplex_rules.specs.Accusation.{round_cmp, signer_cmp}
use Rattle.simplex_rules.specs.Suspects.{suspect_of}
use Rattle.simplex_rules.specs.Values.{evidence_value}
use Rattle.simplex_audit.specs.Report.{evidence_in}
use Rattle.simplex_audit.proofs.DeferredLemmas.{nobody_reported, suspects_reported}
use Rattle.simplex_audit.proofs.audit.audit_suspects.Goals as goal

-- there is no claimed evidence
pub returns-then-is_empty-clause-report : goal.returns-then-is_empty-clause-report
returns-then-is_empty-clause-report g c =
    let claims = c.in_ok-claims.claims in
    let len : vec_len claims.evidence ≡ 0 =
    eqb-true (vec_len claims.evidence) 0 (sym c.is_empty.ensures ∙ c.if-is_empty.true) in
    let none : length claims.evidence.items ≡ 0 = omega (arith, claims.evidence.ok.0, len) in
    nobody_reported _ _ _ _ c.args.stream.now claims none
    (λ messages splits.
    c.suspects_determine_reports.ensures.nobody c.args.committees.now messages splits c.in_ok-claims.ensures.lawful)
    c.in_ok-claims.ensures.report

-- judging the suspects suffices
pub returns-clause-report : goal.returns-clause-report
returns-clause-report g c =
    let claims = c.in_ok-claims.claims in
    let suspects = c.in_ok-suspects.suspects in
    let has_rounds = subst (All (λ round. IsTrue (contains round_cmp suspects.rounds round)))
    (ap (map (λ e. round_of (evidence_value e).first.subject)) c.deref.ensures.value
    ∙ sym (map-map (λ e. round_of e.first.subject) evidence_value claims.evidence.items)) c.in_ok-suspects.ensures.rounds in
    let has_signers = subst (All (λ suspect. IsTrue (contains signer_cmp suspects.signers suspect)))
    (ap (map (λ e. suspect_of (evidence_value e))) c.deref.ensures.value
    ∙ sym (map-map suspect_of evidence_value claims.evidence.items)) c.in_ok-suspects.ensures.signers in
    suspects_reported _ _ c.in_ok-claims.ensures.readable _ _ _ c.args.stream.now claims c.in_ok-report.report
    c.in_ok-claims.ensures.report
    (λ messages es splits claimed judged are. c.suspects_determine_reports.ensures.suspects c.args.committees.now messages
    (evidence_in claims) suspects c.in_ok-claims.ensures.lawful claimed has_rounds has_signers es splits judged are)
    c.in_ok-report.ensures.report
