use Rattle.simplex_rules.proofs.Prelude.{cond-false, is_split, None, false_from_ne_true, Rules, Schedule, ap, arith, committee_of, length, rules_under, size_by, sym, ◌+◌, ◌∙◌, ◌≡◌, scheme_of}
use Rattle.simplex_rules.specs.declared.judging.Judging.{Judging}
use Rattle.simplex_detector.proofs.CountLemmas.{split_found}
use Rattle.simplex_rules.proofs.SplitLemmas.{from_subjects, someone_in_split}
use Rattle.simplex_detector.proofs.round_state.RoundState.split.Given as given
use Rattle.simplex_detector.proofs.round_state.RoundState.split.Goals as goal

abbrev rules : (g : given.Over) → Judging → Schedule g.row.S.Denot →
    Rules g.row.S.Denot g.row.D.Denot g.row.S-Certificate.Denot g.row.S-PublicKey.Denot g.row.S-Signature.Denot
rules g =
    rules_under (scheme_of g.D.PartialEq.eq g.S.CertificateScheme.keys g.S.Scheme.good
    g.S.CertificateVerifier.certified g.S.Listing.listed)

-- the round is not split
pub returns-then-not-is_split : goal.returns-then-not-is_split
returns-then-not-is_split g c judging messages l recalls =
    let all = rules g judging c.args.committees.now in
    sym (cond-false (is_split all messages c.args.round) _ None
    (from_subjects all messages c.args.round ∙ sym recalls.subjects.split ∙ sym c.is_split.ensures ∙ c.if-not-is_split.true))

-- the round has no committee
pub returns-in_default : goal.returns-in_default
returns-in_default g c judging messages l recalls =
    let size = ap (λ epoch. size_by g.S.CertificateScheme.keys (committee_of c.args.committees.now epoch)) (sym c.epoch.ensures)
    ∙ sym (ap (size_by g.S.CertificateScheme.keys) c.in_default.ensures) in
    let all = rules g judging c.args.committees.now in
    sym (cond-false (is_split all messages c.args.round) _ None
    (false_from_ne_true _ (λ e. absurd (omega (arith, size, someone_in_split all messages l c.args.round e)))))

-- the round is split
pub returns : goal.returns
returns g c judging messages l recalls =
    let all = rules g judging c.args.committees.now in
    let len : c.len-participants.result ≡ length (g.S.CertificateScheme.keys c.in-Some.committee.now) =
    c.len-participants.ensures ∙ ap length c.participants.ensures.keys in
    let size = ap (λ epoch. size_by g.S.CertificateScheme.keys (committee_of c.args.committees.now epoch)) (sym c.epoch.ensures)
    ∙ sym (ap (size_by g.S.CertificateScheme.keys) c.in-Some.ensures) ∙ sym len in
    split_found all l g.met.D.Eq.laws messages c.args.round c.args.self.now recalls
    (sym c.is_split.ensures ∙ c.if-not-is_split.false) c.len-participants.result size c.count_accused.result
    (c.max_faults.result + 1) c.count_accused.ensures (ap (λ k. k + 1) c.max_faults.ensures.value)
