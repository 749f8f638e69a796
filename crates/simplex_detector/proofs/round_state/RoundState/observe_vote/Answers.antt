use Rattle.simplex_rules.proofs.Prelude.{IfOk-weaker, refl, subject_value}
use Rattle.simplex_rules.proofs.CommitteeLemmas.{unverified}
use Rattle.simplex_detector.proofs.DetectorLemmas.{takes_vote}
use Rattle.simplex_detector.proofs.round_state.RoundState.observe_vote.Goals as goal

pub returns : goal.returns
returns g c =
    IfOk-weaker c.observe.result _ _ (λ news records. takes_vote _ c.args.judge.now.committee.now
    (subject_value c.args.vote.now.subject) c.args.vote.now.attestation.now news c.args.self.now _ refl
    (records (λ verified. absurd (unverified verified)))) c.observe.ensures
