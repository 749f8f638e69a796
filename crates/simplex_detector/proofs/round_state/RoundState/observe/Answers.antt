use Rattle.simplex_evidence.specs.Contents.{signed_value}
use Rattle.simplex_rules.proofs.Prelude.{IfOk-weaker, refl}
use Rattle.simplex_rules.proofs.MessageLemmas.{one_round}
use Rattle.simplex_detector.proofs.DetectorLemmas.{takes_two}
use Rattle.simplex_detector.proofs.GatherLemmas.{gathers_none}
use Rattle.simplex_detector.proofs.round_state.RoundState.observe.Goals as goal

pub returns-in-Vote-clause-takes : goal.returns-in-Vote-clause-takes
returns-in-Vote-clause-takes g c = rw c.in-Vote.is (λ conflict. c.observe_vote.ensures)

pub returns-in-Vote-clause-gathers : goal.returns-in-Vote-clause-gathers
returns-in-Vote-clause-gathers g c =
    rw c.in-Vote.is (IfOk-weaker c.observe_vote.result _ _
    (λ news taken. gathers_none _ c.args.judge.now.committee.now _ _ _ refl) c.observe_vote.ensures)

pub returns-in-Certificate-clause-takes : goal.returns-in-Certificate-clause-takes
returns-in-Certificate-clause-takes g c = rw c.in-Certificate.is (λ conflict. c.observe_certificate.ensures.takes)

pub returns-in-Certificate-clause-gathers : goal.returns-in-Certificate-clause-gathers
returns-in-Certificate-clause-gathers g c = rw c.in-Certificate.is c.observe_certificate.ensures.gathers

-- both votes of evidence
pub returns-in_ok-other-in-Evidence-clause-takes : goal.returns-in_ok-other-in-Evidence-clause-takes
returns-in_ok-other-in-Evidence-clause-takes g c = rw (c.in-Evidence.is, c.either.ensures) (λ conflict.
    takes_two _ _ _ _ _ _ _ _ _
    (one_round g.D.PartialEq.eq conflict.0 (signed_value c.in-Evidence.first) (signed_value c.in-Evidence.second) conflict.1)
    c.in_ok-one-in-Evidence.ensures c.in_ok-other-in-Evidence.ensures)

pub returns-in_ok-other-in-Evidence-clause-gathers : goal.returns-in_ok-other-in-Evidence-clause-gathers
returns-in_ok-other-in-Evidence-clause-gathers g c =
    rw c.in-Evidence.is (gathers_none _ c.args.judge.now.committee.now _ _ _ refl)
