use Rattle.std.proofs.Common.{sym, ◌∙◌}
use Rattle.simplex_rules.specs.Independence.{first_round}
use Rattle.simplex_audit.proofs.AccusedLemmas.{if_ok}
use Rattle.simplex_audit.proofs.AuditorLemmas.{answers_fed, answers_over}
use Rattle.simplex_audit.proofs.input.take_piece.Goals as goal

pub returns-then-is_over-clause-answers : goal.returns-then-is_over-clause-answers
returns-then-is_over-clause-answers g c = λ committees stream.
    answers_over _ c.args.auditor c.args.piece.now (sym c.is_over.ensures.value ∙ c.if-is_over.true) first_round committees
    stream

pub returns-clause-answers : goal.returns-clause-answers
returns-clause-answers g c =
    if_ok _ _ (λ next stands committees stream. answers_fed _ c.args.auditor next c.args.piece.now stands
    (sym c.is_over.ensures.value ∙ c.if-is_over.false) first_round committees stream) c.feed.result c.feed.ensures.stands
