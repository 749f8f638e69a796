use Rattle.simplex_rules.proofs.Prelude.{sym, ◌∙◌}
use Rattle.simplex_rules.proofs.OrderLemmas.{all_from_floor}
use Rattle.simplex_rules.proofs.pruning.pop_below.Goals as goal

-- the first round is from the floor on, so each is
pub returns-then-is_at_least-clause-all_stay : goal.returns-then-is_at_least-clause-all_stay
returns-then-is_at_least-clause-all_stay g c =
    all_from_floor c.args.floor c.in_ok-round.round.now (sym c.is_at_least.ensures ∙ c.if-is_at_least.true)
    c.args.rounds.now.entries c.in_ok-round.ensures.all_from
