use Rattle.simplex_rules.proofs.Prelude.{All, false, is_gt, subst, sym, ◌∙◌, ◌≡◌}
use Rattle.simplex_rules.proofs.OrderLemmas.{by_key, accusations_from_floor}
use Rattle.simplex_rules.proofs.pruning.prune_accusations.Goals as goal

-- the first accusation that is left is from the floor on, so each is
pub returns-then-stays : goal.returns-then-stays
returns-then-stays c =
    let first = c.in-Some.accusation.now in
    let keys = c.below.accusations.keys in
    sym (c.below.invariant ∙ accusations_from_floor c.args.floor first (sym c.is_at_least-stays.ensures ∙ c.if-stays.true) keys
    (subst (λ (cmp : _ → _ → _). All (λ q. is_gt (cmp first q) ≡ false) keys) by_key c.in-Some.ensures.all_from))
