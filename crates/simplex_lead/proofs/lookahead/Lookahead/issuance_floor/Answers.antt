use Rattle.std.proofs.Common.{◌≡◌, ◌-◌, refl, rules}
use Rattle.simplex_lead.proofs.WindowLemmas.{floor_reach}
use Rattle.simplex_lead.proofs.lookahead.Lookahead.issuance_floor.Goals as goal

pub returns-clause-reach : goal.returns-clause-reach
returns-clause-reach c q later =
    let floor : c.saturating_sub-2.result ≡ c.args.view - c.args.self.now.optimistic_views - 1 =
    rw (c.saturating_sub-2.ensures, c.saturating_sub.ensures, c.new.ensures) refl in
    rw floor (floor_reach _ _ q _ c.get.ensures.some later (search rules))
