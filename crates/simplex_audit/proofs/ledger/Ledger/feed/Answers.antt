use Rattle.simplex_rules.specs.Independence.{first_round}
use Rattle.simplex_audit.proofs.ledger.Ledger.feed.Goals as goal

pub returns-clause-fed : goal.returns-clause-fed
returns-clause-fed g c committees stream fed = c.in_ok-feed.ensures.stands first_round committees stream fed
