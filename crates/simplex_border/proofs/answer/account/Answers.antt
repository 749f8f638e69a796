use Rattle.std.proofs.Common.{rules}
use Rattle.simplex_border.proofs.answer.account.Goals as goal

pub returns : goal.returns
returns g c = (c.in_ok-report.ensures.audit, search rules)
