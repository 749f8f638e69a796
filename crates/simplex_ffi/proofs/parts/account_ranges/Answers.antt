use Rattle.std.proofs.Common.{rules}
use Rattle.simplex_ffi.proofs.parts.account_ranges.Goals as goal

pub returns : goal.returns
returns g c = (c.in_ok-report.ensures.audit c.args.committees.now _ c.in_ok-auditor.ensures, search rules)
