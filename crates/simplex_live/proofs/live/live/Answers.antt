use Rattle.std.proofs.Common.{rules}
use Rattle.simplex_live.proofs.EndingLemmas.{live_fails, options_behind}
use Rattle.simplex_live.proofs.live.live.Goals as goal

pub returns-in_err-totals-clause-ends : goal.returns-in_err-totals-clause-ends
returns-in_err-totals-clause-ends g c =
    live_fails _ _ _ _ c.from_residual-in_err-totals.result c.in_err-totals.field-0.0 (search rules) (
      c.in-Ok.options,
      _,
      options_behind c.in-Ok.count c.args.words.now c.in-Ok.options c.in-Ok.ensures.options,
      c.in_err-totals.ensures.ends,
    )

pub returns-clause-ends : goal.returns-clause-ends
returns-clause-ends g c = (
  c.in-Ok.options,
  _,
  options_behind c.in-Ok.count c.args.words.now c.in-Ok.options c.in-Ok.ensures.options,
  c.in_ok-totals.ensures.ends,
)
