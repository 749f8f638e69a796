use Rattle.std.proofs.Common.{drop, map, string_bytes}
use Rattle.simplex_splitting.proofs.CutLemmas.{if_err}
use Rattle.simplex_splitting.proofs.OptionLemmas.{division_behind, no_division, no_division_behind, no_head}
use Rattle.simplex_splitting.proofs.options.parse_options.Goals as goal

pub returns-in_err-signature-clause-usage : goal.returns-in_err-signature-clause-usage
returns-in_err-signature-clause-usage c = if_err c.from_residual.result _ (no_head _ c.in_err-signature.ensures.usage)

pub returns-in_err-division-clause-usage : goal.returns-in_err-division-clause-usage
returns-in_err-division-clause-usage c =
    if_err c.from_residual-in_err-division.result _ (no_division _ _ _ _ c.in_ok-signature.ensures.head
    (no_division_behind c.in_ok-signature.count c.args.arguments.now c.in_err-division.ensures.usage))

pub returns-clause-options : goal.returns-clause-options
returns-clause-options c = (
  drop c.in_ok-signature.count (map string_bytes c.args.arguments.now),
  c.in_ok-signature.ensures.head,
  division_behind c.in_ok-signature.count c.args.arguments.now c.in_ok-division.division c.in_ok-division.ensures.division,
)
