use Rattle.std.proofs.Common.{◌+◌, codes, drop, map, string_bytes}
use Rattle.simplex_live.proofs.OptionLemmas.{behind_file, if_err, no_file_behind, no_keys, no_state, no_window}
use Rattle.simplex_live.proofs.options.parse_options.Goals as goal

pub returns-in_err-retained-clause-usage : goal.returns-in_err-retained-clause-usage
returns-in_err-retained-clause-usage c = if_err c.from_residual.result _ (no_window _ c.in_err-retained.ensures.usage)

pub returns-in_err-keys-clause-usage : goal.returns-in_err-keys-clause-usage
returns-in_err-keys-clause-usage c =
    if_err c.from_residual-in_err-keys.result _ (no_keys _ _ _ _ c.in_ok-retained.ensures.window
    (no_file_behind (codes "--keys") c.in_ok-retained.first c.args.arguments.now c.in_err-keys.ensures.usage))

pub returns-in_err-state-clause-usage : goal.returns-in_err-state-clause-usage
returns-in_err-state-clause-usage c =
    if_err c.from_residual-in_err-state.result _ (no_state _ _ _ _ _ _ c.in_ok-retained.ensures.window
    (behind_file (codes "--keys") c.in_ok-retained.first c.in_ok-keys.second c.args.arguments.now _ c.in_ok-keys.ensures.file)
    (no_file_behind (codes "--state") (c.in_ok-retained.first + c.in_ok-keys.second) c.args.arguments.now
    c.in_err-state.ensures.usage))

pub returns-clause-options : goal.returns-clause-options
returns-clause-options c = (
  drop c.in_ok-retained.first (map string_bytes c.args.arguments.now),
  drop (c.in_ok-retained.first + c.in_ok-keys.second) (map string_bytes c.args.arguments.now),
  c.in_ok-retained.ensures.window,
  behind_file (codes "--keys") c.in_ok-retained.first c.in_ok-keys.second c.args.arguments.now _ c.in_ok-keys.ensures.file,
  behind_file (codes "--state") (c.in_ok-retained.first + c.in_ok-keys.second) c.in_ok-state.third c.args.arguments.now _
      c.in_ok-state.ensures.file,
)
