use Rattle.std.proofs.Common.{ℕ, List, codes, drop, map, string_bytes, subst}
use Rattle.simplex_cli.specs.Options.{AreBehindOption}
use Rattle.simplex_cli.specs.OptionLaws.{drop_twice, words_behind}
use Rattle.simplex_live.proofs.OptionLemmas.{if_err, no_first, no_second}
use Rattle.simplex_live.proofs.options.parse_window.Goals as goal

pub returns-in_err-retained-clause-usage : goal.returns-in_err-retained-clause-usage
returns-in_err-retained-clause-usage c = if_err c.from_residual.result _ (no_first _ c.in_err-retained.ensures.usage)

pub returns-in_err-ahead-clause-usage : goal.returns-in_err-ahead-clause-usage
returns-in_err-ahead-clause-usage c =
    if_err c.from_residual-in_err-ahead.result _ (no_second _ _ _ c.in_ok-retained.ensures.number
    (subst (λ (ws : List (List ℕ)). (number : ℕ) (behind : List (List ℕ)) →
    ¬ AreBehindOption (codes "--ahead") 10 ws number behind)
    (words_behind string_bytes c.in_ok-retained.first c.args.arguments.now) c.in_err-ahead.ensures.usage))

pub returns-clause-window : goal.returns-clause-window
returns-clause-window c =
    let words = map string_bytes c.args.arguments.now in (
      drop c.in_ok-retained.first words,
      c.in_ok-retained.ensures.number,
      subst (AreBehindOption (codes "--ahead") 10 (drop c.in_ok-retained.first words) c.in_ok-ahead.ahead)
          (drop_twice c.in_ok-retained.first c.in_ok-ahead.second words)
          (subst (λ (ws : List (List ℕ)). AreBehindOption (codes "--ahead") 10 ws c.in_ok-ahead.ahead
          (drop c.in_ok-ahead.second ws))
          (words_behind string_bytes c.in_ok-retained.first c.args.arguments.now) c.in_ok-ahead.ensures.number),
    )
