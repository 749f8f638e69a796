use Rattle.std.proofs.Common.{ℕ, List, codes, drop, map, string_bytes, subst}
use Rattle.simplex_cli.specs.OptionLaws.{drop_twice, words_behind}
use Rattle.simplex_cli.specs.Options.{AreBehindOption}
use Rattle.simplex_splitting.proofs.CutLemmas.{if_err}
use Rattle.simplex_splitting.proofs.OptionLemmas.{no_first, no_seed, no_size}
use Rattle.simplex_splitting.proofs.options.parse_head.Goals as goal

pub returns-in_err-bytes-clause-usage : goal.returns-in_err-bytes-clause-usage
returns-in_err-bytes-clause-usage c = if_err c.from_residual.result _ (no_first _ c.in_err-bytes.ensures.usage)

pub returns-in_err-signature-clause-usage : goal.returns-in_err-signature-clause-usage
returns-in_err-signature-clause-usage c =
    if_err c.from_residual-in_err-signature.result _
    (no_size _ _ c.in_ok-bytes.bytes c.in_ok-bytes.ensures.number c.in_err-signature.ensures.usage)

pub returns-in_err-seed-clause-usage : goal.returns-in_err-seed-clause-usage
returns-in_err-seed-clause-usage c =
    if_err c.from_residual-in_err-seed.result _ (no_seed _ _ c.in_ok-bytes.bytes c.in_ok-bytes.ensures.number
    (subst (λ (ws : List (List ℕ)). (number : ℕ) (behind : List (List ℕ)) →
    ¬ AreBehindOption (codes "--seed") 0 ws number behind)
    (words_behind string_bytes c.in_ok-bytes.first c.args.arguments.now) c.in_err-seed.ensures.usage))

pub returns-clause-head : goal.returns-clause-head
returns-clause-head c =
    let words = map string_bytes c.args.arguments.now in (
      drop c.in_ok-bytes.first words,
      subst (λ (n : ℕ). AreBehindOption (codes "--signature") 32 words n (drop c.in_ok-bytes.first words))
          c.in_ok-signature.ensures.size c.in_ok-bytes.ensures.number,
      subst (AreBehindOption (codes "--seed") 0 (drop c.in_ok-bytes.first words) c.in_ok-seed.seed)
          (drop_twice c.in_ok-bytes.first c.in_ok-seed.second words)
          (subst (λ (ws : List (List ℕ)). AreBehindOption (codes "--seed") 0 ws c.in_ok-seed.seed
          (drop c.in_ok-seed.second ws))
          (words_behind string_bytes c.in_ok-bytes.first c.args.arguments.now) c.in_ok-seed.ensures.number),
    )
