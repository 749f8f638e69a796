-- Numbers of participants name committees as texts have to. It stands beside the definitions because a ghost member cites it,
-- which sees no proofs.
use Rattle.std.proofs.Common.{ℕ, ◌<◌, ◌^◌, List, [], arith, subst, sym}
use Rattle.std.specs.Prelude.{All, decimal}
use Rattle.std.specs.Str.Parse.{AllDigits}
use Rattle.std.proofs.lemmas.Fmt.{decimal_is_IsNumeral}
use Rattle.std.proofs.lemmas.List.Elements.{All-nil, All-cons}
use Rattle.std.proofs.lemmas.Str.Parse.{digit_from_value}
use Rattle.simplex_cli.specs.Arguments.{BeginsGroup, IsNaming}
use Rattle.simplex_cli.specs.Verdicts.{AreCount, by_count}

-- a number begins no group
number_begins_no_group : (n : ℕ) → n < 2 ^ 64 → ¬ BeginsGroup (decimal n)
number_begins_no_group n small (rest, e) =
    omega (arith, digit_from_value 64 (subst (AllDigits 10) e (decimal_is_IsNumeral n small).0.1).0)

-- a number of participants does not
count_begins_no_group : (texts : List (List ℕ)) (count : ℕ) → AreCount texts count →
    All (λ text. ¬ BeginsGroup text) texts
count_begins_no_group texts count (e, size) =
    subst (All (λ text. ¬ BeginsGroup text)) (sym e)
    (All-cons (λ text. ¬ BeginsGroup text) (decimal count) [] (number_begins_no_group count (omega (arith, size.1)))
    (All-nil _))

-- the texts of a number of participants are some
no_count : (count : ℕ) → ¬ AreCount [] count
no_count count (e, size) = absurd cc

-- numbers of participants name committees as texts have to
pub naming_by_count : IsNaming by_count
naming_by_count = record {
  some = λ committee (count, is, same). no_count count is;
  apart = λ texts committee (count, is, same). count_begins_no_group texts count is;
  may = λ texts committee (count, is, same). (count, is);
}
