-- Numbers in four bytes ascend as they do.
use Rattle.std.proofs.Common.{◌≡◌, ℕ, ◌+◌, ◌/◌, ◌%◌, ◌<◌, ◌≤◌, ◌^◌, List, [], ◌∷◌, ◌++◌, Less, arith, length}
use Rattle.std.specs.Int.{w32, to_be_bytes, bytes_high_first}
use Rattle.std.specs.List.Sorted.{IsStrictlySortedBy}
use Rattle.std.specs.Ordering.{nat_cmp}
use Rattle.std.specs.Cmp.Lexicographic.{slice_cmp}
use Rattle.std.proofs.lemmas.Bool.Decides.{nat_tests}
use Rattle.std.proofs.lemmas.Cmp.{nat_list_cmp_total}
use Rattle.std.proofs.lemmas.List.FromFn.{length-map-range_with_len, get_or-map-range_with_len, map-range_with_len_more}
use Rattle.std.proofs.lemmas.Map.Keys.{sorted_from_all_adjacent}
use Rattle.simplex_schemes.specs.Marked.{numbered}

-- a lower first byte decides, and after equal ones the others do
by_first : (x y : ℕ) (xs ys : List ℕ) → x ≤ y → (x ≡ y → slice_cmp nat_cmp xs ys ≡ Less) →
    slice_cmp nat_cmp (x ∷ xs) (y ∷ ys) ≡ Less
by_first x y xs ys upto others = grind (arith, nat_tests)

-- a lower number has lower bytes
module _ (m n : ℕ) (less : m < n) (fits : n < 2 ^ 32) where
  last : m / 256 ≡ n / 256 → slice_cmp nat_cmp (bytes_high_first 1 m) (bytes_high_first 1 n) ≡ Less
  last same = by_first (m % 256) (n % 256) [] [] (omega arith) (λ tie. absurd (omega arith))

  third : m / 65536 ≡ n / 65536 → slice_cmp nat_cmp (bytes_high_first 2 m) (bytes_high_first 2 n) ≡ Less
  third same =
      by_first (m / 256 % 256) (n / 256 % 256) (bytes_high_first 1 m) (bytes_high_first 1 n) (omega arith)
      (λ tie. last (omega arith))

  second : m / 16777216 ≡ n / 16777216 → slice_cmp nat_cmp (bytes_high_first 3 m) (bytes_high_first 3 n) ≡ Less
  second same =
      by_first (m / 65536 % 256) (n / 65536 % 256) (bytes_high_first 2 m) (bytes_high_first 2 n) (omega arith)
      (λ tie. third (omega arith))

  lower_bytes : slice_cmp nat_cmp (to_be_bytes w32 m) (to_be_bytes w32 n) ≡ Less
  lower_bytes =
      by_first (m / 16777216 % 256) (n / 16777216 % 256) (bytes_high_first 3 m) (bytes_high_first 3 n) (omega arith)
      (λ tie. second (omega arith))

pub length_numbered : (n : ℕ) → length (numbered n) ≡ n
length_numbered n = length-map-range_with_len (to_be_bytes w32) 0 n

-- one more key
pub numbered_more : (n : ℕ) → numbered (n + 1) ≡ numbered n ++ to_be_bytes w32 n ∷ []
numbered_more n = map-range_with_len_more (to_be_bytes w32) 0 n n (omega arith)

pub numbered_ascend : (n : ℕ) → n < 2 ^ 32 → IsStrictlySortedBy (slice_cmp nat_cmp) (numbered n)
numbered_ascend n fits =
    sorted_from_all_adjacent nat_list_cmp_total (numbered n) [] (λ k within.
    let inside : k + 1 < n = omega (arith, length_numbered n) in
    rw (
      get_or-map-range_with_len (to_be_bytes w32) 0 n k k [] (omega arith) (omega arith),
      get_or-map-range_with_len (to_be_bytes w32) 0 n (k + 1) (k + 1) [] (omega arith) (omega arith),
    )
    (lower_bytes k (k + 1) (omega arith) (omega arith)))
