-- How many numbers have a property.
use Rattle.std.proofs.Common.{◌≡◌, ℕ, zero, suc, ◌+◌, ◌-◌, ◌<◌, ◌≤◌, ◌⊎◌, inl, inr, refl, arith, List, [], ◌∷◌, ◌++◌, length, get_or, length-append}
use Rattle.std.specs.List.{Contains}
use Rattle.std.specs.List.Sorted.{IsStrictlyIncreasing}
use Rattle.std.proofs.lemmas.Bool.{cases_lt}
use Rattle.std.proofs.lemmas.List.{get_or_append_left, get_or-append_right}
use Rattle.std.proofs.lemmas.List.Elements.{Contains-append_left, Contains-append_right, Contains-append_cases, Contains-get_or}
use Rattle.simplex_lead.specs.Windows.{NumberExactly}

-- n numbers, from a on
abbrev run : ℕ → ℕ → List ℕ
run a zero = []
run a (suc n) = a ∷ run (a + 1) n

length-run : (a n : ℕ) → length (run a n) ≡ n
length-run a zero = refl
length-run a (suc n) = omega (arith, length-run (a + 1) n)

get_or-run : (a n i d : ℕ) → i < n → get_or (run a n) i d ≡ a + i
get_or-run a zero i d lt = omega arith
get_or-run a (suc n) zero d lt = omega arith
get_or-run a (suc n) (suc i) d lt = omega (arith, get_or-run (a + 1) n i d (omega arith))

-- an interval has as many numbers as it is long
pub number_between : (a n : ℕ) → NumberExactly (λ q. (a ≤ q) × (q < a + n)) n
number_between a n = record {
  members = run a n;
  rising = λ k lt.
      let len = length-run a n in omega (arith, get_or-run a n k 0 (omega arith), get_or-run a n (k + 1) 0 (omega arith));
  exact = λ q. (
    (λ (k, lt, is). let len = length-run a n in let here = get_or-run a n k q (omega arith) in (omega arith, omega arith)),
    (λ (low, high).
        (q - a, (let len = length-run a n in omega arith), (let here = get_or-run a n (q - a) q (omega arith) in omega arith))),
  );
  many = length-run a n;
}

-- two rising lists, the first below the second, one after the other
rising-append : (xs ys : List ℕ) → IsStrictlyIncreasing xs → IsStrictlyIncreasing ys →
    ((p q : ℕ) → Contains xs p → Contains ys q → p < q) → IsStrictlyIncreasing (xs ++ ys)
rising-append xs ys rise_x rise_y apart k lt =
    let total = length-append xs ys in
    elim (cases_lt (k + 1) (length xs)) as (λ _. get_or (xs ++ ys) k 0 < get_or (xs ++ ys) (k + 1) 0) [
      | inl within ↦
          rw (get_or_append_left xs ys 0 k (omega arith), get_or_append_left xs ys 0 (k + 1) within) (rise_x k within)
      | inr past ↦ elim (cases_lt k (length xs)) as (λ _. get_or (xs ++ ys) k 0 < get_or (xs ++ ys) (k + 1) 0) [
        | inl last ↦ rw (get_or_append_left xs ys 0 k last, get_or-append_right xs ys (length xs) (k + 1) 0 refl past)
            (apart _ _ (Contains-get_or xs k 0 last) (Contains-get_or ys (k + 1 - length xs) 0 (omega arith)))
        | inr beyond ↦ rw
            (get_or-append_right xs ys (length xs) k 0 refl beyond, get_or-append_right xs ys (length xs) (k + 1) 0 refl past)
            (let e : k + 1 - length xs ≡ (k - length xs) + 1 = omega arith in rw e (rise_y (k - length xs) (omega arith)))
      ]
    ]

-- the numbers of two properties, those of the first below those of the second
pub number_both : (P Q : ℕ → Type 0) (m n : ℕ) → NumberExactly P m → NumberExactly Q n → ((p q : ℕ) → P p → Q q → p < q) →
    NumberExactly (λ x. P x ⊎ Q x) (m + n)
number_both P Q m n first second apart = record {
  members = first.members ++ second.members;
  rising = rising-append _ _ first.rising second.rising (λ p q a b. apart p q ((first.exact p).0 a) ((second.exact q).0 b));
  exact = λ q. (
    (λ h. elim (Contains-append_cases first.members second.members q h) as (λ _. P q ⊎ Q q)
        [ inl a ↦ inl ((first.exact q).0 a) | inr b ↦ inr ((second.exact q).0 b) ]),
    (λ h. elim h as (λ _. Contains (first.members ++ second.members) q) [
      | inl a ↦ Contains-append_left _ _ q ((first.exact q).1 a)
      | inr b ↦ Contains-append_right _ _ q ((second.exact q).1 b)
    ]),
  );
  many = omega (arith, length-append first.members second.members, first.many, second.many);
}

-- the same numbers, described otherwise
pub number_same : (P Q : ℕ → Type 0) (n : ℕ) → NumberExactly P n → ((q : ℕ) → P q → Q q) → ((q : ℕ) → Q q → P q) →
    NumberExactly Q n
number_same P Q n counted to from = record {
  members = counted.members;
  rising = counted.rising;
  exact = λ q. ((λ h. to q ((counted.exact q).0 h)), (λ h. (counted.exact q).1 (from q h)));
  many = counted.many;
}
