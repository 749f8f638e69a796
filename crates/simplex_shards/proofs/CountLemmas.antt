-- How many messages there are in all classes, and in the reports of all parts.
use Rattle.std.proofs.Common.{◌≡◌, ◌+◌, ◌<◌, ◌≤◌, ◌==◌, ℕ, zero, suc, Bool, true, false, cond, inl, inr, Some, List, [], ◌∷◌, length, filter, refl, ap, ◌∙◌, arith, length-append}
use Rattle.std.specs.Prelude.{slice_get}
use Rattle.std.specs.List.{flat_map, sum_by}
use Rattle.std.proofs.lemmas.Bool.{cases_eq, cond-false, cond-true, eq-eqb, ne_eqb}
use Rattle.std.proofs.lemmas.List.Sums.{sum_by-cons}

-- f of so many numbers from one on, added
abbrev pub sum_from : (ℕ → ℕ) → ℕ → ℕ → ℕ
sum_from f from zero = 0
sum_from f from (suc k) = f from + sum_from f (suc from) k

sum_none : (f : ℕ → ℕ) (from k : ℕ) → ((i : ℕ) → f i ≡ 0) → sum_from f from k ≡ 0
sum_none f from zero none = refl
sum_none f from (suc k) none = let one = none from in let others = sum_none f (suc from) k none in omega (arith, one, others)

sum_both : (f g h : ℕ → ℕ) (from k : ℕ) → ((i : ℕ) → f i ≡ g i + h i) →
    sum_from f from k ≡ sum_from g from k + sum_from h from k
sum_both f g h from zero both = refl
sum_both f g h from (suc k) both =
    let one = both from in
    let others = sum_both f g h (suc from) k both in
    omega (arith, one, others)

-- 1 at one number
abbrev at_one : ℕ → ℕ → ℕ
at_one c i = cond (c == i) 1 0

sum_past : (c from k : ℕ) → c < from → sum_from (at_one c) from k ≡ 0
sum_past c from zero past = refl
sum_past c from (suc k) past =
    let one = cond-false {A = ℕ} (c == from) 1 0 (ne_eqb c from (λ e. omega (arith, e, past))) in
    let others = sum_past c (suc from) k (omega (arith, past)) in
    omega (arith, one, others)

sum_one : (c from k : ℕ) → from ≤ c → c < from + k → sum_from (at_one c) from k ≡ 1
sum_one c from zero low high = absurd (omega (arith, low, high))
sum_one c from (suc k) low high = elim (cases_eq c from) [
  | inl here ↦
      let one = cond-true {A = ℕ} (c == from) 1 0 (eq-eqb c from here) in
      let others = sum_past c (suc from) k (omega (arith, here)) in
      omega (arith, one, others)
  | inr other ↦
      let one = cond-false {A = ℕ} (c == from) 1 0 (ne_eqb c from other) in
      let others = sum_one c (suc from) k (omega (arith, low, other)) (omega (arith, high)) in
      omega (arith, one, others)
]

-- each element is of one class
pub all_counted : {M : Type 0} (class : M → ℕ) (k : ℕ) (ms : List M) → ((m : M) → class m < k) →
    sum_from (λ i. length (filter (λ m. class m == i) ms)) 0 k ≡ length ms
all_counted class k [] within = sum_none (λ i. 0) 0 k (λ i. refl)
all_counted {M} class k (m ∷ ms) within =
    let others = all_counted class k ms within in
    let one = sum_one (class m) 0 k (omega arith) (omega (arith, within m)) in
    let both = sum_both (λ i. length (filter (λ x. class x == i) (m ∷ ms))) (at_one (class m))
    (λ i. length (filter (λ x. class x == i) ms)) 0 k (λ i. counted (class m == i) (filter (λ x. class x == i) ms)) in
    omega (arith, others, one, both)
  where
    counted : (here : Bool) (xs : List M) → length (cond here (m ∷ xs) xs) ≡ cond {A = ℕ} here 1 0 + length xs
    counted true xs = omega arith
    counted false xs = omega arith

-- the reads of parts, added
pub reads_add_up : {X : Type 0} (read : X → ℕ) (f : ℕ → ℕ) (from : ℕ) (parts : List X) →
    ((i : ℕ) (part : X) → slice_get parts i ≡ Some part → read part ≡ f (from + i)) →
    sum_by read parts ≡ sum_from f from (length parts)
reads_add_up read f from [] each = refl
reads_add_up read f from (part ∷ parts) each =
    let at : from + 0 ≡ from = omega arith in
    let one = each zero part refl ∙ ap f at in
    let next : (i : ℕ) → from + suc i ≡ suc from + i = λ i. omega arith in
    let others = reads_add_up read f (suc from) parts (λ i p e. each (suc i) p e ∙ ap f (next i)) in
    omega (arith, one, others, sum_by-cons read part parts)

-- no more messages than bytes
pub few_messages : {M : Type 0} (encoding : M → List ℕ) → ((m : M) → 0 < length (encoding m)) → (ms : List M) →
    length ms ≤ length (flat_map encoding ms)
few_messages encoding some [] = omega arith
few_messages encoding some (m ∷ ms) =
    let one = some m in
    let others = few_messages encoding some ms in
    omega (arith, one, others, length-append (encoding m) (flat_map encoding ms))
