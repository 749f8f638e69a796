-- Lists in strict order with no key in common, put into one list in order, are in strict order.
use Rattle.std.proofs.Common.{◌≡◌, ◌+◌, ◌≤◌, ◌<◌, ℕ, zero, suc, true, false, cond, inl, inr, Less, Equal, Ordering, List, [], ◌∷◌, ◌++◌, length, map, get_or, Some, refl, sym, ap, subst, ◌∙◌, arith}
use Rattle.std.specs.Prelude.{All, IsPermutation, slice_get}
use Rattle.std.specs.Cmp.{IsTotalOrder}
use Rattle.std.specs.List.{dedup, dedup_from, flat_map, sum_by}
use Rattle.std.specs.List.Sorted.{IsSorted, IsSortedByKey, IsStrictlySortedBy}
use Rattle.std.specs.Ordering.{eq_by_cmp, is_eq, is_lt, ordering_reverse}
use Rattle.std.proofs.lemmas.Bool.{cases_Bool, cases_eq, cond-false, cond-true, false_from_ne_true, false≢true}
use Rattle.std.proofs.lemmas.Cmp.{tied_itself}
use Rattle.std.proofs.lemmas.List.{get_or-map, length-map, map-append}
use Rattle.std.proofs.lemmas.List.Elements.{All-from_recursion, All-head, All-nil, All-tail, recursion_from_All}
use Rattle.std.proofs.lemmas.List.Kept.{IsStrictlySortedBy-dedup}
use Rattle.std.proofs.lemmas.List.Sorted.{IsPermutation-map, sum_by-IsPermutation}
use Rattle.std.proofs.lemmas.Option.{same_Some}
use Rattle.std.proofs.lemmas.List.Sums.{sum_by-append, sum_by-cons}

module _ {K : Type 0} (cmp : K → K → Ordering) (total : IsTotalOrder cmp) where
  -- 1 for a key that ties with k
  abbrev one_at : K → K → ℕ
  one_at k x = cond (eq_by_cmp cmp x k) 1 0

  -- how many keys tie with k
  abbrev count : K → List K → ℕ
  count k xs = sum_by (one_at k) xs

  tie : (x k : K) → eq_by_cmp cmp x k ≡ true → cmp x k ≡ Equal
  tie x k = elim (cmp x k) as (λ o. is_eq o ≡ true → o ≡ Equal) [ Equal ↦ λ e. refl | _ ↦ λ e. absurd (false≢true e) ]

  -- none of those above k ties with it
  none_above : (k : K) (xs : List K) → All (λ y. cmp k y ≡ Less) xs → count k xs ≡ 0
  none_above k [] above = refl
  none_above k (x ∷ xs) above =
      let behind = ap ordering_reverse (All-head (λ y. cmp k y ≡ Less) x xs above) in
      let apart : eq_by_cmp cmp x k ≡ false = ap is_eq (total.antisymm x k ∙ behind) in
      let one = cond-false {A = ℕ} (eq_by_cmp cmp x k) 1 0 apart in
      let others = none_above k xs (All-tail (λ y. cmp k y ≡ Less) x xs above) in
      omega (arith, one, others, sum_by-cons (one_at k) x xs)

  -- of keys in strict order at most one ties with k
  once : (k : K) (xs : List K) → IsStrictlySortedBy cmp xs → count k xs ≤ 1
  unfolding IsStrictlySortedBy
  once k [] sorted = omega arith
  once k (x ∷ xs) sorted = elim (cases_Bool (eq_by_cmp cmp x k)) [
    | inl same ↦
        let one = cond-true {A = ℕ} (eq_by_cmp cmp x k) 1 0 same in
        let others = none_above k xs (above xs (tie x k same) (All-from_recursion (λ y. cmp x y ≡ Less) xs sorted.0)) in
        omega (arith, one, others, sum_by-cons (one_at k) x xs)
    | inr apart ↦
        let one = cond-false {A = ℕ} (eq_by_cmp cmp x k) 1 0 apart in
        let others = once k xs sorted.1 in
        omega (arith, one, others, sum_by-cons (one_at k) x xs)
  ]
    where
      above : (ys : List K) → cmp x k ≡ Equal → All (λ y. cmp x y ≡ Less) ys → All (λ y. cmp k y ≡ Less) ys
      above [] same h = All-nil (λ z. cmp k z ≡ Less)
      above (y ∷ ys) same h = All-from_recursion (λ z. cmp k z ≡ Less) (y ∷ ys) (
        sym (total.congr x k y same) ∙ All-head (λ z. cmp x z ≡ Less) y ys h,
        recursion_from_All (λ z. cmp k z ≡ Less) ys (above ys same (All-tail (λ z. cmp x z ≡ Less) y ys h)),
      )

  -- keys of which no two tie stay as they are without repetitions
  dedup_same : (k : K) (xs : List K) → ((q : K) → count q (k ∷ xs) ≤ 1) → dedup_from (eq_by_cmp cmp) k xs ≡ k ∷ xs
  dedup_same k [] few = refl
  dedup_same k (x ∷ xs) few =
      let apart : eq_by_cmp cmp x k ≡ false = false_from_ne_true (eq_by_cmp cmp x k) (λ same.
      let first = cond-true {A = ℕ} (eq_by_cmp cmp k k) 1 0 (ap is_eq (tied_itself total k)) in
      let second = cond-true {A = ℕ} (eq_by_cmp cmp x k) 1 0 same in
      let all = few k in
      omega (arith, first, second, all, sum_by-cons (one_at k) k (x ∷ xs), sum_by-cons (one_at k) x xs)) in
      cond-false (eq_by_cmp cmp x k) _ _ apart
      ∙ ap (λ (l : List K). k ∷ l) (dedup_same x xs (λ q.
      let all = few q in
      omega (arith, all, sum_by-cons (one_at q) k (x ∷ xs))))

  strict : (xs : List K) → IsSorted cmp xs → ((q : K) → count q xs ≤ 1) → IsStrictlySortedBy cmp xs
  strict xs sorted few =
      subst (IsStrictlySortedBy cmp) (same xs few) (IsStrictlySortedBy-dedup total (λ x y. refl) xs sorted)
    where
      same : (ks : List K) → ((q : K) → count q ks ≤ 1) → dedup (eq_by_cmp cmp) ks ≡ ks
      same [] few = refl
      same (k ∷ ks) few = dedup_same k ks few

  -- ---- lists whose keys are of classes

  module _ (class : K → ℕ) (alike : (a b : K) → cmp a b ≡ Equal → class a ≡ class b) where
    none_of : (k : K) (i : ℕ) (xs : List K) → All (λ y. class y ≡ i) xs → (class k ≡ i → ⊥) → count k xs ≡ 0
    none_of k i [] each other = refl
    none_of k i (x ∷ xs) each other =
        let apart : eq_by_cmp cmp x k ≡ false = false_from_ne_true (eq_by_cmp cmp x k) (λ same.
        other (sym (alike x k (tie x k same)) ∙ All-head (λ y. class y ≡ i) x xs each)) in
        let one = cond-false {A = ℕ} (eq_by_cmp cmp x k) 1 0 apart in
        let others = none_of k i xs (All-tail (λ y. class y ≡ i) x xs each) other in
        omega (arith, one, others, sum_by-cons (one_at k) x xs)

    -- of lists whose classes follow one another, the first one's being `from`, at most one key ties with k
    pub record Few (from : ℕ) (lists : List (List K)) (k : K) : Type 0 where
      pub one : count k (flat_map (λ xs. xs) lists) ≤ 1
      pub none : class k < from → count k (flat_map (λ xs. xs) lists) ≡ 0

    few : (from : ℕ) (lists : List (List K)) (k : K) →
        ((i : ℕ) (xs : List K) → slice_get lists i ≡ Some xs → IsStrictlySortedBy cmp xs) →
        ((i : ℕ) (xs : List K) → slice_get lists i ≡ Some xs → All (λ y. class y ≡ from + i) xs) → Few from lists k
    few from [] k sorted of_class = record { one = omega arith; none = λ lt. refl }
    few from (xs ∷ lists) k sorted of_class =
        let others = few (suc from) lists k (λ i. sorted (suc i)) (λ i ys e.
        subst (λ (n : ℕ). All (λ y. class y ≡ n) ys) (omega arith) (of_class (suc i) ys e)) in
        let first : All (λ y. class y ≡ from) xs =
        subst (λ (n : ℕ). All (λ y. class y ≡ n) xs) (omega arith) (of_class zero xs refl) in
        let rest = flat_map (λ (ys : List K). ys) lists in
        let sum = sum_by-append (one_at k) xs rest in
        let at_most = once k xs (sorted zero xs refl) in
        record {
          one = elim (cases_eq (class k) from) [
            | inl here ↦ let none = others.none (omega (arith, here)) in omega (arith, sum, at_most, none)
            | inr other ↦ let none = none_of k from xs first other in let one = others.one in omega (arith, sum, none, one)
          ];
          none = λ lt.
              let none = none_of k from xs first (λ e. omega (arith, e, lt)) in
              let later = others.none (omega (arith, lt)) in
              omega (arith, sum, none, later);
        }

-- ---- elements by their keys

sorted_keys : {X K : Type 0} (key : X → K) (cmp : K → K → Ordering) (ys : List X) → IsSortedByKey key cmp ys →
    IsSorted cmp (map key ys)
sorted_keys key cmp [] sorted k d low within = absurd (omega (arith, within))
sorted_keys {X} key cmp (y ∷ ys) sorted k d low within =
    let len = length-map (y ∷ ys) key in
    let at : (i : ℕ) → i < length (map key (y ∷ ys)) → get_or (map key (y ∷ ys)) i d ≡ key (get_or (y ∷ ys) i y) =
    λ i lt. get_or-map key (y ∷ ys) i y d (subst (λ (n : ℕ). i < n) len lt) in
    ap (λ (x : _). is_lt (cmp x (get_or (map key (y ∷ ys)) k d))) (at (k + 1) within)
    ∙ (ap (λ (x : _). is_lt (cmp (key (get_or (y ∷ ys) (k + 1) y)) x)) (at k (omega (arith, within)))
    ∙ sorted k y low (omega (arith, within, len)))

module _ {X K : Type 0} (key : X → K) where
  -- the keys of parts
  abbrev keys_of : List (List X) → List (List K)
  keys_of parts = map (map key) parts

  flat_keys : (parts : List (List X)) → map key (flat_map (λ xs. xs) parts) ≡ flat_map (λ ks. ks) (keys_of parts)
  flat_keys [] = refl
  flat_keys (xs ∷ parts) =
      map-append key xs (flat_map (λ ys. ys) parts) ∙ ap (λ (l : List K). map key xs ++ l) (flat_keys parts)

  at_keys : (P : List K → Type 0) (parts : List (List X)) (i : ℕ) (ks : List K) →
      ((xs : List X) → slice_get parts i ≡ Some xs → P (map key xs)) → slice_get (keys_of parts) i ≡ Some ks → P ks
  at_keys P [] i ks each e = absurd cc
  at_keys P (xs ∷ parts) zero ks each e = subst P (same_Some (map key xs) ks e) (each xs refl)
  at_keys P (xs ∷ parts) (suc i) ks each e = at_keys P parts i ks each e

-- Parts in strict order, with keys of classes that follow one another from 0 on, sorted into one list.
pub merged_strictly : {X K : Type 0} (key : X → K) (cmp : K → K → Ordering) → IsTotalOrder cmp → (class : K → ℕ) →
    ((a b : K) → cmp a b ≡ Equal → class a ≡ class b) → (parts : List (List X)) (ys : List X) →
    ((i : ℕ) (xs : List X) → slice_get parts i ≡ Some xs → IsStrictlySortedBy cmp (map key xs)) →
    ((i : ℕ) (xs : List X) → slice_get parts i ≡ Some xs → All (λ k. class k ≡ i) (map key xs)) →
    IsPermutation (flat_map (λ xs. xs) parts) ys → IsSortedByKey key cmp ys → IsStrictlySortedBy cmp (map key ys)
merged_strictly {X} {K} key cmp total class alike parts ys each_sorted each_class moved sorted =
    strict cmp total (map key ys) (sorted_keys key cmp ys sorted) (λ q.
    let one = (few cmp total class alike 0 (keys_of key parts) q
    (λ i ks e. at_keys key (IsStrictlySortedBy cmp) parts i ks (each_sorted i) e)
    (λ i ks e. subst (λ (n : ℕ). All (λ k. class k ≡ n) ks) (omega arith)
    (at_keys key (All (λ k. class k ≡ i)) parts i ks (each_class i) e))).one in
    let same = sum_by-IsPermutation (one_at cmp total q) (flat_map (λ ks. ks) (keys_of key parts)) (map key ys)
    (subst (λ (l : List K). IsPermutation l (map key ys)) (flat_keys key parts)
    (IsPermutation-map key (flat_map (λ xs. xs) parts) ys moved)) in
    omega (arith, one, same))
