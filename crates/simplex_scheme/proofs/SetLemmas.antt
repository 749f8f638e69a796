-- What a sort followed by a `dedup` leaves, and where a search of ascending keys ends.
use Rattle.std.proofs.Common.{◌≡◌, ℕ, zero, suc, ◌+◌, ◌<◌, ◌≤◌, Bool, false, List, [], ◌∷◌, length, cond, refl, sym, ap, subst, ◌∙◌, arith, Ordering, Less, Equal, Greater, Ok, Err, Result, All, IsPermutation, ⊎_elim, Option, IfNone, IfSome, IfOk, IsTrue, ◌↔◌, true}
use Rattle.std.specs.Prelude.{MatchResult}
use Rattle.std.specs.List.{dedup, dedup_from, IsAllAdjacentAnswer, IsDistinct, HoldsAt, slice_get}
use Rattle.std.specs.Option.{IsSomeAnd}
use Rattle.std.specs.List.Retain.{IsFiltered, DiffersFromLast}
use Rattle.std.specs.List.Sorted.{IsSorted, IsStrictlySortedBy, IsBinarySearchResult, IsSearchInRange}
use Rattle.std.specs.Result.{result_ok}
use Rattle.std.specs.Cmp.{IsTotalOrder}
use Rattle.std.specs.Ordering.{eq_by_cmp, is_eq, is_lt, ordering_reverse}
use Rattle.std.proofs.lemmas.Bool.{cases_lt, cond_both, false≢true}
use Rattle.std.proofs.lemmas.Cmp.{eq_by_cmp_equiv}
use Rattle.std.proofs.lemmas.List.Filters.{dedup_is}
use Rattle.std.proofs.lemmas.List.Kept.{IsStrictlySortedBy-dedup}
use Rattle.std.proofs.lemmas.List.Sorted.{IsPermutation-sym, length_permutation, searchable_from_sorted}
use Rattle.std.proofs.lemmas.Map.Keys.{IsDistinct-from_sorted, IsDistinct-IsPermutation, Less-from_sorted, sorted_from_all_adjacent, IsDistinct-head, IsDistinct-tail}

module _ {K : Type 0} (E : K → K → Bool) where
  -- `dedup` adds nothing
  length-dedup_from-le : (k : K) (xs : List K) → length (dedup_from E k xs) ≤ suc (length xs)
  length-dedup_from-le k [] = omega arith
  length-dedup_from-le k (x ∷ xs) =
      cond_both (E x k) (dedup_from E k xs) (k ∷ dedup_from E x xs) (λ ys. length ys ≤ suc (suc (length xs)))
      (λ _. omega (arith, length-dedup_from-le k xs))
      (λ _. omega (arith, length-dedup_from-le x xs))

  -- a `dedup` that is as long as its list is the list
  dedup_from_whole : (k : K) (xs : List K) → suc (length xs) ≤ length (dedup_from E k xs) → dedup_from E k xs ≡ k ∷ xs
  dedup_from_whole k [] whole = refl
  dedup_from_whole k (x ∷ xs) whole =
      cond_both (E x k) (dedup_from E k xs) (k ∷ dedup_from E x xs) (λ ys. suc (suc (length xs)) ≤ length ys → ys ≡ k ∷ x ∷ xs)
      (λ _ long. absurd (omega (arith, length-dedup_from-le k xs)))
      (λ _ long. ap (λ ys. k ∷ ys) (dedup_from_whole x xs (omega arith)))
      whole

  pub dedup_whole : (xs : List K) → length xs ≤ length (dedup E xs) → dedup E xs ≡ xs
  dedup_whole [] whole = refl
  dedup_whole (x ∷ xs) whole = dedup_from_whole x xs (omega arith)

  -- a list of distinct keys is its own `dedup`
  dedup_from_distinct : (flips : (x y : K) → E x y ≡ E y x) (k : K) (xs : List K) → IsDistinct E (k ∷ xs) →
      dedup_from E k xs ≡ k ∷ xs
  dedup_from_distinct flips k [] apart = refl
  dedup_from_distinct flips k (x ∷ xs) apart =
      let first : E x k ≡ false = flips x k ∙ (IsDistinct-head E k (x ∷ xs) apart).0 in
      ap (λ b. cond b (dedup_from E k xs) (k ∷ dedup_from E x xs)) first
      ∙ ap (λ ys. k ∷ ys) (dedup_from_distinct flips x xs (IsDistinct-tail E k (x ∷ xs) apart))

  pub dedup_distinct : (flips : (x y : K) → E x y ≡ E y x) (xs : List K) → IsDistinct E xs → dedup E xs ≡ xs
  dedup_distinct flips [] apart = refl
  dedup_distinct flips (x ∷ xs) apart = dedup_from_distinct flips x xs apart

-- `given` was sorted to `sorted`, and `kept` is what `dedup` left of that
module _ {K : Type 0} {E : K → K → Bool} {order : K → K → Ordering} (total : IsTotalOrder order)
    (ties : (x y : K) → E x y ≡ is_eq (order x y)) (given sorted kept : List K) (moved : IsPermutation given sorted)
    (filtered : IsFiltered (DiffersFromLast E) [] sorted kept) where
  -- equality returns the same for two keys in either order
  flips : (x y : K) → E x y ≡ E y x
  flips x y = ties x y ∙ (eq_by_cmp_equiv total).symm x y ∙ sym (ties y x)

  kept_is : kept ≡ dedup E sorted
  kept_is = dedup_is E sorted kept filtered

  pub kept_ascends : IsSorted order sorted → IsStrictlySortedBy order kept
  kept_ascends rising = subst (IsStrictlySortedBy order) (sym kept_is) (IsStrictlySortedBy-dedup total ties sorted rising)

  -- where nothing was left out, `kept` is `sorted`
  kept_all : length given ≤ length kept → kept ≡ sorted
  kept_all whole =
      kept_is ∙ dedup_whole E sorted (omega (arith, length_permutation given sorted moved, ap length kept_is))

  pub kept_permutes : length given ≤ length kept → IsPermutation given kept
  kept_permutes whole = subst (IsPermutation given) (sym (kept_all whole)) moved

  pub given_distinct : IsSorted order sorted → length given ≤ length kept → IsDistinct E given
  given_distinct rising whole =
      let agree : E ≡ eq_by_cmp order = λ t x y. ties x y t in
      let apart = IsDistinct-from_sorted order kept (kept_ascends rising) in
      IsDistinct-IsPermutation E flips kept given (IsPermutation-sym given kept (kept_permutes whole))
      (subst (λ e. IsDistinct e kept) (sym agree) apart)

  pub given_repeats : length kept < length given → IsDistinct E given → ⊥
  given_repeats fewer apart =
      let whole = dedup_distinct E flips sorted (IsDistinct-IsPermutation E flips given sorted moved apart) in
      omega (arith, length_permutation given sorted moved, ap length (kept_is ∙ whole))

-- a search of ascending keys that finds none at `key` shows that none equals it
module _ {K : Type 0} {E : K → K → Bool} {order : K → K → Ordering} (total : IsTotalOrder order)
    (ties : (x y : K) → E x y ≡ is_eq (order x y)) (keys : List K) (rising : IsStrictlySortedBy order keys) where
  -- no key is below the one before it
  adjacent : IsSorted order keys
  adjacent at other _ within =
      ap is_lt
      (total.antisymm _ _ ∙ ap ordering_reverse (Less-from_sorted order keys at (at + 1) other rising (omega arith) within))

  none_equal : (key : K) (place : ℕ) → IsBinarySearchResult (λ one. order one key) keys (Err place) →
      All (λ one. E one key ≡ false) keys
  none_equal key place found at other within =
      let parted = found (searchable_from_sorted total (λ one. one) keys key adjacent) in
      ties _ _ ∙ ⊎_elim (λ before. ap is_eq (parted.0 at other (omega arith) before))
      (λ after. ap is_eq (parted.1 at other after within)) (cases_lt at place)

  pub none_where_missed : (key : K) (searched : Result ℕ ℕ) (place : Option ℕ) →
      IsBinarySearchResult (λ one. order one key) keys searched → place ≡ result_ok searched →
      IfNone place (All (λ one. E one key ≡ false) keys)
  none_where_missed key (Ok at) place found is = rw is tt
  none_where_missed key (Err at) place found is = rw is (none_equal key at found)

-- what holds at a place in range holds of the element there
pub found_at : {X : Type 0} (P : X → Type 0) (xs : List X) (i : ℕ) → i < length xs → HoldsAt P xs i →
    IsSomeAnd (slice_get xs i) P
found_at P [] i lt h = absurd (omega arith)
found_at P (x ∷ xs) zero lt h = h x
found_at P (x ∷ xs) (suc i) lt h = found_at P xs i (omega arith) (λ d. h d)

-- what a search says where it ends at a place
pub met_of : {A E : Type 0} (P : A → Type 0) (Q : E → Type 0) (searched : Result A E) → MatchResult searched P Q →
    IfOk searched P
met_of P Q (Ok at) is = is
met_of P Q (Err at) is = tt

-- where a search ends, there is an equal key
pub found_where_met : {K : Type 0} {E : K → K → Bool} (order : K → K → Ordering) → ((a b : K) → E a b ≡ eq_by_cmp order a b) →
    (keys : List K) (key : K) (searched : Result ℕ ℕ) (place : Option ℕ) → IsSearchInRange searched (length keys) →
    IfOk searched (HoldsAt (λ one. order one key ≡ Equal) keys) → place ≡ result_ok searched →
    IfSome place (λ i. IsSomeAnd (slice_get keys i) (λ one. E one key ≡ true))
found_where_met {K} {E} order ties keys key (Ok at) place range here is =
    rw is (found_at (λ one. E one key ≡ true) keys at range (λ d. ties _ _ ∙ ap is_eq (here d)))
found_where_met order ties keys key (Err at) place range here is = rw is tt

-- keys of which each is below the next ascend, and no others do
module _ {K : Type 0} {order : K → K → Ordering} (total : IsTotalOrder order) where
  less : (answer : Ordering) → true ≡ is_lt answer → answer ≡ Less
  less Less is = refl
  less Equal is = absurd (false≢true (sym is))
  less Greater is = absurd (false≢true (sym is))

  pub ascending_where_adjacent : (keys : List K) (answer : Bool) →
      IsAllAdjacentAnswer (λ x y b. b ≡ is_lt (order x y)) keys answer → IsTrue answer ↔ IsStrictlySortedBy order keys
  unfolding IsStrictlySortedBy
  ascending_where_adjacent [] true each = (λ _. tt, λ _. refl)
  ascending_where_adjacent (key ∷ keys) true each =
      (λ _. sorted_from_all_adjacent total (key ∷ keys) key (λ k within. less _ (each k key within)), λ _. refl)
  ascending_where_adjacent [] false (k, within, differs) = absurd (omega (arith, within))
  ascending_where_adjacent (key ∷ keys) false (k, within, differs) = (
    λ never. absurd (false≢true never),
    λ rising. absurd (false≢true
        (differs key ∙ ap is_lt (Less-from_sorted order (key ∷ keys) k (k + 1) key rising (omega arith) within))),
  )
