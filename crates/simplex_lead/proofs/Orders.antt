-- Arrangements that ascend by hash, and the leaders of successive terms.
use Rattle.std.proofs.Common.{◌≡◌, ℕ, zero, suc, ◌+◌, ◌*◌, ◌-◌, ◌%◌, ◌^◌, ◌<◌, ◌≤◌, inl, inr, refl, sym, ap, arith, false, eqb, List, [], ◌∷◌, ◌++◌, length, get_or, map, take, drop, length-append, length-drop, add-one, ◌∙◌, Ordering, Option, Some, None}
use Rattle.std.proofs.Math.Nat.{mod-eq_of_lt, mod-add-mod}
use Rattle.std.proofs.Math.Arith.{digits_mod}
use Rattle.std.proofs.lemmas.Bool.{cases_lt}
use Rattle.std.proofs.lemmas.Bool.Decides.{nat_tests}
use Rattle.std.proofs.lemmas.List.{get_or_append_left, get_or-append_right, get_or-drop, get_or-take, take-append-drop, ext_get_or, length-take-le}
use Rattle.std.proofs.lemmas.List.FromFn.{length-map-range_with_len, get_or-map-range_with_len, length-range_with_len, get_or-range_with_len}
use Rattle.std.proofs.lemmas.List.Sorted.{IsPermutation-trans, IsPermutation-append_comm, length_permutation, sorted_far, ranks_by, IsPermutation-refl, All-permutation}
use Rattle.std.proofs.lemmas.List.Elements.{All-contains, All-from_all_within, Contains-get_or}
use Rattle.std.specs.List.{All}
use Rattle.std.specs.Option.{option_map, ForSome}
use Rattle.std.proofs.lemmas.Cmp.{then_total, on_total, nat_cmp_total}
use Rattle.std.proofs.lemmas.Map.Keys.{apart_from_distinct, IsDistinct-from_apart, IsDistinct-IsPermutation}
use Rattle.std.specs.Cmp.{IsTotalOrder}
use Rattle.std.specs.Ordering.{nat_cmp, ordering_then, is_lt}
use Rattle.std.specs.List.{range_with_len, IsDistinct}
use Rattle.std.specs.List.Sorted.{IsPermutation, IsSortedByKey}
use Rattle.simplex_lead.specs.Rotation.{IsArrangement, ticket, Precedes, RisesByHash, IsOrder, leader, EachLeadsOnce, entries}

-- one more number
pub range_more : (a n : ℕ) → range_with_len a (n + 1) ≡ range_with_len a n ++ (a + n) ∷ []
range_more a n = rw add-one (step a n)
  where
    step : (a n : ℕ) → range_with_len a (suc n) ≡ range_with_len a n ++ (a + n) ∷ []
    step a zero = let e : a + 0 ≡ a = omega arith in rw e refl
    step a (suc n) =
        let e : a + 1 + n ≡ a + suc n = omega arith in
        ap (λ t. a ∷ t) (step (a + 1) n ∙ ap (λ x. range_with_len (a + 1) n ++ x ∷ []) e)

-- entry i of the order rotated by r
turned : (order : List ℕ) (r i : ℕ) → r < length order → i < length order →
    get_or (drop r order ++ take r order) i 0 ≡ get_or order ((r + i) % length order) 0
turned order r i r_lt i_lt = elim (cases_lt (r + i) (length order)) [
  | inl within ↦ (let e : (r + i) % length order ≡ r + i = mod-eq_of_lt within in
      rw (e, get_or_append_left (drop r order) (take r order) 0 i (omega (arith, length-drop r order)), get_or-drop r order i 0)
      refl)
  | inr past ↦
      (let split : 1 * length order + (r + i - length order) ≡ r + i = omega arith in
      let e : (r + i) % length order ≡ r + i - length order =
      rw split at (digits_mod 1 {m = length order} {r = r + i - length order} (omega arith)) in
      let at : i - (length order - r) ≡ r + i - length order = omega arith in
      rw (
        e,
        get_or-append_right (drop r order) (take r order) (length order - r) i 0 (length-drop r order) (omega arith),
        at,
        get_or-take r order (r + i - length order) 0 (omega arith),
      ) refl)
]

-- the leaders of successive terms are the order, rotated
leaders_turned : (order : List ℕ) (epoch first : ℕ) → 0 < length order → epoch + first + length order ≤ 2 ^ 64 →
    map (λ i. leader order epoch (first + i)) (range_with_len 0 (length order))
    ≡ drop ((epoch + first) % length order) order ++ take ((epoch + first) % length order) order
leaders_turned order epoch first some fits =
    let n = length order in
    let r = (epoch + first) % n in
    let r_lt : r < n = omega arith in
    let f : ℕ → ℕ = λ i. leader order epoch (first + i) in
    let long = length-map-range_with_len f 0 n in
    ext_get_or 0 _ _
    (let dropped = length-drop r order in let taken = length-take-le r order (omega arith) in
    omega (arith, long, length-append (drop r order) (take r order), dropped, taken))
    (λ i lt.
    let i_lt : i < n = omega (arith, long) in
    let small : (epoch + (first + i)) % 2 ^ 64 ≡ epoch + (first + i) = mod-eq_of_lt (omega arith) in
    let sum : epoch + first + i ≡ epoch + (first + i) = omega arith in
    let same : (epoch + (first + i)) % n ≡ (r + i) % n = rw (← sum) (sym (mod-add-mod (epoch + first) n i)) in
    rw (get_or-map-range_with_len f 0 n i i 0 i_lt (omega arith), turned order r i r_lt i_lt, small, same) refl)

-- so each participant leads once
pub each_leads_once : (order : List ℕ) (epoch first : ℕ) → IsArrangement (length order) order → 0 < length order →
    epoch + first + length order ≤ 2 ^ 64 → EachLeadsOnce order epoch first
each_leads_once order epoch first arranged some fits =
    let r = (epoch + first) % length order in
    let turn : IsPermutation order (drop r order ++ take r order) =
    rw take-append-drop at (IsPermutation-append_comm (take r order) (drop r order)) in
    rw (leaders_turned order epoch first some fits) (IsPermutation-trans _ _ _ arranged turn)

-- an arrangement has no participant twice
apart : (n : ℕ) (order : List ℕ) → IsArrangement n order → (i j : ℕ) → i < j → j < length order →
    get_or order i 0 ≡ get_or order j 0 → ⊥
apart n order arranged i j lt within same =
    let ranged : IsDistinct eqb (range_with_len 0 n) =
    IsDistinct-from_apart eqb _ (λ i j d lt within. let len = length-range_with_len 0 n in
    grind (arith, nat_tests, get_or-range_with_len 0 n i d (omega arith), get_or-range_with_len 0 n j d (omega arith))) in
    let distinct : IsDistinct eqb order = IsDistinct-IsPermutation eqb (λ x y. grind (arith, nat_tests)) _ _ arranged ranged in
    let differ = apart_from_distinct eqb order i j 0 distinct lt within in
    grind (arith, nat_tests, differ)

module _ {D : Type 0} (compare : D → D → Ordering) (total : IsTotalOrder compare) (hash : List ℕ → D) (seed : List ℕ) where
  -- an arrangement that the sort leaves rises by hash, then number
  pub rises_from_sorted : (n : ℕ) (order : List ℕ) → IsArrangement n order → IsSortedByKey {K = D × ℕ}
      (λ i. (ticket compare hash seed i, i)) (λ x y. ordering_then (compare x.0 y.0) (nat_cmp x.1 y.1)) order →
      RisesByHash compare hash seed order
  rises_from_sorted n order arranged sorted i j lt within =
      let far = sorted_far _
      (ranks_by {K = D × ℕ} (then_total (on_total (λ (t : D × ℕ). t.0) total) (on_total (λ (t : D × ℕ). t.1) nat_cmp_total))
      {X = ℕ} (λ i. (ticket compare hash seed i, i))) order sorted i j 0 (omega arith) within in
      let differ = apart n order arranged i j lt within in
      by_cases (get_or order i 0) (get_or order j 0) differ far
    where
      by_cases : (a b : ℕ) → (a ≡ b → ⊥) →
          is_lt (ordering_then (compare (ticket compare hash seed b) (ticket compare hash seed a)) (nat_cmp b a)) ≡ false →
          Precedes compare hash seed a b
      by_cases a b differ far =
          let turn = total.antisymm (ticket compare hash seed a) (ticket compare hash seed b) in
          grind (arith, nat_tests, turn)

  -- what the code's order is
  pub order_made : (n : ℕ) (start order : List ℕ) → start ≡ range_with_len 0 n → IsPermutation start order → IsSortedByKey
      {K = D × ℕ} (λ i. (ticket compare hash seed i, i)) (λ x y. ordering_then (compare x.0 y.0) (nat_cmp x.1 y.1)) order →
      IsArrangement n order × RisesByHash compare hash seed order
  order_made n start order is moved sorted =
      let arranged : IsArrangement n order = rw (← is) moved in
      (arranged, rises_from_sorted n order arranged sorted)

module _ {D : Type 0} (compare : D → D → Ordering) (total : IsTotalOrder compare) (hash : List ℕ → D) where
  pub order_arranged : (seed : Option (List ℕ)) (n : ℕ) (order : List ℕ) → IsOrder compare hash seed n order →
      IsArrangement n order
  order_arranged None n order is = rw is (IsPermutation-refl _)
  order_arranged (Some seed) n order is = is.0

-- an arrangement of n has n
pub arranged_long : (n : ℕ) (order : List ℕ) → IsArrangement n order → length order ≡ n
arranged_long n order arranged = length_permutation _ _ arranged ∙ length-range_with_len 0 n

-- and each entry of it is below n
pub arranged_below : (n : ℕ) (order : List ℕ) (i d : ℕ) → IsArrangement n order → i < length order → get_or order i d < n
arranged_below n order i d arranged within =
    let all : All (λ x. x < n) (range_with_len 0 n) = All-from_all_within (λ x. x < n) (range_with_len 0 n)
    (λ k e low high. let len = length-range_with_len 0 n in omega (arith, get_or-range_with_len 0 n k e (omega arith))) in
    All-contains (λ x. x < n) order _ (All-permutation (λ x. x < n) _ _ arranged all) (Contains-get_or order i d within)

-- what is read from it too
pub arranged_read : (order : List ℕ) (i x : ℕ) → IsArrangement (length order) order → x ≡ get_or order i x → i < length order →
    x < length order
arranged_read order i x arranged is within =
    let below = arranged_below (length order) order i x arranged within in omega (arith, is, below)

-- an order has as many entries as there are participants, where the one that is stored has
pub entries_long : {V : Type 0} (items : V → List ℕ) (n : ℕ) (stored : Option V) →
    ForSome stored (λ order. (length (items order) ≡ n) × ¬ (items order ≡ range_with_len 0 n)) →
    length (entries n (option_map items stored)) ≡ n
entries_long items n None holds = length-range_with_len 0 n
entries_long items n (Some order) holds = (holds order refl).0
