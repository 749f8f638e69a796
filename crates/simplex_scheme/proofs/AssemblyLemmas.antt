-- Distinct numbers, one after another.
use Rattle.std.proofs.Common.{◌≡◌, ℕ, ◌+◌, ◌<◌, ◌≤◌, Bool, true, false, List, [], ◌∷◌, ◌++◌, map, sym, refl, ap, ◌∙◌, inl, inr, arith, ◌||◌}
use Rattle.std.specs.Prelude.{All, nat_eq}
use Rattle.std.specs.List.{IsDistinct, AllByRecursion, list_any}
use Rattle.std.proofs.lemmas.Bool.{false≢true, cases_Bool, eqb-true}
use Rattle.std.proofs.lemmas.List.Elements.{All-nil, All-push, All-head, All-tail, All-weaker}

-- what is numbered has distinct numbers, each below n and below a limit
pub record AreDistinctBelow {X : Type 0} (number : X → ℕ) (n limit : ℕ) (xs : List X) : Type 0 where
  pub distinct : IsDistinct nat_eq (map number xs)
  pub members : All (λ x. number x < n) xs
  pub below : All (λ x. number x < limit) xs

-- nothing has
pub none_distinct : {X : Type 0} (number : X → ℕ) (n : ℕ) → AreDistinctBelow number n 0 []
unfolding IsDistinct
none_distinct number n = record { distinct = tt; members = All-nil (λ x. number x < n); below = All-nil (λ x. number x < 0) }

-- of two tests neither passes
neither : (a b : Bool) → (a || b) ≡ false → (a ≡ false) × (b ≡ false)
neither true b h = absurd (false≢true (sym h))
neither false b h = (refl, h)

-- what differs from all of some and from one more
differs_push : {X : Type 0} (number : X → ℕ) (k : ℕ) (xs : List X) (x : X) →
    AllByRecursion (λ j. nat_eq k j ≡ false) (map number xs) → nat_eq k (number x) ≡ false →
    AllByRecursion (λ j. nat_eq k j ≡ false) (map number (xs ++ x ∷ []))
differs_push number k [] x each one = (one, tt)
differs_push number k (y ∷ ys) x each one = (each.0, differs_push number k ys x each.1 one)

-- one more that has a number of its own
distinct_push : {X : Type 0} (number : X → ℕ) (xs : List X) (x : X) → IsDistinct nat_eq (map number xs) →
    list_any (λ y. nat_eq (number y) (number x)) xs ≡ false → IsDistinct nat_eq (map number (xs ++ x ∷ []))
unfolding IsDistinct
distinct_push number [] x distinct own = (tt, tt)
distinct_push number (y ∷ ys) x distinct own =
    let (differs, others) = neither (nat_eq (number y) (number x)) (list_any (λ z. nat_eq (number z) (number x)) ys) own in
    (differs_push number (number y) ys x distinct.0 differs, distinct_push number ys x distinct.1 others)

-- above all of the others a number is one's own
own_above : {X : Type 0} (number : X → ℕ) (limit : ℕ) (xs : List X) (x : X) → All (λ y. number y < limit) xs →
    limit ≤ number x → list_any (λ y. nat_eq (number y) (number x)) xs ≡ false
own_above number limit [] x below above = refl
own_above number limit (y ∷ ys) x below above =
    elim (cases_Bool (nat_eq (number y) (number x))) [
      | inl e ↦
          let same = eqb-true (number y) (number x) e in
          let less = All-head (λ z. number z < limit) y ys below in
          absurd (omega arith)
      | inr e ↦ ap (λ b. b || list_any (λ z. nat_eq (number z) (number x)) ys) e
          ∙ own_above number limit ys x (All-tail (λ z. number z < limit) y ys below) above
    ]

-- a number that an earlier one has is not distinct
pub not_distinct : {X : Type 0} (number : X → ℕ) (xs rest : List X) (x : X) →
    list_any (λ y. nat_eq (number y) (number x)) xs ≡ true → IsDistinct nat_eq (map number (xs ++ x ∷ rest)) → ⊥
unfolding IsDistinct
not_distinct number [] rest x found distinct = false≢true found
not_distinct number (y ∷ ys) rest x found distinct =
    elim (cases_Bool (nat_eq (number y) (number x))) [
      | inl e ↦ false≢true (sym (differs_at number (number y) ys rest x distinct.0) ∙ e)
      | inr e ↦ not_distinct number ys rest x
          (ap (λ b. b || list_any (λ z. nat_eq (number z) (number x)) ys) (sym e) ∙ found) distinct.1
    ]
  where
    differs_at : {X : Type 0} (number : X → ℕ) (k : ℕ) (zs rest : List X) (x : X) →
        AllByRecursion (λ j. nat_eq k j ≡ false) (map number (zs ++ x ∷ rest)) → nat_eq k (number x) ≡ false
    differs_at number k [] rest x each = each.0
    differs_at number k (z ∷ zs) rest x each = differs_at number k zs rest x each.1

-- one more whose number is its own, below n, and below the new limit
distinct_more : {X : Type 0} (number : X → ℕ) (n limit next : ℕ) (xs : List X) (x : X) → AreDistinctBelow number n limit xs →
    number x < n → limit ≤ next → number x < next → list_any (λ y. nat_eq (number y) (number x)) xs ≡ false →
    AreDistinctBelow number n next (xs ++ x ∷ [])
distinct_more number n limit next xs x are member more less own = record {
  distinct = distinct_push number xs x are.distinct own;
  members = All-push (λ y. number y < n) xs x are.members member;
  below = All-push (λ y. number y < next) xs x
      (All-weaker (λ y. number y < limit) (λ y. number y < next) (λ y h. omega arith) xs are.below) less;
}

-- one more that is above all of the others
pub distinct_above : {X : Type 0} (number : X → ℕ) (n limit : ℕ) (xs : List X) (x : X) → AreDistinctBelow number n limit xs →
    number x < n → limit ≤ number x → AreDistinctBelow number n (number x + 1) (xs ++ x ∷ [])
distinct_above number n limit xs x are member above =
    distinct_more number n limit (number x + 1) xs x are member (omega arith) (omega arith)
    (own_above number limit xs x are.below above)

-- one more that is below the limit, and none of the others
pub distinct_below : {X : Type 0} (number : X → ℕ) (n limit : ℕ) (xs : List X) (x : X) → AreDistinctBelow number n limit xs →
    number x < n → number x < limit → list_any (λ y. nat_eq (number y) (number x)) xs ≡ false →
    AreDistinctBelow number n limit (xs ++ x ∷ [])
distinct_below number n limit xs x are member less own =
    distinct_more number n limit limit xs x are member (omega arith) less own
