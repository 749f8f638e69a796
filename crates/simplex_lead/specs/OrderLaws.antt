-- An order is the single one that its description has.
-- They stand beside the definitions because ghost members of impls cite them, and those see no proofs.
use Rattle.std.proofs.Common.{◌≡◌, ℕ, zero, suc, inl, inr, refl, sym, subst, arith, ◌∙◌, Ordering, Option, Some, None}
use Rattle.std.proofs.Common.{List, [], ◌∷◌}
use Rattle.std.proofs.lemmas.List.Sorted.{Contains-permutation, IsPermutation-sym}
use Rattle.std.proofs.lemmas.Cmp.{tied_itself, alike_right}
use Rattle.std.proofs.lemmas.Grind.{get_or_default_zero}
use Rattle.std.specs.Cmp.{IsTotalOrder}
use Rattle.std.specs.List.{Contains}
use Rattle.simplex_lead.specs.Rotation.{IsArrangement, ticket, Precedes, RisesByHash, IsOrder}

module _ {D : Type 0} (compare : D → D → Ordering) (total : IsTotalOrder compare) (hash : List ℕ → D) (seed : List ℕ) where
  -- no participant comes before itself, and the order passes on
  not_before_itself : (a : ℕ) → Precedes compare hash seed a a → ⊥
  not_before_itself a before = grind (arith, tied_itself total (ticket compare hash seed a))

  not_before : (a b : ℕ) → a ≡ b → Precedes compare hash seed a b → ⊥
  not_before a b same before = not_before_itself b (subst (λ (t : ℕ). Precedes compare hash seed t b) same before)

  passes_on : (a b c : ℕ) → Precedes compare hash seed a b → Precedes compare hash seed b c → Precedes compare hash seed a c
  passes_on a b c (inl p) (inl q) = inl (total.trans _ _ _ p q)
  passes_on a b c (inl p) (inr q) = inl (sym (alike_right total _ _ _ q.0) ∙ p)
  passes_on a b c (inr p) (inl q) = inl (total.congr _ _ _ p.0 ∙ q)
  passes_on a b c (inr p) (inr q) = inr (total.congr _ _ _ p.0 ∙ q.0, omega arith)

  rises_tail : (x : ℕ) (xs : List ℕ) → RisesByHash compare hash seed (x ∷ xs) → RisesByHash compare hash seed xs
  rises_tail x xs rises i j lt within = rises (suc i) (suc j) (omega arith) (omega arith)

  rises_head : (x q : ℕ) (xs : List ℕ) → RisesByHash compare hash seed (x ∷ xs) → Contains xs q → Precedes compare hash seed x q
  rises_head x q xs rises (k, within, is) =
      let e = get_or_default_zero xs k q within in rw (← is, e) (rises 0 (suc k) (omega arith) (omega arith))

  behind : (x q : ℕ) (xs : List ℕ) → Contains xs q → Contains (x ∷ xs) q
  behind x q xs (k, within, is) = (suc k, omega arith, is)

  not_head : (q y : ℕ) (ys : List ℕ) → Contains (y ∷ ys) q → (q ≡ y → ⊥) → Contains ys q
  not_head q y ys (zero, within, is) other = absurd (other (sym is))
  not_head q y ys (suc k, within, is) other = (k, omega arith, is)

  same_head : (x y : ℕ) (xs ys : List ℕ) →
      RisesByHash compare hash seed (x ∷ xs) → RisesByHash compare hash seed (y ∷ ys) →
      Contains (y ∷ ys) x → Contains (x ∷ xs) y → x ≡ y
  same_head x y xs ys rise_x rise_y (zero, _, is) there = sym is
  same_head x y xs ys rise_x rise_y (suc k, in_y, is_x) (zero, _, is) = is
  same_head x y xs ys rise_x rise_y (suc k, in_y, is_x) (suc m, in_x, is_y) =
      absurd (not_before_itself x
      (passes_on x y x (rises_head x y xs rise_x (m, omega arith, is_y)) (rises_head y x ys rise_y (k, omega arith, is_x))))

  same_order : (xs ys : List ℕ) →
      RisesByHash compare hash seed xs → RisesByHash compare hash seed ys →
      ((q : ℕ) → Contains xs q → Contains ys q) → ((q : ℕ) → Contains ys q → Contains xs q) → xs ≡ ys
  same_order [] [] rise_x rise_y there back = refl
  same_order [] (y ∷ ys) rise_x rise_y there back = let (k, within, _) = back y (0, omega arith, refl) in absurd (omega arith)
  same_order (x ∷ xs) [] rise_x rise_y there back = let (k, within, _) = there x (0, omega arith, refl) in absurd (omega arith)
  same_order (x ∷ xs) (y ∷ ys) rise_x rise_y there back =
      let heads : x ≡ y = same_head x y xs ys rise_x rise_y (there x (0, omega arith, refl)) (back y (0, omega arith, refl)) in
      let tails : xs ≡ ys = same_order xs ys (rises_tail x xs rise_x) (rises_tail y ys rise_y)
      (λ q has.
      not_head q y ys (there q (behind x q xs has)) (λ same. not_before x q (heads ∙ sym same) (rises_head x q xs rise_x has)))
      (λ q has. not_head q x xs (back q (behind y q ys has))
      (λ same. not_before y q (sym heads ∙ sym same) (rises_head y q ys rise_y has))) in
      cc

  -- an order is the single one
  pub single_order : (n : ℕ) (xs ys : List ℕ) →
      IsArrangement n xs → RisesByHash compare hash seed xs →
      IsArrangement n ys → RisesByHash compare hash seed ys → xs ≡ ys
  single_order n xs ys arranged_x rise_x arranged_y rise_y =
      same_order xs ys rise_x rise_y
      (λ q has. Contains-permutation _ _ q arranged_y (Contains-permutation _ _ q (IsPermutation-sym _ _ arranged_x) has))
      (λ q has. Contains-permutation _ _ q arranged_x (Contains-permutation _ _ q (IsPermutation-sym _ _ arranged_y) has))

module _ {D : Type 0} (compare : D → D → Ordering) (total : IsTotalOrder compare) (hash : List ℕ → D) where
  -- with a seed or without one
  pub one_order : (seed : Option (List ℕ)) (n : ℕ) (xs ys : List ℕ) → IsOrder compare hash seed n xs →
      IsOrder compare hash seed n ys → xs ≡ ys
  one_order None n xs ys a b = a ∙ sym b
  one_order (Some seed) n xs ys a b = single_order compare total hash seed n xs ys a.0 a.1 b.0 b.1
