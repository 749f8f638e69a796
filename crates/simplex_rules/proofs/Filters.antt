-- What a test selects of a list: filters of filters, of mapped and of joined lists, and lists that each test selects alike.
use Rattle.simplex_rules.proofs.Prelude.{All, Bool, Contains, List, Some, [], ap, arith, cond, cond-false, false, false_from_ne_true, false≢true, filter, filter-append, find, flat_map, inl, inr, length, length-filter_both, map, not, refl, suc, sym, true, zero, ℕ, ◌&&◌, ◌++◌, ◌+◌, ◌<◌, ◌∙◌, ◌∷◌, ◌≡◌, ◌≤◌}
use Rattle.std.proofs.lemmas.List.Elements.{All-head, All-tail, filter_agree}
use Rattle.std.specs.Prelude.{slice_get}
use Rattle.simplex_rules.proofs.Lists.{Contains-cons, Contains-cons_cases, Contains-first, Contains-none}

-- filtering by a weaker test first does not change what is found
pub find_filtered : {X : Type 0} (p q : X → Bool) → ((x : X) → p x ≡ true → q x ≡ true) → (xs : List X) →
    find p (filter q xs) ≡ find p xs
find_filtered p q weaker [] = refl
find_filtered p q weaker (x ∷ xs) =
    (elim (q x) as (λ b. q x ≡ b → find p (cond b (x ∷ filter q xs) (filter q xs)) ≡ cond (p x) (Some x) (find p xs)) [
      | true ↦ λ d i. cond (p x) (Some x) (find_filtered p q weaker xs i)
      | false ↦ λ d. find_filtered p q weaker xs
          ∙ sym (cond-false (p x) (Some x) (find p xs) (false_from_ne_true (p x) (λ e. false≢true (sym d ∙ weaker x e))))
    ]) refl

-- filtering by both of two tests is filtering by one and then by the other
pub filter_both : {X : Type 0} (p q : X → Bool) (xs : List X) → filter (λ x. q x && p x) xs ≡ filter q (filter p xs)
filter_both p q [] = refl
filter_both {X} p q (x ∷ xs) = one (p x) (filter_both p q xs)
  where
    both : (b : Bool) → filter (λ y. q y && p y) xs ≡ filter q (filter p xs) →
        cond (b && true) (x ∷ filter (λ y. q y && p y) xs) (filter (λ y. q y && p y) xs)
        ≡ cond b (x ∷ filter q (filter p xs)) (filter q (filter p xs))
    both true rest = ap (λ ys. x ∷ ys) rest
    both false rest = rest

    left_out : (b : Bool) → filter (λ y. q y && p y) xs ≡ filter q (filter p xs) →
        cond (b && false) (x ∷ filter (λ y. q y && p y) xs) (filter (λ y. q y && p y) xs) ≡ filter q (filter p xs)
    left_out true rest = rest
    left_out false rest = rest

    one : (b : Bool) → filter (λ y. q y && p y) xs ≡ filter q (filter p xs) →
        cond (q x && b) (x ∷ filter (λ y. q y && p y) xs) (filter (λ y. q y && p y) xs)
        ≡ filter q (cond b (x ∷ filter p xs) (filter p xs))
    one true rest = both (q x) rest
    one false rest = left_out (q x) rest

-- two filters in either order
pub filter_swap : {X : Type 0} (p q : X → Bool) (xs : List X) → filter p (filter q xs) ≡ filter q (filter p xs)
filter_swap p q xs = sym (filter_both q p xs) ∙ filter_agree _ _ (λ x. and_swap (p x) (q x)) xs ∙ filter_both p q xs
  where
    and_swap : (a b : Bool) → (a && b) ≡ (b && a)
    and_swap true true = refl
    and_swap true false = refl
    and_swap false true = refl
    and_swap false false = refl

-- the keys of the elements whose keys pass are the keys that pass
pub map-filter : {X K : Type 0} (key : X → K) (keep : K → Bool) (xs : List X) →
    map key (filter (λ x. keep (key x)) xs) ≡ filter keep (map key xs)
map-filter key keep [] = refl
map-filter key keep (x ∷ xs) = one (keep (key x)) (map-filter key keep xs)
  where
    one : (b : Bool) → map key (filter (λ y. keep (key y)) xs) ≡ filter keep (map key xs) →
        map key (cond b (x ∷ filter (λ y. keep (key y)) xs) (filter (λ y. keep (key y)) xs))
        ≡ cond b (key x ∷ filter keep (map key xs)) (filter keep (map key xs))
    one true rest = ap (λ ks. key x ∷ ks) rest
    one false rest = rest

-- all elements pass
pub filter_all : {X : Type 0} (p : X → Bool) (xs : List X) → All (λ x. p x ≡ true) xs → filter p xs ≡ xs
filter_all p [] h = refl
filter_all p (x ∷ xs) h =
    (λ i. cond (All-head (λ y. p y ≡ true) x xs h i) (x ∷ filter p xs) (filter p xs))
    ∙ ap (λ ys. x ∷ ys) (filter_all p xs (All-tail (λ y. p y ≡ true) x xs h))

-- no element passes
pub filter_none : {X : Type 0} (p : X → Bool) (xs : List X) → All (λ x. p x ≡ false) xs → filter p xs ≡ []
filter_none p [] h = refl
filter_none p (x ∷ xs) h =
    (λ i. cond (All-head (λ y. p y ≡ false) x xs h i) (x ∷ filter p xs) (filter p xs))
    ∙ filter_none p xs (All-tail (λ y. p y ≡ false) x xs h)

-- a filter of joined lists, if the members of each list pass as its element does
pub filter-flat_map : {X Y : Type 0} (f : X → List Y) (p : X → Bool) (q : Y → Bool) (xs : List X) →
    All (λ x. All (λ y. q y ≡ p x) (f x)) xs → flat_map f (filter p xs) ≡ filter q (flat_map f xs)
filter-flat_map f p q [] alike = refl
filter-flat_map {X} {Y} f p q (x ∷ xs) alike =
    one (p x) (All-head (λ z. All (λ y. q y ≡ p z) (f z)) x xs alike)
    (filter-flat_map f p q xs (All-tail (λ z. All (λ y. q y ≡ p z) (f z)) x xs alike))
    ∙ sym (filter-append q (f x) (flat_map f xs))
  where
    one : (b : Bool) → All (λ y. q y ≡ b) (f x) → flat_map f (filter p xs) ≡ filter q (flat_map f xs) →
        flat_map f (cond b (x ∷ filter p xs) (filter p xs)) ≡ filter q (f x) ++ filter q (flat_map f xs)
    one true h rest = λ i. sym (filter_all q (f x) h) i ++ rest i
    one false h rest = rest ∙ ap (λ ys. ys ++ filter q (flat_map f xs)) (sym (filter_none q (f x) h))

-- ---- the elements by their places

-- a list has an element at each place below its length
pub element_at : {X : Type 0} (xs : List X) (i : ℕ) → i < length xs → (x : X) × (slice_get xs i ≡ Some x) × Contains xs x
element_at [] i lt = absurd (omega (arith, lt))
element_at (x ∷ xs) zero lt = (x, refl, Contains-first x xs)
element_at (x ∷ xs) (suc i) lt = let (y, is, y_in) = element_at xs i (omega (arith, lt)) in (y, is, Contains-cons x xs y y_in)

-- each element of a list is at a place
pub place_of : {X : Type 0} (xs : List X) (x : X) → Contains xs x → (i : ℕ) × (slice_get xs i ≡ Some x)
place_of [] x h = absurd (Contains-none x h)
place_of (y ∷ xs) x h = elim (Contains-cons_cases y xs x h) [
  | inl e ↦ (0, ap Some e)
  | inr k ↦ let (i, is) = place_of xs x k in (suc i, is)
]

-- ---- lists that are equal class by class

module _ {X : Type 0} (same : X → X → Bool) (itself : (x : X) → same x x ≡ true) where
  -- of each element, the elements of its class are the same list in both
  abbrev pub AreAlike : List X → List X → Type 0
  AreAlike xs ys = (x : X) → filter (same x) xs ≡ filter (same x) ys

  -- a class with an element of a list is not empty there
  class_of_first : (x : X) (xs : List X) → filter (same x) (x ∷ xs) ≡ x ∷ filter (same x) xs
  class_of_first x xs i = cond (itself x i) (x ∷ filter (same x) xs) (filter (same x) xs)

  -- the elements of other classes than that of x
  abbrev others : X → List X → List X
  others x xs = filter (λ y. not (same x y)) xs

  alike_others : (x : X) (xs ys : List X) → AreAlike xs ys → AreAlike (others x xs) (others x ys)
  alike_others x xs ys alike y =
      filter_swap (same y) (λ z. not (same x z)) xs ∙ ap (others x) (alike y)
      ∙ sym (filter_swap (same y) (λ z. not (same x z)) ys)

  split_length : (x : X) (xs : List X) → length (filter (same x) xs) + length (others x xs) ≡ length xs
  split_length x xs = length-filter_both (same x) (λ y. not (same x y)) (λ y. refl) xs

  same_length_below : (n : ℕ) (xs ys : List X) → length xs ≤ n → AreAlike xs ys → length xs ≡ length ys
  same_length_below n [] [] le alike = refl
  same_length_below n [] (y ∷ ys) le alike =
      absurd (omega (arith, ap length (alike y ∙ class_of_first y ys)))
  same_length_below zero (x ∷ xs) ys le alike = absurd (omega (arith, le))
  same_length_below (suc n) (x ∷ xs) ys le alike =
      let some = ap length (class_of_first x xs) in
      let rest = same_length_below n (others x (x ∷ xs)) (others x ys)
      (omega (arith, le, some, split_length x (x ∷ xs))) (alike_others x (x ∷ xs) ys alike) in
      omega (arith, rest, split_length x (x ∷ xs), split_length x ys, ap length (alike x))

  -- such lists are equally long
  pub same_length : (xs ys : List X) → AreAlike xs ys → length xs ≡ length ys
  same_length xs ys = same_length_below (length xs) xs ys (omega arith)

-- filtering by a weaker test first changes nothing
pub filter_filtered : {X : Type 0} (p q : X → Bool) → ((x : X) → p x ≡ true → q x ≡ true) → (xs : List X) →
    filter p (filter q xs) ≡ filter p xs
filter_filtered p q weaker [] = refl
filter_filtered p q weaker (x ∷ xs) =
    (elim (q x) as (λ b. q x ≡ b →
    filter p (cond b (x ∷ filter q xs) (filter q xs)) ≡ cond (p x) (x ∷ filter p xs) (filter p xs)) [
      | true ↦ λ d i. cond (p x) (x ∷ filter_filtered p q weaker xs i) (filter_filtered p q weaker xs i)
      | false ↦ λ d. filter_filtered p q weaker xs ∙ sym
          (cond-false (p x) (x ∷ filter p xs) (filter p xs) (false_from_ne_true (p x) (λ e. false≢true (sym d ∙ weaker x e))))
    ]) refl
