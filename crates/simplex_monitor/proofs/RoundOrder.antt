-- The order of rounds, and the greatest of some.
use Rattle.std.proofs.Common.{◌≡◌, Bool, true, false, List, [], ◌∷◌, ◌++◌, Less, Equal, Greater, inl, inr, ⊎_elim, refl, sym, ap, subst, ◌∙◌, ◌<◌, ◌≤◌, ◌⊎◌, cond, arith}
use Rattle.std.proofs.lemmas.Bool.{false≢true}
use Rattle.std.proofs.lemmas.Bool.Decides.{nat_tests}
use Rattle.std.proofs.lemmas.Cmp.{nat_cmp_total, on_total, then_total, tied_itself}
use Rattle.std.proofs.lemmas.List.Elements.{All-contains, All-contains_itself, All-filter, All-from_recursion, Contains-append_cases, Contains-append_right}
use Rattle.std.proofs.lemmas.Map.Lookups.{CmpEqualImpliesEq, exact_pairs, exact_unsigned}
use Rattle.std.specs.Cmp.{IsTotalOrder}
use Rattle.std.specs.Ordering.{is_le, is_lt, nat_cmp, ord_max, ordering_reverse}
use Rattle.std.specs.Prelude.{Contains, filter}
use Rattle.simplex_base.specs.Positions.{Round}
use Rattle.simplex_rules.specs.Accusation.{round_cmp}
use Rattle.simplex_monitor.specs.Heads.{greatest}

pub round_total : IsTotalOrder round_cmp
round_total = then_total (on_total (λ (r : Round). r.epoch) nat_cmp_total) (on_total (λ (r : Round). r.view) nat_cmp_total)

pub exact_round : CmpEqualImpliesEq round_cmp
exact_round a b h =
    ap (λ (p : _). record { epoch = p.0; view = p.1 })
    (exact_pairs nat_cmp nat_cmp exact_unsigned exact_unsigned (a.epoch, a.view) (b.epoch, b.view) h)

-- a round is at most another
abbrev pub AtMost : Round → Round → Type 0
AtMost a b = is_le (round_cmp a b) ≡ true

pub at_most_itself : (a : Round) → AtMost a a
at_most_itself a = ap is_le (tied_itself round_total a)

pub at_most_trans : (a b c : Round) → AtMost a b → AtMost b c → AtMost a c
at_most_trans a b c =
    (elim (round_cmp a b) as (λ o. round_cmp a b ≡ o → is_le o ≡ true → AtMost b c → AtMost a c) [
      | Less ↦ λ e h. (elim (round_cmp b c) as (λ o. round_cmp b c ≡ o → is_le o ≡ true → AtMost a c) [
        | Less ↦ λ k g. ap is_le (round_total.trans a b c e k)
        | Equal ↦ λ k g. subst (λ r. AtMost a r) (exact_round b c k) (ap is_le e)
        | Greater ↦ λ k g. absurd (false≢true g)
      ]) refl
      | Equal ↦ λ e h le. subst (λ r. AtMost r c) (sym (exact_round a b e)) le
      | Greater ↦ λ e h le. absurd (false≢true h)
    ]) refl

-- one of two rounds is at most the other
pub at_most_from_not : (a b : Round) → is_le (round_cmp a b) ≡ false → AtMost b a
at_most_from_not a b h =
    ap is_le (round_total.antisymm b a)
    ∙ (elim (round_cmp a b) as (λ o. is_le o ≡ false → is_le (ordering_reverse o) ≡ true)
    [ Greater ↦ λ e. refl | Less ↦ λ e. absurd (false≢true (sym e)) | Equal ↦ λ e. absurd (false≢true (sym e)) ]) h

-- the epoch of a round that is at most another is at most the other's
pub at_most_epoch : (a b : Round) → AtMost a b → a.epoch ≤ b.epoch
at_most_epoch a b h = grind (arith, nat_tests)

pub earlier_at_most : (a b : Round) → a.epoch < b.epoch → round_cmp a b ≡ Less
earlier_at_most a b h = grind (arith, nat_tests)

-- the greater of two rounds is one of them
pub max_lower : (a b : Round) → AtMost b a → ord_max round_cmp a b ≡ a
max_lower a b =
    (elim (round_cmp b a) as (λ o. round_cmp b a ≡ o → is_le o ≡ true → cond (is_lt o) a b ≡ a) [
      | Less ↦ λ e h. refl
      | Equal ↦ λ e h. exact_round b a e
      | Greater ↦ λ e h. absurd (false≢true h)
    ]) refl

pub max_higher : (a b : Round) → AtMost a b → ord_max round_cmp a b ≡ b
max_higher a b =
    (elim (round_cmp b a) as (λ o. round_cmp b a ≡ o → AtMost a b → cond (is_lt o) a b ≡ b) [
      | Less ↦ λ e h. absurd (false≢true (sym (ap is_le (round_total.antisymm a b ∙ ap ordering_reverse e)) ∙ h))
      | Equal ↦ λ e h. refl
      | Greater ↦ λ e h. refl
    ]) refl

pub max_above_left : (a b : Round) → AtMost a (ord_max round_cmp a b)
max_above_left a b =
    (elim (round_cmp b a) as (λ o. round_cmp b a ≡ o → AtMost a (cond (is_lt o) a b)) [
      | Less ↦ λ e. at_most_itself a
      | Equal ↦ λ e. ap is_le (round_total.antisymm a b ∙ ap ordering_reverse e)
      | Greater ↦ λ e. ap is_le (round_total.antisymm a b ∙ ap ordering_reverse e)
    ]) refl

pub max_above_right : (a b : Round) → AtMost b (ord_max round_cmp a b)
max_above_right a b =
    (elim (round_cmp b a) as (λ o. round_cmp b a ≡ o → AtMost b (cond (is_lt o) a b)) [
      | Less ↦ λ e. ap is_le e
      | Equal ↦ λ e. at_most_itself b
      | Greater ↦ λ e. at_most_itself b
    ]) refl

pub max_least : (a b high : Round) → AtMost a high → AtMost b high → AtMost (ord_max round_cmp a b) high
max_least a b high low other =
    elim (is_lt (round_cmp b a)) as (λ t. AtMost (cond t a b) high) [ true ↦ low | false ↦ other ]

-- ---- by numbers

pub at_most_numbers : (a b : Round) → AtMost a b → (a.epoch < b.epoch) ⊎ ((a.epoch ≡ b.epoch) × (a.view ≤ b.view))
at_most_numbers a b h = grind (arith, nat_tests)

pub at_most_from_numbers : (a b : Round) → (a.epoch < b.epoch) ⊎ ((a.epoch ≡ b.epoch) × (a.view ≤ b.view)) → AtMost a b
at_most_from_numbers a b h = grind (arith, nat_tests)

-- ---- elements of lists

pub Contains-none : {X : Type 0} (x : X) → Contains [] x → ⊥
Contains-none x h = absurd (omega (arith, h.1))

pub Contains-first : {X : Type 0} (x : X) (xs : List X) → Contains (x ∷ xs) x
Contains-first x xs = (0, omega arith, refl)

pub Contains-cons_cases : {X : Type 0} (y : X) (xs : List X) (x : X) → Contains (y ∷ xs) x → (y ≡ x) ⊎ Contains xs x
Contains-cons_cases y xs x h =
    ⊎_elim (λ one. inl (All-contains (λ z. y ≡ z) (y ∷ []) x (All-from_recursion (λ z. y ≡ z) (y ∷ []) (refl, tt)) one)) inr
    (Contains-append_cases (y ∷ []) xs x h)

-- an element that passes a filter is left
pub Contains-filter : {X : Type 0} (p : X → Bool) (xs : List X) (x : X) → Contains xs x → p x ≡ true → Contains (filter p xs) x
Contains-filter p [] x h e = absurd (Contains-none x h)
Contains-filter p (y ∷ ys) x h e = elim (Contains-cons_cases y ys x h) as (λ _. Contains (filter p (y ∷ ys)) x) [
  | inl is ↦ subst (λ b. Contains (cond b (y ∷ filter p ys) (filter p ys)) x) (sym (ap p is ∙ e))
      (subst (λ z. Contains (y ∷ filter p ys) z) is (Contains-first y (filter p ys)))
  | inr later ↦ (elim (p y) as (λ b. Contains (cond b (y ∷ filter p ys) (filter p ys)) x) [
    | true ↦ Contains-append_right (y ∷ []) (filter p ys) x (Contains-filter p ys x later e)
    | false ↦ Contains-filter p ys x later e
  ])
]

-- what is left was there before
pub Contains-from_filter : {X : Type 0} (p : X → Bool) (xs : List X) (x : X) → Contains (filter p xs) x → Contains xs x
Contains-from_filter p xs x here =
    All-contains (Contains xs) (filter p xs) x (All-filter p (Contains xs) xs (All-contains_itself xs)) here

-- a filter that all elements pass leaves them
pub filter_all : {X : Type 0} (p : X → Bool) (xs : List X) → ((x : X) → Contains xs x → p x ≡ true) → filter p xs ≡ xs
filter_all p [] h = refl
filter_all p (y ∷ ys) h =
    (λ i. cond (h y (Contains-first y ys) i) (y ∷ filter p ys) (filter p ys))
    ∙ ap (λ zs. y ∷ zs) (filter_all p ys (λ x later. h x (Contains-append_right (y ∷ []) ys x later)))

-- ---- the greatest

-- one more
pub greatest_more : (first : Round) (rounds : List Round) (round : Round) →
    greatest first (rounds ++ round ∷ []) ≡ ord_max round_cmp (greatest first rounds) round
greatest_more first [] round = refl
greatest_more first (r ∷ rounds) round = greatest_more (ord_max round_cmp first r) rounds round

pub greatest_above : (first : Round) (rounds : List Round) → AtMost first (greatest first rounds)
greatest_above first [] = at_most_itself first
greatest_above first (r ∷ rounds) =
    let higher = ord_max round_cmp first r in
    at_most_trans first higher (greatest higher rounds) (max_above_left first r) (greatest_above higher rounds)

pub greatest_above_all : (first : Round) (rounds : List Round) (round : Round) → Contains rounds round →
    AtMost round (greatest first rounds)
greatest_above_all first [] round here = absurd (Contains-none round here)
greatest_above_all first (r ∷ rounds) round here =
    let higher = ord_max round_cmp first r in
    elim (Contains-cons_cases r rounds round here) as (λ _. AtMost round (greatest higher rounds)) [
      | inl is ↦ subst (λ q. AtMost q (greatest higher rounds)) is
          (at_most_trans r higher (greatest higher rounds) (max_above_right first r) (greatest_above higher rounds))
      | inr later ↦ greatest_above_all higher rounds round later
    ]

pub greatest_above_first : (first : Round) (rounds : List Round) (round : Round) → Contains (first ∷ rounds) round →
    AtMost round (greatest first rounds)
greatest_above_first first rounds round here =
    elim (Contains-cons_cases first rounds round here) as (λ _. AtMost round (greatest first rounds)) [
      | inl is ↦ subst (λ q. AtMost q (greatest first rounds)) is (greatest_above first rounds)
      | inr later ↦ greatest_above_all first rounds round later
    ]

pub greatest_least : (first high : Round) (rounds : List Round) → AtMost first high →
    ((round : Round) → Contains rounds round → AtMost round high) → AtMost (greatest first rounds) high
greatest_least first high [] low all = low
greatest_least first high (r ∷ rounds) low all =
    greatest_least (ord_max round_cmp first r) high rounds
    (max_least first r high low (all r (Contains-first r rounds)))
    (λ q here. all q (Contains-append_right (r ∷ []) rounds q here))
