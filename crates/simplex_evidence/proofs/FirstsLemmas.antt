-- What is inserted decides which items a map holds.
use Rattle.std.proofs.Common.{◌≡◌, ℕ, zero, suc, ◌<◌, ◌≤◌, ◌⊎◌, inl, inr, List, [], ◌∷◌, ◌++◌, ◌∙◌, false, length, get_or, Some, None, IsSome, eqb, sym, ap, refl, arith}
use Rattle.std.proofs.lemmas.Bool.{cases_lt, cases_eq}
use Rattle.std.proofs.lemmas.Bool.Decides.{nat_tests}
use Rattle.simplex_evidence.specs.VoteMap.{item_of, IsBySigner, AreParticipants, AddsOnly, IsFirsts}
use Rattle.simplex_evidence.proofs.GapLemmas.{no_item}

module _ {X : Type 0} (signer : X → ℕ) where
  -- ---- one more item at the end of what was inserted

  append_absent : (xs : List X) (y : X) → item_of signer xs (signer y) ≡ None →
      item_of signer (xs ++ y ∷ []) (signer y) ≡ Some y
  append_absent [] y absent = grind (arith, nat_tests)
  append_absent (x ∷ xs) y absent = grind (arith, nat_tests, append_absent xs y)

  append_other : (xs : List X) (y : X) (s : ℕ) → (s ≡ signer y → ⊥) → item_of signer (xs ++ y ∷ []) s ≡ item_of signer xs s
  append_other [] y s other = grind (arith, nat_tests)
  append_other (x ∷ xs) y s other = grind (arith, nat_tests, append_other xs y s other)

  append_present : (xs : List X) (y : X) (s : ℕ) → IsSome (item_of signer xs s) →
      item_of signer (xs ++ y ∷ []) s ≡ item_of signer xs s
  append_present [] y s present = grind (arith, nat_tests)
  append_present (x ∷ xs) y s present = grind (arith, nat_tests, append_present xs y s)

  -- an item that was added is the first of its signer
  pub firsts_added : (n : ℕ) (inserted old new : List X) (y : X) → IsFirsts signer n inserted old → signer y < n →
      item_of signer old (signer y) ≡ None → AddsOnly signer old new y → IsBySigner signer new → AreParticipants signer n new →
      IsFirsts signer n (inserted ++ y ∷ []) new
  firsts_added n inserted old new y firsts lt fresh adds ordered within = record {
    ordered = ordered;
    within = within;
    first = λ s s_lt. elim (cases_eq s (signer y)) [
      | inl same ↦ (let absent : item_of signer inserted (signer y) ≡ None = sym (firsts.first (signer y) lt) ∙ fresh in
          rw same (adds.added ∙ sym (append_absent inserted y absent)))
      | inr other ↦ adds.others s other ∙ firsts.first s s_lt ∙ sym (append_other inserted y s other)
    ];
  }

  -- and one that was not added is not
  pub firsts_kept : (n : ℕ) (inserted old : List X) (y : X) → IsFirsts signer n inserted old →
      (n ≤ signer y) ⊎ IsSome (item_of signer old (signer y)) → IsFirsts signer n (inserted ++ y ∷ []) old
  firsts_kept n inserted old y firsts taken = record {
    ordered = firsts.ordered;
    within = firsts.within;
    first = λ s s_lt. elim (cases_eq s (signer y)) [
      | inl same ↦ elim taken [
        | inl past ↦ absurd (omega arith)
        | inr present ↦ (let seen : IsSome (item_of signer inserted s) = rw (← firsts.first s s_lt, same) present in
            firsts.first s s_lt ∙ sym (append_present inserted y s seen))
      ]
      | inr other ↦ firsts.first s s_lt ∙ sym (append_other inserted y s other)
    ];
  }

  -- ---- the items of two maps whose signers have the same

  IsBySigner-tail : (x : X) (xs : List X) → IsBySigner signer (x ∷ xs) → IsBySigner signer xs
  IsBySigner-tail x xs ordered i j d lt in_range = ordered (suc i) (suc j) d (omega arith) (omega arith)

  -- up to a bound that all signers exceed there is no item
  item_below : (xs : List X) (bound s : ℕ) → ((i : ℕ) (d : X) → i < length xs → bound < signer (get_or xs i d)) → s ≤ bound →
      item_of signer xs s ≡ None
  item_below xs bound s above le = no_item signer xs s (λ i d lt same. omega (arith, above i d lt))

  first_item : (x : X) (xs : List X) → item_of signer (x ∷ xs) (signer x) ≡ Some x
  first_item x xs = grind (arith, nat_tests)

  -- one of them begins with no smaller signer than the other
  head_le : (x y : X) (xs ys : List X) → IsBySigner signer (y ∷ ys) →
      item_of signer (x ∷ xs) (signer x) ≡ item_of signer (y ∷ ys) (signer x) → signer y ≤ signer x
  head_le x y xs ys ordered same = elim (cases_lt (signer x) (signer y)) [
    | inl lt ↦
        (let none = item_below (y ∷ ys) (signer x) (signer x) (above lt) (omega arith) in let found = first_item x xs in cc)
    | inr ge ↦ ge
  ]
    where
      above : signer x < signer y → (i : ℕ) (d : X) → i < length (y ∷ ys) → signer x < signer (get_or (y ∷ ys) i d)
      above lt zero d in_range = lt
      above lt (suc i) d in_range = omega (arith, ordered 0 (suc i) d (omega arith) in_range)

  pub same_items : (xs ys : List X) → IsBySigner signer xs → IsBySigner signer ys →
      ((s : ℕ) → item_of signer xs s ≡ item_of signer ys s) → xs ≡ ys
  same_items [] [] ordered_x ordered_y same = refl
  same_items [] (y ∷ ys) ordered_x ordered_y same = let e = same (signer y) ∙ first_item y ys in cc
  same_items (x ∷ xs) [] ordered_x ordered_y same = let e = sym (same (signer x)) ∙ first_item x xs in cc
  same_items (x ∷ xs) (y ∷ ys) ordered_x ordered_y same =
      let signers : signer x ≡ signer y =
      omega (arith, head_le x y xs ys ordered_y (same (signer x)), head_le y x ys xs ordered_x (sym (same (signer y)))) in
      let here : item_of signer (y ∷ ys) (signer x) ≡ Some y = ap (λ s. item_of signer (y ∷ ys) s) signers ∙ first_item y ys in
      let heads : x ≡ y = (let found = first_item x xs in let e = same (signer x) in cc) in
      let above_x : (i : ℕ) (d : X) → i < length xs → signer x < signer (get_or xs i d) = λ i d lt.
      ordered_x 0 (suc i) d (omega arith) (omega arith) in
      let above_y : (i : ℕ) (d : X) → i < length ys → signer y < signer (get_or ys i d) = λ i d lt.
      ordered_y 0 (suc i) d (omega arith) (omega arith) in
      let tails : xs ≡ ys =
      same_items xs ys (IsBySigner-tail x xs ordered_x) (IsBySigner-tail y ys ordered_y) (λ s. elim (cases_lt (signer x) s) [
        | inl lt ↦ (let s_x : eqb (signer x) s ≡ false = grind (arith, nat_tests) in let s_y : eqb (signer y) s ≡ false =
            grind (arith, nat_tests, signers) in let e = same s in grind (arith, s_x, s_y, e))
        | inr le ↦ item_below xs (signer x) s above_x le ∙ sym (item_below ys (signer y) s above_y (omega (arith, signers)))
      ]) in
      cc

  -- what was inserted decides the items
  pub single : (n : ℕ) (inserted xs ys : List X) → IsFirsts signer n inserted xs → IsFirsts signer n inserted ys → ys ≡ xs
  single n inserted xs ys first_x first_y = same_items ys xs first_y.ordered first_x.ordered (λ s. elim (cases_lt s n) [
    | inl lt ↦ first_y.first s lt ∙ sym (first_x.first s lt)
    | inr ge ↦ past ys s first_y.within ge ∙ sym (past xs s first_x.within ge)
  ])
    where
      past : (zs : List X) (s : ℕ) → AreParticipants signer n zs → n ≤ s → item_of signer zs s ≡ None
      past zs s within ge = no_item signer zs s (λ i d lt same. omega (arith, within i d lt))
