-- How many participants signed what was inserted.
use Rattle.std.proofs.Common.{◌≡◌, ℕ, ◌<◌, ◌≤◌, ◌&&◌, inl, inr, Bool, true, false, List, [], ◌∷◌, length, get_or, map, sym, refl, ap, ◌∙◌, arith}
use Rattle.std.specs.Prelude.{nat_eq, nat_lt}
use Rattle.std.specs.List.{IsDistinct, filter}
use Rattle.std.specs.Option.{is_some}
use Rattle.std.specs.Set.{is_member}
use Rattle.std.proofs.lemmas.Bool.{cases_lt, eqb-true}
use Rattle.std.proofs.lemmas.Bool.Decides.{nat_tests}
use Rattle.std.proofs.lemmas.Cmp.{nat_eq_equiv}
use Rattle.std.proofs.lemmas.List.{get_or-map, length-map}
use Rattle.std.proofs.lemmas.List.Elements.{All-head, All-tail}
use Rattle.std.proofs.lemmas.Map.Keys.{IsDistinct-from_apart}
use Rattle.std.proofs.lemmas.Map.Made.{length-from_keys, is_member-filter}
use Rattle.simplex_evidence.specs.VoteMap.{item_of, IsBySigner, IsFirsts, signers_among}

apart : (m n : ℕ) → m < n → nat_eq m n ≡ false
apart m n less = grind (arith, nat_tests)

-- a number passes the tests that its equals pass
same_test : (n s x : ℕ) → nat_eq s x ≡ true → nat_lt s n ≡ nat_lt x n
same_test n s x equal = ap (λ k. nat_lt k n) (eqb-true s x equal)

module _ {X : Type 0} (signer : X → ℕ) where
  distinct_signers : (xs : List X) → IsBySigner signer xs → IsDistinct nat_eq (map signer xs)
  distinct_signers [] ordered = IsDistinct-from_apart nat_eq [] (λ i j d before within. absurd (omega arith))
  distinct_signers (x ∷ xs) ordered =
      IsDistinct-from_apart nat_eq (map signer (x ∷ xs)) (λ i j d before within.
      let inside : j < length (x ∷ xs) = omega (arith, length-map (x ∷ xs) signer) in
      rw (get_or-map signer (x ∷ xs) i x d (omega arith), get_or-map signer (x ∷ xs) j x d inside)
      (apart _ _ (ordered i j x before inside)))

  -- a signer is among those of the items exactly where it has one
  member_item : (xs : List X) (s : ℕ) → is_member nat_eq (map signer xs) s ≡ is_some (item_of signer xs s)
  member_item [] s = refl
  member_item (x ∷ xs) s = grind (arith, nat_tests, member_item xs s)

  none_past : (n : ℕ) (xs : List X) (s : ℕ) → ((i : ℕ) (d : X) → i < length xs → signer (get_or xs i d) < n) → n ≤ s →
      is_member nat_eq (map signer xs) s ≡ false
  none_past n [] s below past = refl
  none_past n (x ∷ xs) s below past =
      let first = All-head (λ y. signer y < n) x xs below in
      grind (arith, nat_tests, none_past n xs s (All-tail (λ y. signer y < n) x xs below) past)

  -- the first items of some are as many as the participants who signed these
  pub firsts_counted : (n : ℕ) (inserted items : List X) → IsFirsts signer n inserted items →
      length items ≡ signers_among signer n inserted
  firsts_counted n inserted items firsts =
      sym (length-map items signer) ∙
      length-from_keys nat_eq_equiv (map signer items) (filter (λ s. nat_lt s n) (map signer inserted))
      (distinct_signers items firsts.ordered) (λ s.
      same s ∙ sym (is_member-filter nat_eq_equiv (λ k. nat_lt k n) s (same_test n s) (map signer inserted)))
    where
      inside : (s : ℕ) (b : Bool) → s < n → (b && nat_lt s n) ≡ b
      inside s true lt = grind (arith, nat_tests)
      inside s false lt = refl

      outside : (s : ℕ) (b : Bool) → n ≤ s → (b && nat_lt s n) ≡ false
      outside s true ge = grind (arith, nat_tests)
      outside s false ge = refl

      same : (s : ℕ) → is_member nat_eq (map signer items) s ≡ (is_member nat_eq (map signer inserted) s && nat_lt s n)
      same s = elim (cases_lt s n) [
        | inl lt ↦ member_item items s ∙ ap is_some (firsts.first s lt) ∙ sym (member_item inserted s) ∙ sym (inside s _ lt)
        | inr ge ↦ none_past n items s firsts.within ge ∙ sym (outside s _ ge)
      ]
