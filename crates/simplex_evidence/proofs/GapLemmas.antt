-- What halving finds among items in the order of their signers, and what an item put into its gap leaves.
use Rattle.std.proofs.Common.{◌≡◌, ℕ, zero, suc, ◌+◌, ◌-◌, ◌<◌, ◌≤◌, ◌∙◌, inl, inr, List, [], ◌∷◌, length, get_or, Some, None, IsSome, Result, Ok, Err, IfOk, IfErr, sym, ap, subst, refl, arith}
use Rattle.std.specs.List.{insert, slice_get}
use Rattle.std.proofs.lemmas.List.{get_or_default}
use Rattle.std.specs.List.Sorted.{IsPermutation, IsSearchInRange, IsBinarySearchResult, IsNonDecreasingBy}
use Rattle.std.specs.Ordering.{nat_cmp, ordering_index}
use Rattle.std.proofs.lemmas.Cmp.{ranked}
use Rattle.std.proofs.lemmas.Option.{get_or_from_slice_get, slice_get-get_or}
use Rattle.std.proofs.lemmas.List.Sorted.{IsPermutation-insert}
use Rattle.std.proofs.lemmas.List.Edits.{length-insert, get_or-insert_below, get_or-insert_at, get_or-insert_above}
use Rattle.std.proofs.lemmas.Bool.{cases_lt}
use Rattle.std.proofs.lemmas.Bool.Decides.{nat_tests}
use Rattle.simplex_evidence.specs.VoteMap.{item_of, IsBySigner, AreParticipants, AddsOnly, IsGap}

module _ {X : Type 0} (signer : X → ℕ) where
  -- ---- how many items there are

  -- each signer is at least its item's place
  place_le_signer : (xs : List X) → IsBySigner signer xs → (i : ℕ) (d : X) → i < length xs → i ≤ signer (get_or xs i d)
  place_le_signer xs ordered zero d lt = omega arith
  place_le_signer xs ordered (suc i) d lt =
      omega (arith, place_le_signer xs ordered i d (omega arith), ordered i (suc i) d (omega arith) lt)

  -- there are at most as many items as participants
  pub length_le : (n : ℕ) (xs : List X) → IsBySigner signer xs → AreParticipants signer n xs → length xs ≤ n
  length_le n [] ordered within = omega arith
  length_le n (x ∷ xs) ordered within =
      omega (arith, place_le_signer (x ∷ xs) ordered (length xs) x (omega arith), within (length xs) x (omega arith))

  -- ---- what a search finds

  -- the comparisons with s do not fall along the items
  comparisons_rise : (xs : List X) → IsBySigner signer xs → (s : ℕ) →
      IsNonDecreasingBy (λ x. ordering_index (nat_cmp (signer x) s)) xs
  comparisons_rise xs ordered s i j d le in_range =
      let rise : signer (get_or xs i d) ≤ signer (get_or xs j d) = elim (cases_lt i j)
      [ inl lt ↦ omega (arith, ordered i j d lt in_range) | inr ge ↦ (let e : i ≡ j = omega arith in rw e (omega arith)) ] in
      grind (arith, nat_tests)

  -- a search by signer ends at the signer's item, or at its gap
  pub searched : (xs : List X) → IsBySigner signer xs → (s : ℕ) (r : Result ℕ ℕ) → IsSearchInRange r (length xs) →
      IsBinarySearchResult (λ x. nat_cmp (signer x) s) xs r → record {
        found : IfOk r (λ place. (place < length xs) × ((d : X) → signer (get_or xs place d) ≡ s));
        gap : IfErr r (IsGap signer xs s);
      }
  searched xs ordered s (Ok place) in_range equal = record { found = (in_range, λ d. ranked _ s _ (sym (equal d))); gap = tt }
  searched xs ordered s (Err place) in_range parted = record {
    found = tt;
    gap = record {
      in_range = in_range;
      smaller_before = λ i d lt. ranked _ s _ (sym ((parted (comparisons_rise xs ordered s)).0 i d (omega arith) lt));
      greater_after = λ i d le lt. ranked _ s _ (sym ((parted (comparisons_rise xs ordered s)).1 i d le lt));
    };
  }

  -- a signer above that of the last item has its gap behind it
  pub beyond : (xs : List X) → IsBySigner signer xs → (s : ℕ) (last : X) → slice_get xs (length xs - 1) ≡ Some last →
      signer last < s → IsGap signer xs s (length xs)
  beyond xs ordered s last is lt = record {
    in_range = omega arith;
    smaller_before = λ i d below.
        let at = ap signer (get_or_from_slice_get xs (length xs - 1) last d is) in
        elim (cases_lt i (length xs - 1)) [
          | inl less ↦ omega (arith, at, ordered i (length xs - 1) d less (omega arith))
          | inr ge ↦ (let e : i ≡ length xs - 1 = omega arith in rw e (omega (arith, at)))
        ];
    greater_after = λ i d le below. absurd (omega arith);
  }

  -- a signer above that of an item is above those of all items before it
  pub above : (xs : List X) → IsBySigner signer xs → (last s : ℕ) (x : X) → last < length xs → x ≡ get_or xs last x →
      signer x < s → (i : ℕ) (d : X) → i ≤ last → signer (get_or xs i d) < s
  above xs ordered last s x in_range is lt i d le =
      let here : signer (get_or xs last d) ≡ signer x = ap signer (get_or_default xs last d x in_range ∙ sym is) in
      elim (cases_lt i last) [
        | inl less ↦ omega (arith, here, lt, ordered i last d less in_range)
        | inr ge ↦ (let e : i ≡ last = omega arith in rw e (omega (arith, here, lt)))
      ]

  -- a signer below that of an item is below those of all items behind it
  pub below : (xs : List X) → IsBySigner signer xs → (first s : ℕ) (x : X) → first < length xs → x ≡ get_or xs first x →
      s < signer x → (i : ℕ) (d : X) → first ≤ i → i < length xs → s < signer (get_or xs i d)
  below xs ordered first s x in_range is lt i d le i_lt =
      let here : signer (get_or xs first d) ≡ signer x = ap signer (get_or_default xs first d x in_range ∙ sym is) in
      elim (cases_lt first i) [
        | inl less ↦ omega (arith, here, lt, ordered first i d less i_lt)
        | inr ge ↦ (let e : i ≡ first = omega arith in rw e (omega (arith, here, lt)))
      ]

  -- ---- the item of a signer

  -- an item is its signer's
  pub item_at : (xs : List X) → IsBySigner signer xs → (i : ℕ) (d : X) → i < length xs →
      item_of signer xs (signer (get_or xs i d)) ≡ Some (get_or xs i d)
  item_at [] ordered i d lt = absurd (omega arith)
  item_at (x ∷ xs) ordered zero d lt = grind (arith, nat_tests)
  item_at (x ∷ xs) ordered (suc i) d lt =
      let ahead = ordered 0 (suc i) d (omega arith) lt in
      let tail : IsBySigner signer xs = λ a b e p q. ordered (suc a) (suc b) e (omega arith) (omega arith) in
      grind (arith, nat_tests, ahead, item_at xs tail i d (omega arith))

  -- an item read at a place whose signer is s
  pub item_read : (xs : List X) → IsBySigner signer xs → (place s : ℕ) (x : X) → place < length xs → x ≡ get_or xs place x →
      signer (get_or xs place x) ≡ s → item_of signer xs s ≡ Some x
  item_read xs ordered place s x lt is has = let found = item_at xs ordered place x lt in cc (found, is, has)

  -- a signer that stands at a place has an item
  pub some_item : (xs : List X) → IsBySigner signer xs → (place s : ℕ) (d : X) → place < length xs →
      signer (get_or xs place d) ≡ s → IsSome (item_of signer xs s)
  some_item xs ordered place s d lt has = rw (← has, item_at xs ordered place d lt) refl

  -- what stands at a place is the item of its signer
  pub stands_at : (xs : List X) → IsBySigner signer xs → (place s : ℕ) → place < length xs →
      ((d : X) → signer (get_or xs place d) ≡ s) →
      IsSome (item_of signer xs s) × (slice_get xs place ≡ item_of signer xs s)
  stands_at [] ordered place s lt has = absurd (omega arith)
  stands_at (x ∷ xs) ordered place s lt has =
      let there = slice_get-get_or (x ∷ xs) place x lt in
      let mine : item_of signer (x ∷ xs) s ≡ Some (get_or (x ∷ xs) place x) =
      subst (λ k. item_of signer (x ∷ xs) k ≡ Some (get_or (x ∷ xs) place x)) (has x) (item_at (x ∷ xs) ordered place x lt) in
      (subst IsSome (sym mine) refl, there ∙ sym mine)

  -- a signer that stands at no place has none
  pub no_item : (xs : List X) (s : ℕ) → ((i : ℕ) (d : X) → i < length xs → (signer (get_or xs i d) ≡ s → ⊥)) →
      item_of signer xs s ≡ None
  no_item [] s free = refl
  no_item (x ∷ xs) s free =
      grind (arith, nat_tests, free 0 x (omega arith), no_item xs s (λ i d lt. free (suc i) d (omega arith)))

  -- a signer with a gap has none
  pub item_in_gap : (xs : List X) (s place : ℕ) → IsGap signer xs s place → item_of signer xs s ≡ None
  item_in_gap xs s place gap = no_item xs s (λ i d lt. grind (arith, gap.smaller_before i d, gap.greater_after i d))

  -- ---- an item put into its gap

  -- an item put in is its signer's, where no item before it has that signer
  added_here : (xs : List X) (place : ℕ) (y : X) →
      ((i : ℕ) (d : X) → i < place → i < length xs → (signer (get_or xs i d) ≡ signer y → ⊥)) →
      item_of signer (insert xs place y) (signer y) ≡ Some y
  added_here xs zero y free = grind (arith, nat_tests)
  added_here [] (suc place) y free = grind (arith, nat_tests)
  added_here (x ∷ xs) (suc place) y free = grind (
    arith,
    nat_tests,
    free 0 x (omega arith) (omega arith),
    added_here xs place y (λ i d lt within. free (suc i) d (omega arith) (omega arith)),
  )

  -- the other signers have what they had
  others_stay : (xs : List X) (place : ℕ) (y : X) (s : ℕ) → (s ≡ signer y → ⊥) →
      item_of signer (insert xs place y) s ≡ item_of signer xs s
  others_stay xs zero y s other = grind (arith, nat_tests)
  others_stay [] (suc place) y s other = grind (arith, nat_tests)
  others_stay (x ∷ xs) (suc place) y s other = grind (arith, nat_tests, others_stay xs place y s other)

  pub adds_only : (xs : List X) (place : ℕ) (y : X) → IsGap signer xs (signer y) place →
      AddsOnly signer xs (insert xs place y) y
  adds_only xs place y gap = record {
    added = added_here xs place y (λ i d lt within same. omega (arith, gap.smaller_before i d lt));
    others = λ s other. others_stay xs place y s other;
    longer = length-insert xs place y gap.in_range;
  }

  -- the signers still ascend
  ordered-insert : (xs : List X) (place : ℕ) (y : X) → IsGap signer xs (signer y) place → IsBySigner signer xs →
      IsBySigner signer (insert xs place y)
  ordered-insert xs place y gap ordered i j d lt in_range =
      let new = insert xs place y in
      let len = length-insert xs place y gap.in_range in
      let below : (i : ℕ) → i < place → signer (get_or new i d) ≡ signer (get_or xs i d) = λ i b.
      ap signer (get_or-insert_below xs place y d i b gap.in_range) in
      let here : (i : ℕ) → i ≡ place → signer (get_or new i d) ≡ signer y = λ i e.
      rw e (ap signer (get_or-insert_at xs place y d gap.in_range)) in
      let above : (i : ℕ) → place < i → signer (get_or new i d) ≡ signer (get_or xs (i - 1) d) = λ i a.
      subst (λ q. signer (get_or new q d) ≡ signer (get_or xs (i - 1) d)) {x = i - 1 + 1} (omega arith)
      (ap signer (get_or-insert_above xs place y d (i - 1) (omega arith) gap.in_range)) in
      grind (
        arith,
        below i,
        here i,
        above i,
        below j,
        here j,
        above j,
        ordered i j d,
        ordered i (j - 1) d,
        ordered (i - 1) (j - 1) d,
        gap.smaller_before i d,
        gap.greater_after (j - 1) d,
      )

  -- and are still participants
  within-insert : (n : ℕ) (xs : List X) (place : ℕ) (y : X) → place ≤ length xs → AreParticipants signer n xs → signer y < n →
      AreParticipants signer n (insert xs place y)
  within-insert n xs place y in_range within lt i d i_lt =
      let new = insert xs place y in
      let len = length-insert xs place y in_range in
      elim (cases_lt i place) [
        | inl b ↦ rw (get_or-insert_below xs place y d i b in_range) (within i d (omega arith))
        | inr ge ↦ elim (cases_lt place i) [
          | inl a ↦ (let e : signer (get_or new i d) ≡ signer (get_or xs (i - 1) d) =
              subst (λ q. signer (get_or new q d) ≡ signer (get_or xs (i - 1) d)) {x = i - 1 + 1} (omega arith)
              (ap signer (get_or-insert_above xs place y d (i - 1) (omega arith) in_range)) in
              omega (arith, within (i - 1) d (omega arith)))
          | inr le ↦ (let e : i ≡ place = omega arith in rw (e, get_or-insert_at xs place y d in_range) lt)
        ]
      ]

  -- what an item put into its gap leaves
  pub record IsPutAt (n : ℕ) (old new : List X) (item : X) : Type 0 where
    pub ordered : IsBySigner signer new
    pub within : AreParticipants signer n new
    pub adds : AddsOnly signer old new item
    pub fresh : item_of signer old (signer item) ≡ None
    pub more : IsPermutation (item ∷ old) new
    pub room : length old < n

  -- `searched_in` and `reserved` are the items as the steps before see them
  pub put : (n : ℕ) (xs searched_in reserved new : List X) (place s : ℕ) (item : X) → IsBySigner signer xs →
      AreParticipants signer n xs → searched_in ≡ xs → reserved ≡ xs → s ≡ signer item → s < n →
      IsGap signer searched_in s place → new ≡ insert reserved place item → IsPutAt n xs new item
  put n xs searched_in reserved new place s item ordered within same kept is lt gap inserted =
      let gap_here : IsGap signer xs (signer item) place = rw (← same, ← is) gap in
      let is_new : new ≡ insert xs place item = rw kept at inserted in
      let ordered_new = ordered-insert xs place item gap_here ordered in
      let within_new = within-insert n xs place item gap_here.in_range within (rw (← is) lt) in
      rw is_new (record {
        ordered = ordered_new;
        within = within_new;
        adds = adds_only xs place item gap_here;
        fresh = item_in_gap xs _ place gap_here;
        more = IsPermutation-insert xs place item;
        room = omega
            (arith, length_le n (insert xs place item) ordered_new within_new, length-insert xs place item gap_here.in_range);
      })
