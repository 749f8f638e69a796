-- Where votes stand in an index, and what one vote more changes there.
use Rattle.std.proofs.Common.{arith, get_or, take, inl, inr, ◌⊎◌, ◌<◌, refl, sym, ap, subst, ℕ, ◌+◌, ◌*◌, ◌^◌, ◌≤◌, ◌≡◌, ◌∙◌, Bool, true, false, cond, eqb, List, [], ◌∷◌, ◌++◌, length, map, Option, Some, None}
use Rattle.std.proofs.lemmas.Bool.{eq-eqb, eqb-true, false≢true, ltb-true, ne_eqb}
use Rattle.std.proofs.lemmas.Grind.{flat_map-append}
use Rattle.std.proofs.lemmas.List.{flat_map_more, length-append, length-map, take_more}
use Rattle.std.proofs.lemmas.List.Folds.{find-append, flat_map-map}
use Rattle.std.specs.List.{find, flat_map}
use Rattle.std.specs.Option.{IsSome, is_some, option_map, option_or}
use Rattle.std.specs.Prelude.{nat_lt, if◌then◌else◌}
use Rattle.simplex_scheme.specs.declared.kind.VoteKind.{VoteKind}
use Rattle.simplex_scheme.specs.declared.kind.VoteKind.TheVariants as kinds
use Rattle.simplex_evidence.specs.VoteMap.{AddsOnly, item_of}
use Rattle.simplex_ballots.specs.Ballots.{kind_number, slot_number, vote_key}
use Rattle.simplex_ballots.specs.Firsts.{first_key}
use Rattle.simplex_ballots.specs.Index.{PlacesOne, as_placed, firsts_in, placed_at, placed_key, places_in, second_signer}
use Rattle.simplex_ballots.specs.declared.firsts.First.{First}
use Rattle.simplex_ballots.specs.declared.index.Index.{Index}
use Rattle.simplex_ballots.specs.declared.placed.Placed.{Placed}

-- ---- the keys

other_small : (b : Bool) → (if b then 1 else 0) ≤ 1
other_small true = omega arith
other_small false = omega arith

number_small : (kind : VoteKind) → kind_number kind ≤ 2
number_small kinds.Notarize = omega arith
number_small kinds.Nullify = omega arith
number_small kinds.Finalize = omega arith

same_other : (a b : Bool) → ◌≡◌ {A = ℕ} (if a then 1 else 0) (if b then 1 else 0) → a ≡ b
same_other true true e = refl
same_other false false e = refl
same_other true false e = absurd (omega (arith, e))
same_other false true e = absurd (omega (arith, e))

same_number : (k l : VoteKind) → kind_number k ≡ kind_number l → k ≡ l
same_number kinds.Notarize kinds.Notarize e = refl
same_number kinds.Nullify kinds.Nullify e = refl
same_number kinds.Finalize kinds.Finalize e = refl
same_number kinds.Notarize kinds.Nullify e = absurd (omega (arith, e))
same_number kinds.Notarize kinds.Finalize e = absurd (omega (arith, e))
same_number kinds.Nullify kinds.Notarize e = absurd (omega (arith, e))
same_number kinds.Nullify kinds.Finalize e = absurd (omega (arith, e))
same_number kinds.Finalize kinds.Notarize e = absurd (omega (arith, e))
same_number kinds.Finalize kinds.Nullify e = absurd (omega (arith, e))

-- the numbers in a slot's number
parts_of_slot : (m n a b : ℕ) → a ≤ 1 → b ≤ 1 → 2 * m + a ≡ 2 * n + b → (m ≡ n) × (a ≡ b)
parts_of_slot m n a b p q e = (omega (arith, p, q, e), omega (arith, p, q, e))

same_slot : (k l : VoteKind) (a b : Bool) → slot_number k a ≡ slot_number l b → (k ≡ l) × (a ≡ b)
same_slot k l a b e =
    let parts = parts_of_slot (kind_number k) (kind_number l) (if a then 1 else 0) (if b then 1 else 0) (other_small a)
    (other_small b) e in
    (same_number k l parts.0, same_other a b parts.1)

slot_small : (k : VoteKind) (a : Bool) → slot_number k a ≤ 5
slot_small k a = small (kind_number k) (if a then 1 else 0) (number_small k) (other_small a)
  where
    small : (m n : ℕ) → m ≤ 2 → n ≤ 1 → 2 * m + n ≤ 5
    small m n p q = omega (arith, p, q)

-- the numbers in a key
parts_of_key : (s t p q : ℕ) → p ≤ 5 → q ≤ 5 →
    (if nat_lt s (2 ^ 32) then 2 ^ 32 * p + s else 6 * s + p + 6 * 2 ^ 32)
    ≡ (if nat_lt t (2 ^ 32) then 2 ^ 32 * q + t else 6 * t + q + 6 * 2 ^ 32) → (s ≡ t) × (p ≡ q)
parts_of_key s t p q u v e = by (nat_lt s (2 ^ 32)) (nat_lt t (2 ^ 32)) refl refl e
  where
    by : (a b : Bool) → nat_lt s (2 ^ 32) ≡ a → nat_lt t (2 ^ 32) ≡ b →
        (if a then 2 ^ 32 * p + s else 6 * s + p + 6 * 2 ^ 32) ≡ (if b then 2 ^ 32 * q + t else 6 * t + q + 6 * 2 ^ 32) →
        (s ≡ t) × (p ≡ q)
    by true true x y e =
        let s_lt = ltb-true _ _ x in
        let t_lt = ltb-true _ _ y in
        (omega (arith, u, v, s_lt, t_lt, e), omega (arith, u, v, s_lt, t_lt, e))
    by true false x y e =
        let s_lt = ltb-true _ _ x in
        absurd (omega (arith, u, v, s_lt, e))
    by false true x y e =
        let t_lt = ltb-true _ _ y in
        absurd (omega (arith, u, v, t_lt, e))
    by false false x y e = (omega (arith, u, v, e), omega (arith, u, v, e))

-- a key is of one signer and kind
pub same_key : (s t : ℕ) (k l : VoteKind) (a b : Bool) → vote_key s k a ≡ vote_key t l b → (s ≡ t) × ((k ≡ l) × (a ≡ b))
same_key s t k l a b e =
    let parts = parts_of_key s t (slot_number k a) (slot_number l b) (slot_small k a) (slot_small l b) e in
    (parts.0, same_slot k l a b parts.1)

-- ---- the vote of a signer and kind

-- the votes in a list of earliest ones of a kind
abbrev own_votes : VoteKind → List First → List Placed
own_votes kind firsts = map (as_placed kind) firsts

-- a signer's vote in the list of its kind
among_own : (kind : VoteKind) (s : ℕ) (firsts : List First) →
    item_of placed_key (own_votes kind firsts) (vote_key s kind false)
    ≡ option_map (as_placed kind) (item_of first_key firsts s)
among_own kind s [] = refl
among_own kind s (f ∷ fs) = by (eqb f.signer s) refl (among_own kind s fs)
  where
    by : (b : Bool) → eqb f.signer s ≡ b →
        item_of placed_key (own_votes kind fs) (vote_key s kind false) ≡ option_map (as_placed kind) (item_of first_key fs s) →
        item_of placed_key (own_votes kind (f ∷ fs)) (vote_key s kind false)
        ≡ option_map (as_placed kind) (item_of first_key (f ∷ fs) s)
    by true e rest =
        ap (λ t. cond t (Some (as_placed kind f)) (item_of placed_key (own_votes kind fs) (vote_key s kind false)))
        (eq-eqb (vote_key f.signer kind false) (vote_key s kind false)
        (ap (λ t. vote_key t kind false) (eqb-true f.signer s e)))
        ∙ sym (ap (λ t. option_map (as_placed kind) (cond t (Some f) (item_of first_key fs s))) e)
    by false e rest =
        ap (λ t. cond t (Some (as_placed kind f)) (item_of placed_key (own_votes kind fs) (vote_key s kind false)))
        (ne_eqb (vote_key f.signer kind false) (vote_key s kind false)
        (λ same. false≢true (sym e ∙ eq-eqb f.signer s (same_key f.signer s kind kind false false same).0)))
        ∙ rest ∙ sym (ap (λ t. option_map (as_placed kind) (cond t (Some f) (item_of first_key fs s))) e)

-- a vote of another kind, or one that is not the earliest, is not in it
not_among : (kind : VoteKind) (firsts : List First) (s : ℕ) (k : VoteKind) (b : Bool) → ((kind ≡ k) → (false ≡ b) → ⊥) →
    item_of placed_key (own_votes kind firsts) (vote_key s k b) ≡ None
not_among kind [] s k b differs = refl
not_among kind (f ∷ fs) s k b differs =
    ap (λ t. cond t (Some (as_placed kind f)) (item_of placed_key (own_votes kind fs) (vote_key s k b)))
    (ne_eqb (vote_key f.signer kind false) (vote_key s k b) (λ same.
    let parts = same_key f.signer s kind k false b same in differs parts.1.0 parts.1.1))
    ∙ not_among kind fs s k b differs

-- where a vote is looked for, list by list
looked_for : (index : Index) (s : ℕ) (k : VoteKind) (b : Bool) → placed_at index s k b
    ≡ option_or (item_of placed_key (own_votes kinds.Notarize index.notarizes) (vote_key s k b))
    (option_or (item_of placed_key (own_votes kinds.Nullify index.nullifies) (vote_key s k b))
    (option_or (item_of placed_key (own_votes kinds.Finalize index.finalizes) (vote_key s k b))
    (item_of placed_key index.others (vote_key s k b))))
looked_for index s k b =
    let test : Placed → Bool = λ p. eqb (placed_key p) (vote_key s k b) in
    let own = find test (own_votes kinds.Notarize index.notarizes) in
    let next = find test (own_votes kinds.Nullify index.nullifies) in
    find-append test (own_votes kinds.Notarize index.notarizes) _
    ∙ ap (option_or own) (find-append test (own_votes kinds.Nullify index.nullifies) _
    ∙ ap (option_or next) (find-append test (own_votes kinds.Finalize index.finalizes) index.others))

-- the earliest is in the list of its kind, or else among the others
pub earliest : (index : Index) (s : ℕ) (k : VoteKind) → placed_at index s k false
    ≡ option_or (option_map (as_placed k) (item_of first_key (firsts_in index k) s))
    (item_of placed_key index.others (vote_key s k false))
earliest index s k = looked_for index s k false ∙ by k
  where
    or_none : {X : Type 0} (o p : Option X) → p ≡ None → option_or o (option_or p None) ≡ o
    or_none None p e = ap (λ q. option_or q None) e
    or_none (Some x) p e = refl

    by : (k : VoteKind) → option_or (item_of placed_key (own_votes kinds.Notarize index.notarizes) (vote_key s k false))
        (option_or (item_of placed_key (own_votes kinds.Nullify index.nullifies) (vote_key s k false))
        (option_or (item_of placed_key (own_votes kinds.Finalize index.finalizes) (vote_key s k false))
        (item_of placed_key index.others (vote_key s k false))))
        ≡ option_or (option_map (as_placed k) (item_of first_key (firsts_in index k) s))
        (item_of placed_key index.others (vote_key s k false))
    by kinds.Notarize =
        let rest = item_of placed_key index.others (vote_key s kinds.Notarize false) in
        let second = not_among kinds.Nullify index.nullifies s kinds.Notarize false (λ e _. absurd cc) in
        let third = not_among kinds.Finalize index.finalizes s kinds.Notarize false (λ e _. absurd cc) in
        λ i. option_or (among_own kinds.Notarize s index.notarizes i) (option_or (second i) (option_or (third i) rest))
    by kinds.Nullify =
        let rest = item_of placed_key index.others (vote_key s kinds.Nullify false) in
        let first = not_among kinds.Notarize index.notarizes s kinds.Nullify false (λ e _. absurd cc) in
        let third = not_among kinds.Finalize index.finalizes s kinds.Nullify false (λ e _. absurd cc) in
        λ i. option_or (first i) (option_or (among_own kinds.Nullify s index.nullifies i) (option_or (third i) rest))
    by kinds.Finalize =
        let rest = item_of placed_key index.others (vote_key s kinds.Finalize false) in
        let first = not_among kinds.Notarize index.notarizes s kinds.Finalize false (λ e _. absurd cc) in
        let second = not_among kinds.Nullify index.nullifies s kinds.Finalize false (λ e _. absurd cc) in
        λ i. option_or (first i) (option_or (second i) (option_or (among_own kinds.Finalize s index.finalizes i) rest))

-- the other is among the others
pub later : (index : Index) (s : ℕ) (k : VoteKind) →
    placed_at index s k true ≡ item_of placed_key index.others (vote_key s k true)
later index s k =
    let none : (kind : VoteKind) (firsts : List First) →
    item_of placed_key (own_votes kind firsts) (vote_key s k true) ≡ None = λ kind firsts.
    not_among kind firsts s k true (λ _. false≢true) in
    let first = none kinds.Notarize index.notarizes in
    let second = none kinds.Nullify index.nullifies in
    let third = none kinds.Finalize index.finalizes in
    looked_for index s k true
    ∙ (λ i. option_or (first i) (option_or (second i) (option_or (third i) (item_of placed_key index.others
    (vote_key s k true)))))

-- how many there are
pub count : (index : Index) → length (places_in index)
    ≡ length index.notarizes + (length index.nullifies + (length index.finalizes + length index.others))
count index =
    length-append (own_votes kinds.Notarize index.notarizes) _
    ∙ (λ i. length-map index.notarizes (as_placed kinds.Notarize) i
    + length-append (own_votes kinds.Nullify index.nullifies)
    (own_votes kinds.Finalize index.finalizes ++ index.others) i)
    ∙ (λ i. length index.notarizes + (length-map index.nullifies (as_placed kinds.Nullify) i
    + length-append (own_votes kinds.Finalize index.finalizes) index.others i))
    ∙ (λ i. length index.notarizes + (length index.nullifies
    + (length-map index.finalizes (as_placed kinds.Finalize) i + length index.others)))

-- ---- the place of a vote

-- the place of the earliest, from where it was found
pub held_first : (o : Option First) (k : VoteKind) (rest : Option Placed) (place : ℕ) →
    option_map (λ (f : First). f.place) o ≡ Some place →
    option_map (λ (p : Placed). p.place) (option_or (option_map (as_placed k) o) rest) ≡ Some place
held_first None k rest place e = absurd cc
held_first (Some f) k rest place e = e

-- ---- one vote more

-- an index with another list of earliest votes of a kind
abbrev pub with_firsts : Index → VoteKind → List First → Index
with_firsts index kinds.Notarize firsts = record {
  alloc = index.alloc;
  notarizes = firsts;
  nullifies = index.nullifies;
  finalizes = index.finalizes;
  others = index.others;
}
with_firsts index kinds.Nullify firsts = record {
  alloc = index.alloc;
  notarizes = index.notarizes;
  nullifies = firsts;
  finalizes = index.finalizes;
  others = index.others;
}
with_firsts index kinds.Finalize firsts = record {
  alloc = index.alloc;
  notarizes = index.notarizes;
  nullifies = index.nullifies;
  finalizes = firsts;
  others = index.others;
}

own_firsts : (index : Index) (k : VoteKind) (firsts : List First) → firsts_in (with_firsts index k firsts) k ≡ firsts
own_firsts index kinds.Notarize firsts = refl
own_firsts index kinds.Nullify firsts = refl
own_firsts index kinds.Finalize firsts = refl

same_others : (index : Index) (k : VoteKind) (firsts : List First) → (with_firsts index k firsts).others ≡ index.others
same_others index kinds.Notarize firsts = refl
same_others index kinds.Nullify firsts = refl
same_others index kinds.Finalize firsts = refl

-- the lists of the other kinds are as before
other_firsts : (index : Index) (k : VoteKind) (firsts : List First) (l : VoteKind) →
    (firsts_in (with_firsts index k firsts) l ≡ firsts_in index l) ⊎ (l ≡ k)
other_firsts index kinds.Notarize firsts kinds.Notarize = inr refl
other_firsts index kinds.Notarize firsts kinds.Nullify = inl refl
other_firsts index kinds.Notarize firsts kinds.Finalize = inl refl
other_firsts index kinds.Nullify firsts kinds.Notarize = inl refl
other_firsts index kinds.Nullify firsts kinds.Nullify = inr refl
other_firsts index kinds.Nullify firsts kinds.Finalize = inl refl
other_firsts index kinds.Finalize firsts kinds.Notarize = inl refl
other_firsts index kinds.Finalize firsts kinds.Nullify = inl refl
other_firsts index kinds.Finalize firsts kinds.Finalize = inr refl

longer_by_one : (index : Index) (k : VoteKind) (firsts : List First) → length firsts ≡ length (firsts_in index k) + 1 →
    length (places_in (with_firsts index k firsts)) ≡ length (places_in index) + 1
longer_by_one index kinds.Notarize firsts more =
    omega (arith, more, count index, count (with_firsts index kinds.Notarize firsts))
longer_by_one index kinds.Nullify firsts more =
    omega (arith, more, count index, count (with_firsts index kinds.Nullify firsts))
longer_by_one index kinds.Finalize firsts more =
    omega (arith, more, count index, count (with_firsts index kinds.Finalize firsts))

-- one earliest vote more
module _ (index : Index) (k : VoteKind) (firsts : List First) (first : First)
    (adds : AddsOnly first_key (firsts_in index k) firsts first) where
  abbrev with_one : Index
  with_one = with_firsts index k firsts

  -- the list of a kind has as before what is not the vote
  each : (s : ℕ) (l : VoteKind) → (vote_key s l false ≡ vote_key first.signer k false → ⊥) →
      item_of first_key (firsts_in with_one l) s ≡ item_of first_key (firsts_in index l) s
  each s l differs = elim (other_firsts index k firsts l) [
    | inl same ↦ ap (λ fs. item_of first_key fs s) same
    | inr own ↦
        ap (λ m. item_of first_key (firsts_in with_one m) s) own
        ∙ ap (λ fs. item_of first_key fs s) (own_firsts index k firsts)
        ∙ adds.others s (λ same. differs (λ i. vote_key (same i) (own i) false))
        ∙ ap (λ m. item_of first_key (firsts_in index m) s) (sym own)
  ]

  elsewhere : (s : ℕ) (l : VoteKind) (b : Bool) → (vote_key s l b ≡ vote_key first.signer k false → ⊥) →
      placed_at with_one s l b ≡ placed_at index s l b
  elsewhere s l false differs =
      earliest with_one s l
      ∙ (λ i. option_or (option_map (as_placed l) (each s l differs i))
      (item_of placed_key (same_others index k firsts i) (vote_key s l false)))
      ∙ sym (earliest index s l)
  elsewhere s l true differs =
      later with_one s l ∙ ap (λ ps. item_of placed_key ps (vote_key s l true)) (same_others index k firsts)
      ∙ sym (later index s l)

  pub places_first : PlacesOne index with_one (as_placed k first)
  places_first = record {
    added = earliest with_one first.signer k
        ∙ ap (λ fs. option_or (option_map (as_placed k) (item_of first_key fs first.signer))
        (item_of placed_key with_one.others (vote_key first.signer k false))) (own_firsts index k firsts)
        ∙ ap (λ o. option_or (option_map (as_placed k) o)
        (item_of placed_key with_one.others (vote_key first.signer k false))) adds.added;
    others = elsewhere;
    longer = longer_by_one index k firsts adds.longer;
  }

-- an index with another list of other votes
abbrev pub with_others : Index → List Placed → Index
with_others index others = record {
  alloc = index.alloc;
  notarizes = index.notarizes;
  nullifies = index.nullifies;
  finalizes = index.finalizes;
  others = others;
}

-- the lists of earliest votes are as before
same_firsts : (index : Index) (others : List Placed) (k : VoteKind) →
    firsts_in (with_others index others) k ≡ firsts_in index k
same_firsts index others kinds.Notarize = refl
same_firsts index others kinds.Nullify = refl
same_firsts index others kinds.Finalize = refl

-- one vote more among the others, if none of its signer and kind stands before them
module _ (index : Index) (others : List Placed) (placed : Placed) (adds : AddsOnly placed_key index.others others placed)
    (free : placed.is_other ≡ false → item_of first_key (firsts_in index placed.kind) placed.signer ≡ None) where
  abbrev with_another : Index
  with_another = with_others index others

  own_place : (b : Bool) → placed.is_other ≡ b → placed_at with_another placed.signer placed.kind b ≡ Some placed
  own_place true e =
      later with_another placed.signer placed.kind
      ∙ ap (λ b. item_of placed_key others (vote_key placed.signer placed.kind b)) (sym e) ∙ adds.added
  own_place false e =
      earliest with_another placed.signer placed.kind
      ∙ ap (λ fs. option_or (option_map (as_placed placed.kind) (item_of first_key fs placed.signer))
      (item_of placed_key others (vote_key placed.signer placed.kind false))) (same_firsts index others placed.kind)
      ∙ ap (λ o. option_or (option_map (as_placed placed.kind) o)
      (item_of placed_key others (vote_key placed.signer placed.kind false))) (free e)
      ∙ ap (λ b. item_of placed_key others (vote_key placed.signer placed.kind b)) (sym e) ∙ adds.added

  apart_from_it : (s : ℕ) (l : VoteKind) (b : Bool) → (vote_key s l b ≡ placed_key placed → ⊥) →
      placed_at with_another s l b ≡ placed_at index s l b
  apart_from_it s l false differs =
      earliest with_another s l
      ∙ (λ i. option_or (option_map (as_placed l) (item_of first_key (same_firsts index others l i) s))
      (adds.others (vote_key s l false) differs i))
      ∙ sym (earliest index s l)
  apart_from_it s l true differs =
      later with_another s l ∙ adds.others (vote_key s l true) differs ∙ sym (later index s l)

  pub places_other : PlacesOne index with_another placed
  places_other = record {
    added = own_place placed.is_other refl;
    others = apart_from_it;
    longer = omega (arith, adds.longer, count index, count with_another);
  }

-- ---- a vote that is there already

-- in the list of its kind
pub first_here : (index : Index) (s : ℕ) (k : VoteKind) → IsSome (item_of first_key (firsts_in index k) s) →
    IsSome (placed_at index s k false)
first_here index s k some =
    subst IsSome (sym (earliest index s k)) (either (item_of first_key (firsts_in index k) s) some)
  where
    either : (o : Option First) → IsSome o →
        IsSome (option_or (option_map (as_placed k) o) (item_of placed_key index.others (vote_key s k false)))
    either None h = absurd (false≢true h)
    either (Some f) h = refl

-- among the others
pub other_here : (index : Index) (s : ℕ) (k : VoteKind) (b : Bool) → IsSome (item_of placed_key index.others (vote_key s k b)) →
    IsSome (placed_at index s k b)
other_here index s k true some = subst IsSome (sym (later index s k)) some
other_here index s k false some =
    subst IsSome (sym (earliest index s k)) (either (option_map (as_placed k) (item_of first_key (firsts_in index k) s))
    (item_of placed_key index.others (vote_key s k false)) some)
  where
    either : (o p : Option Placed) → IsSome p → IsSome (option_or o p)
    either None p h = h
    either (Some q) p h = refl

-- where there is none
pub none_there : {X : Type 0} (o : Option X) → is_some o ≡ false → o ≡ None
none_there None e = refl
none_there (Some x) e = absurd (false≢true (sym e))

-- ---- the signers of second votes

-- no earliest notarize or finalize is a second vote, and each nullify is
pub seconds : (index : Index) → flat_map second_signer (places_in index)
    ≡ flat_map (λ (f : First). f.signer ∷ []) index.nullifies ++ flat_map second_signer index.others
seconds index =
    flat_map-append second_signer (own_votes kinds.Notarize index.notarizes) _
    ∙ (λ i. none kinds.Notarize index.notarizes (λ f. refl) i
    ++ flat_map-append second_signer (own_votes kinds.Nullify index.nullifies)
    (own_votes kinds.Finalize index.finalizes ++ index.others) i)
    ∙ (λ i. flat_map-map second_signer (as_placed kinds.Nullify) index.nullifies i
    ++ flat_map-append second_signer (own_votes kinds.Finalize index.finalizes) index.others i)
    ∙ ap (λ ss. flat_map (λ (f : First). f.signer ∷ []) index.nullifies ++ (ss ++ flat_map second_signer index.others))
    (none kinds.Finalize index.finalizes (λ f. refl))
  where
    none : (k : VoteKind) (firsts : List First) → ((f : First) → second_signer (as_placed k f) ≡ []) →
        flat_map second_signer (own_votes k firsts) ≡ []
    none k [] h = refl
    none k (f ∷ fs) h = (λ i. h f i ++ none k fs h i)

-- what one element more appends
pub appended_next : {X E : Type 0} (f : X → List E) (old so_far new : List E) (xs : List X) (i : ℕ) (x d : X) → i < length xs →
    x ≡ get_or xs i d → so_far ≡ old ++ flat_map f (take i xs) → new ≡ so_far ++ f x →
    new ≡ old ++ flat_map f (take (i + 1) xs)
appended_next f old so_far new xs i x d lt at before is =
    is ∙ ap (λ es. es ++ f x) before ∙ flat_map_more f old (take i xs) x ∙
    ap (λ ys. old ++ flat_map f ys) (ap (λ y. take i xs ++ y ∷ []) at ∙ sym (take_more xs i d lt))
