-- A map from rounds to values that lie at places of their own.
use Rattle.std.proofs.Common.{Contains, ◌↔◌, filter, Bool, List, None, Option, Ordering, Some, [], ap, cond, false, refl, subst, sym, true, ℕ, ◌∙◌, ◌∷◌, ◌≡◌, ◌≢◌, IsSome, is_some, option_map, option_and_then, Less, Equal, Greater}
use Rattle.std.proofs.lemmas.Bool.{false≢true}
use Rattle.std.proofs.lemmas.Cmp.{eq_by_cmp_equiv}
use Rattle.std.proofs.lemmas.Map.{lookup-set_value}
use Rattle.std.proofs.lemmas.Map.Keys.{IsDistinct-from_sorted}
use Rattle.std.proofs.lemmas.Map.Views.{Contains-from_lookup, lookup-from_Contains, tells_apart}
use Rattle.std.proofs.lemmas.Option.{same_Some}
use Rattle.std.specs.BTreeMap as tree
use Rattle.std.specs.BTreeMap.{insert_entry}
use Rattle.std.specs.List.{cons_option}
use Rattle.std.specs.Map.{keys_of, lookup, set_value}
use Rattle.std.specs.Ordering.{match_ordering}
use Rattle.simplex_base.specs.Positions.{Round}
use Rattle.simplex_rules.proofs.Places.{exact_rounds, key_tells, round_cmp_total}
use Rattle.simplex_rules.specs.Accusation.{round_cmp}
use Rattle.simplex_detector.specs.declared.round_map.RoundMap.TheInside.{Inside}
use Rattle.simplex_detector.specs.RoundMap.{ArePlaced, IsFree, IsPlaceOf, IsOrdered, IsSound, Updates, get, placed}
use Rattle.slab.specs.Slab as slab
use Rattle.slab.proofs.SlabLemmas.{Updates-with_value}

-- a value that is there
there : {V : Type 0} (o : Option V) → IsSome o → (v : V) × (o ≡ Some v)
there None h = absurd (false≢true h)
there (Some v) h = (v, refl)

module _ {V : Type 0} (at : ℕ → Option V) where
  -- the first round of a map, and its value
  pub placed_first : (e : Round × ℕ) (entries : List (Round × ℕ)) (v : V) → at e.1 ≡ Some v →
      placed at (e ∷ entries) ≡ (e.0, v) ∷ placed at entries
  placed_first e entries v is = λ i. cons_option (option_map (λ v. (e.0, v)) (is i)) (placed at entries)

  -- the value that is found for a round is that at its place
  pub placed_lookup : (test : Round → Bool) (entries : List (Round × ℕ)) → ArePlaced at entries →
      lookup test (placed at entries) ≡ option_and_then at (lookup test entries)
  placed_lookup test [] h = refl
  placed_lookup test (e ∷ entries) h =
      let (v, is) = there (at e.1) h.0 in
      ap (lookup test) (placed_first e entries v is)
      ∙ either (test e.0) v (lookup test (placed at entries)) (lookup test entries) is (placed_lookup test entries h.2)
    where
      either : (b : Bool) (v : V) (value : Option V) (place : Option ℕ) → at e.1 ≡ Some v →
          value ≡ option_and_then at place → cond b (Some v) value ≡ option_and_then at (cond b (Some e.1) place)
      either true v value place is rest = sym is
      either false v value place is rest = rest

  -- there is a value at a round's place
  pub found_is_placed : (test : Round → Bool) (place : ℕ) (entries : List (Round × ℕ)) → ArePlaced at entries →
      lookup test entries ≡ Some place → IsSome (at place)
  found_is_placed test place [] h found = absurd (false≢true (ap is_some found))
  found_is_placed test place (e ∷ entries) h found =
      by (test e.0) found (found_is_placed test place entries h.2)
    where
      by : (b : Bool) → cond b (Some e.1) (lookup test entries) ≡ Some place →
          (lookup test entries ≡ Some place → IsSome (at place)) → IsSome (at place)
      by true here rest = subst (λ p. IsSome (at p)) (same_Some e.1 place here) h.0
      by false later rest = rest later

  -- what is kept by a test of the rounds
  pub placed_filter : (test : Round → Bool) (entries : List (Round × ℕ)) → ArePlaced at entries →
      filter (λ e. test e.0) (placed at entries) ≡ placed at (filter (λ e. test e.0) entries)
  placed_filter test [] h = refl
  placed_filter test (e ∷ entries) h =
      let (v, is) = there (at e.1) h.0 in
      ap (filter (λ e. test e.0)) (placed_first e entries v is)
      ∙ either (test e.0) v is (placed_filter test entries h.2)
    where
      either : (b : Bool) (v : V) → at e.1 ≡ Some v →
          filter (λ e. test e.0) (placed at entries) ≡ placed at (filter (λ e. test e.0) entries) →
          cond b ((e.0, v) ∷ filter (λ e. test e.0) (placed at entries)) (filter (λ e. test e.0) (placed at entries))
          ≡ placed at (cond b (e ∷ filter (λ e. test e.0) entries) (filter (λ e. test e.0) entries))
      either true v is rest =
          ap (λ kept. (e.0, v) ∷ kept) rest ∙ sym (placed_first e (filter (λ e. test e.0) entries) v is)
      either false v is rest = rest

  -- the rounds stay
  pub placed_keys : (entries : List (Round × ℕ)) → ArePlaced at entries → keys_of (placed at entries) ≡ keys_of entries
  placed_keys [] h = refl
  placed_keys (e ∷ entries) h =
      let (v, is) = there (at e.1) h.0 in
      ap keys_of (placed_first e entries v is) ∙ ap (λ rest. e.0 ∷ rest) (placed_keys entries h.2)

  -- a place that is vacant is free
  pub vacant_is_free : (place : ℕ) → at place ≡ None → (entries : List (Round × ℕ)) → ArePlaced at entries →
      IsFree place entries
  vacant_is_free place none [] h = tt
  vacant_is_free place none (e ∷ entries) h =
      (λ same. false≢true (subst IsSome (ap at same ∙ none) h.0), vacant_is_free place none entries h.2)

  -- a round is inserted at a free place that has a value
  pub placed_inserted : (cmp : Round → Round → Ordering) (round : Round) (place : ℕ) → IsSome (at place) →
      (entries : List (Round × ℕ)) → ArePlaced at entries → IsFree place entries →
      ArePlaced at (insert_entry cmp entries round place)
  placed_inserted cmp round place some [] h free = (some, tt, tt)
  placed_inserted cmp round place some (e ∷ entries) h free =
      elim (cmp round e.0) as (λ o. ArePlaced at
      (match_ordering o ((round, place) ∷ e ∷ entries) ((e.0, place) ∷ entries) (e ∷ insert_entry cmp entries round place))) [
        | Less ↦ (some, free, h)
        | Equal ↦ (some, free.1, h.2)
        | Greater ↦ (
          h.0,
          stays_free e.1 (λ same. free.0 (sym same)) entries h.1,
          placed_inserted cmp round place some entries h.2 free.1,
        )
      ]
    where
      stays_free : (other : ℕ) → place ≢ other → (entries : List (Round × ℕ)) → IsFree other entries →
          IsFree other (insert_entry cmp entries round place)
      stays_free other apart [] h = (apart, tt)
      stays_free other apart (e ∷ entries) h =
          elim (cmp round e.0) as (λ o. IsFree other
          (match_ordering o ((round, place) ∷ e ∷ entries) ((e.0, place) ∷ entries)
          (e ∷ insert_entry cmp entries round place))) [
            | Less ↦ (apart, h)
            | Equal ↦ (apart, h.1)
            | Greater ↦ (h.0, stays_free other apart entries h.1)
          ]

-- the place of a round is not free
found_elsewhere : (test : Round → Bool) (place other : ℕ) (entries : List (Round × ℕ)) → IsFree other entries →
    lookup test entries ≡ Some place → place ≢ other
found_elsewhere test place other [] free found = absurd (false≢true (ap is_some found))
found_elsewhere test place other (e ∷ entries) free found =
    by (test e.0) found (found_elsewhere test place other entries free.1)
  where
    by : (b : Bool) → cond b (Some e.1) (lookup test entries) ≡ Some place →
        (lookup test entries ≡ Some place → place ≢ other) → place ≢ other
    by true here rest = λ same. free.0 (same_Some e.1 place here ∙ same)
    by false later rest = rest later

-- one place is written
module _ {V : Type 0} (at new : ℕ → Option V) (place : ℕ)
    (others : (other : ℕ) → other ≢ place → new other ≡ at other) where
  -- if no round has it, the values stay
  pub unmoved : (entries : List (Round × ℕ)) → IsFree place entries → placed new entries ≡ placed at entries
  unmoved [] free = refl
  unmoved (e ∷ entries) free =
      λ i. cons_option (option_map (λ v. (e.0, v)) (others e.1 free.0 i)) (unmoved entries free.1 i)

  pub still_placed : (entries : List (Round × ℕ)) → IsFree place entries → ArePlaced at entries → ArePlaced new entries
  still_placed [] free h = tt
  still_placed (e ∷ entries) free h =
      (subst IsSome (sym (others e.1 free.0)) h.0, h.1, still_placed entries free.1 h.2)

  -- if it is that of a round, this round's value is written
  pub written : (test : Round → Bool) (w : V) → new place ≡ Some w → (entries : List (Round × ℕ)) → ArePlaced at entries →
      lookup test entries ≡ Some place →
      (placed new entries ≡ set_value test (placed at entries) w) × ArePlaced new entries
  written test w is [] h found = absurd (false≢true (ap is_some found))
  written test w is (e ∷ entries) h found =
      let (v, was) = there (at e.1) h.0 in
      let (same, are) = either v was (written test w is entries h.2) (test e.0) found in
      (same ∙ ap (λ old. set_value test old w) (sym (placed_first at e entries v was)), are)
    where
      either : (v : V) → at e.1 ≡ Some v → (lookup test entries ≡ Some place →
          (placed new entries ≡ set_value test (placed at entries) w) × ArePlaced new entries) → (b : Bool) →
          cond b (Some e.1) (lookup test entries) ≡ Some place →
          (placed new (e ∷ entries)
          ≡ cond b ((e.0, w) ∷ placed at entries) ((e.0, v) ∷ set_value test (placed at entries) w))
          × ArePlaced new (e ∷ entries)
      either v was rest true found =
          let here = same_Some e.1 place found in
          let free = subst (λ p. IsFree p entries) here h.1 in
          let now = ap new here ∙ is in (
            placed_first new e entries w now ∙ ap (λ rest. (e.0, w) ∷ rest) (unmoved entries free),
            (subst IsSome (sym now) refl, h.1, still_placed entries free h.2),
          )
      either v was rest false found =
          let apart = found_elsewhere test place e.1 entries h.1 found in
          let now = others e.1 (λ same. apart (sym same)) in
          let (same, are) = rest found in (
            placed_first new e entries v (now ∙ was) ∙ ap (λ rest. (e.0, v) ∷ rest) same,
            (subst IsSome (sym now) h.0, h.1, are),
          )

-- ---- what a map is to a look-up

-- a round has a value if they are an entry
pub get_iff : {V : Type 0} (map : List (Round × V)) → IsOrdered round_cmp map → (round : Round) (value : V) →
    (get round_cmp map round ≡ Some value) ↔ Contains map (round, value)
get_iff map ordered round value = (
  Contains-from_lookup (tells_apart exact_rounds) round value map,
  lookup-from_Contains (eq_by_cmp_equiv round_cmp_total) round value map
      (IsDistinct-from_sorted round_cmp (keys_of map) ordered),
)

-- a value is written
pub set_updates : {V : Type 0} (map : List (Round × V)) (round : Round) (w : V) → IsSome (get round_cmp map round) →
    Updates map (set_value (tree.is_at (round_cmp round)) map w) round (Some w)
set_updates map round w some other =
    lookup-set_value (eq_by_cmp_equiv round_cmp_total) (tree.is_at (round_cmp round))
    (λ x y at. ap (λ r. tree.is_at (round_cmp r) y) (key_tells round x at)) other w map some

-- ---- what the operations do

-- the remembered place is that of the last round that was sought or inserted
is_last : (places : tree.BTreeMap Round ℕ) (round : Round) (place : ℕ) → tree.get round_cmp places round ≡ Some place →
    IsPlaceOf places (Some (round, place))
is_last places round place found other at same =
    subst (λ (e : Round × ℕ). tree.get round_cmp places e.0 ≡ Some e.1) (same_Some (round, place) (other, at) same) found

module _ {V : Type 0} (map : Inside V) (sound : IsSound map.places map.values map.last) (round : Round) where
  abbrev at : ℕ → Option V
  at = slab.get map.values

  -- the test of this round
  abbrev here : Round → Bool
  here = tree.is_at (round_cmp round)

  -- what is read
  pub read : (place : Option ℕ) → place ≡ tree.get round_cmp map.places round → (entries : List (Round × V)) →
      placed at map.places.entries ≡ entries → option_and_then at place ≡ get round_cmp entries round
  read place is entries view_is =
      ap (option_and_then at) is
      ∙ sym (placed_lookup at here map.places.entries sound.are_placed)
      ∙ ap (λ entries. get round_cmp entries round) view_is

  -- what is lent, whatever is written
  module _ (place : ℕ) (found : tree.get round_cmp map.places round ≡ Some place) where
    lent : (w : V) → (placed (slab.get (slab.with_value map.values place w)) map.places.entries
        ≡ set_value here (placed at map.places.entries) w)
        × ArePlaced (slab.get (slab.with_value map.values place w)) map.places.entries
    lent w =
        let updates = Updates-with_value map.values place w
        (found_is_placed at here place map.places.entries sound.are_placed found) in
        written at (slab.get (slab.with_value map.values place w)) place updates.others here w updates.changed
        map.places.entries sound.are_placed found

    pub lent_value : (w : V) → placed (slab.get (slab.with_value map.values place w)) map.places.entries
        ≡ set_value here (placed at map.places.entries) w
    lent_value w = (lent w).0

    pub lent_sound : (w : V) → IsSound map.places (slab.with_value map.values place w) (Some (round, place))
    lent_sound w = record { are_placed = (lent w).1; is_place = is_last map.places round place found }

    pub found_sound : IsSound map.places map.values (Some (round, place))
    found_sound = record { are_placed = sound.are_placed; is_place = is_last map.places round place found }

  -- what is inserted
  module _ (place : ℕ) (v : V) (places : tree.BTreeMap Round ℕ) (values : slab.Slab V) (vacant : at place ≡ None)
      (updates : slab.Updates map.values values place (Some v))
      (changes : tree.Updates round_cmp map.places places round (Some place))
      (is : places.entries ≡ insert_entry round_cmp map.places.entries round place) where
    free : IsFree place map.places.entries
    free = vacant_is_free at place vacant map.places.entries sound.are_placed

    still : ArePlaced (slab.get values) map.places.entries
    still = still_placed at (slab.get values) place updates.others map.places.entries free sound.are_placed

    pub inserted_sound : IsSound places values (Some (round, place))
    inserted_sound = record {
      are_placed = subst (ArePlaced (slab.get values)) (sym is)
          (placed_inserted (slab.get values) round_cmp round place (subst IsSome (sym updates.changed) refl)
          map.places.entries still free);
      is_place = is_last places round place changes.1;
    }

    pub inserted : Updates (placed at map.places.entries) (placed (slab.get values) places.entries) round (Some v)
    inserted other =
        placed_lookup (slab.get values) (tree.is_at (round_cmp other)) places.entries inserted_sound.are_placed
        ∙ ap (option_and_then (slab.get values)) (changes.0 other) ∙ either (here other)
      where
        either : (b : Bool) → option_and_then (slab.get values) (cond b (Some place) (tree.get round_cmp map.places other))
            ≡ cond b (Some v) (get round_cmp (placed at map.places.entries) other)
        either true = updates.changed
        either false =
            sym (placed_lookup (slab.get values) (tree.is_at (round_cmp other)) map.places.entries still)
            ∙ ap (lookup (tree.is_at (round_cmp other)))
            (unmoved at (slab.get values) place updates.others map.places.entries free)

  -- the first round is removed
  module _ (place : ℕ) (places : tree.BTreeMap Round ℕ) (first : map.places.entries ≡ (round, place) ∷ places.entries)
      (values : slab.Slab V) (updates : slab.Updates map.values values place None) where
    placed_from_first : ArePlaced at ((round, place) ∷ places.entries)
    placed_from_first = subst (ArePlaced at) first sound.are_placed

    pub removed_sound : IsSound places values None
    removed_sound = record {
      are_placed = still_placed at (slab.get values) place updates.others places.entries placed_from_first.1
          placed_from_first.2;
      is_place = λ r p none. absurd (false≢true (ap is_some none));
    }

    pub removed : (test : Round → Bool) → test round ≡ false → filter (λ e. test e.0) (placed at map.places.entries)
        ≡ filter (λ e. test e.0) (placed (slab.get values) places.entries)
    removed test away =
        let (v, is) = there (at place) placed_from_first.0 in
        let kept = filter (λ e. test e.0) (placed at places.entries) in
        ap (λ entries. filter (λ e. test e.0) (placed at entries)) first
        ∙ ap (filter (λ e. test e.0)) (placed_first at (round, place) places.entries v is)
        ∙ (λ i. cond (away i) ((round, v) ∷ kept) kept)
        ∙ ap (filter (λ e. test e.0))
        (sym (unmoved at (slab.get values) place updates.others places.entries placed_from_first.1))

-- room is made, and no round is inserted
pub reserved_sound : {V : Type 0} (map : Inside V) → IsSound map.places map.values map.last → (values : slab.Slab V) →
    values ≡ record map.values { capacity = values.capacity } → (places : tree.BTreeMap Round ℕ) →
    places.entries ≡ map.places.entries → IsSound places values map.last
reserved_sound {V} map sound values kept places same = record {
  are_placed = subst (λ (now : slab.Slab V). ArePlaced (slab.get now) places.entries) (sym kept)
      (subst (ArePlaced (slab.get map.values)) (sym same) sound.are_placed);
  is_place = subst (λ entries. (r : Round) (p : ℕ) → map.last ≡ Some (r, p) → get round_cmp entries r ≡ Some p) (sym same)
      sound.is_place;
}
