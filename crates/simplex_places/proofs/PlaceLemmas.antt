-- Votes that are noted, and the first message in which one is found.
use Rattle.std.proofs.Common.{◌≡◌, ℕ, suc, ◌+◌, ◌<◌, ◌≤◌, ◌||◌, Bool, true, false, Option, Some, None, List, [], ◌∷◌, length, map, get_or, drop, zip, BTreeMap, Ordering, true≢false, refl, sym, ap, subst, ◌∙◌, arith, add-one, drop-cons, drop_of_length-le, length-append}
use Rattle.std.specs.Prelude.{All, Contains, filter}
use Rattle.std.specs.BTreeMap.{get}
use Rattle.std.specs.List.{AllZip, flat_map, list_any}
use Rattle.std.specs.Option.{option_or}
use Rattle.std.proofs.lemmas.List.{nil_from_length}
use Rattle.std.proofs.lemmas.List.Elements.{All-nil, All-cons, All-contains, All-contains_itself, All-filter, All-head, All-tail}
use Rattle.std.proofs.lemmas.List.Folds.{list_any-append, list_any_at}
use Rattle.simplex_base.specs.Format.{Format}
use Rattle.simplex_base.specs.declared.codec.error.Error.{Error}
use Rattle.simplex_stream.specs.PlaceLaws.{place_behind_one}
use Rattle.simplex_stream.specs.Progress.{IsProgress}
use Rattle.simplex_places.specs.Finding.{Finds}
use Rattle.simplex_places.specs.FindingLaws.{found_nothing, found_twice}
use Rattle.simplex_places.specs.FirstPlaces.{AreFound, IsFirstPlace, Notes, NotesAlong, first_found, found_if, found_in, or_found}
use Rattle.simplex_places.specs.declared.first_places.Carried.{Carried}
use Rattle.simplex_places.specs.declared.first_places.Finder.{Finder}

or_none : {X : Type 0} (a : Option X) → option_or a None ≡ a
or_none None = refl
or_none (Some x) = refl

-- ---- votes that are noted, each with what stands at its place in another list

module _ {V Y X : Type 0} (test : V → Bool) (f : Y → X) where
  -- what is found beside one vote, and then beside the others
  found_next : (v : V) (vs : List V) (ys : List Y) → found_in test (zip (v ∷ vs) (map f ys))
      ≡ option_or (found_in test (zip (v ∷ []) (map f ys))) (found_in test (zip vs (map f (drop 1 ys))))
  found_next v [] [] = refl
  found_next v (w ∷ vs) [] = refl
  found_next v vs (y ∷ ys) =
      ap (λ (found : Option X). option_or found (found_in test (zip vs (map f ys)))) (sym (or_none (found_if (f y) (test v))))

module _ {V Y X K : Type 0} (cmp : K → K → Ordering) (eq : K → K → Bool) (key_of : V → K) (f : Y → X) where
  -- one vote, which stands first
  pub notes_one : (v : V) (y : Y) (ys others : List Y) (before after : BTreeMap K (Option X)) → ys ≡ y ∷ others →
      ((key : K) → get cmp after key ≡ or_found (get cmp before key) (found_if (f y) (eq key (key_of v)))) →
      Notes cmp eq key_of (zip (v ∷ []) (map f ys)) before after
  notes_one v y ys others before after is one key =
      let test : V → Bool = λ w. eq key (key_of w) in
      one key
      ∙ (ap (or_found (get cmp before key)) (sym (or_none (found_if (f y) (test v))))
      ∙ ap (λ (l : List Y). or_found (get cmp before key) (found_in test (zip (v ∷ []) (map f l)))) (sym is))

  -- one vote, which stands nowhere
  pub notes_nowhere : (v : V) (ys : List Y) (places : BTreeMap K (Option X)) → length ys ≡ 0 →
      Notes cmp eq key_of (zip (v ∷ []) (map f ys)) places places
  notes_nowhere v ys places none key =
      sym (found_nothing (get cmp places key))
      ∙ ap (λ (l : List Y). or_found (get cmp places key) (found_in (λ w. eq key (key_of w)) (zip (v ∷ []) (map f l))))
      (sym (nil_from_length ys none))

  -- one vote, and then others
  pub notes_both : (v : V) (vs : List V) (ys : List Y) (before between after : BTreeMap K (Option X)) →
      Notes cmp eq key_of (zip (v ∷ []) (map f ys)) before between →
      Notes cmp eq key_of (zip vs (map f (drop 1 ys))) between after →
      Notes cmp eq key_of (zip (v ∷ vs) (map f ys)) before after
  notes_both v vs ys before between after first second key =
      let test : V → Bool = λ w. eq key (key_of w) in
      let one = found_in test (zip (v ∷ []) (map f ys)) in
      let more = found_in test (zip vs (map f (drop 1 ys))) in
      second key
      ∙ (ap (λ (known : Option (Option X)). or_found known more) (first key)
      ∙ (found_twice (get cmp before key) one more
      ∙ ap (or_found (get cmp before key)) (sym (found_next test f v vs ys))))

  -- Once the votes that are left are noted, too, all of the votes are.
  abbrev pub IsOnTheWay : List V → List Y → BTreeMap K (Option X) → List V → List Y → BTreeMap K (Option X) → Type 0
  IsOnTheWay vs ys before left others now =
      (key : K) → or_found (get cmp now key) (found_in (λ w. eq key (key_of w)) (zip left (map f others)))
      ≡ or_found (get cmp before key) (found_in (λ w. eq key (key_of w)) (zip vs (map f ys)))

  -- one of those that are left was noted
  pub on_the_way : {A : Type 0} (of : A → V) (vs : List V) (ys : List Y) (before : BTreeMap K (Option X)) (all : List A) (i : ℕ)
      (a : A) (others more : List Y) (now after : BTreeMap K (Option X)) → i < length all → a ≡ get_or all i a →
      IsOnTheWay vs ys before (map of (drop i all)) others now →
      Notes cmp eq key_of (zip (of a ∷ []) (map f others)) now after → more ≡ drop 1 others →
      IsOnTheWay vs ys before (map of (drop (i + 1) all)) more after
  on_the_way {A} of vs ys before all i a others more now after inside is was one behind key =
      let test : V → Bool = λ w. eq key (key_of w) in
      let left : drop i all ≡ a ∷ drop (i + 1) all =
      rw add-one (drop-cons all i a inside ∙ ap (λ (b : A). b ∷ drop (suc i) all) (sym is)) in
      let here = found_in test (zip (of a ∷ []) (map f others)) in
      let then : List Y → Option X = λ l. found_in test (zip (map of (drop (i + 1) all)) (map f l)) in
      ap (λ (l : List Y). or_found (get cmp after key) (then l)) behind
      ∙ (ap (λ (known : Option (Option X)). or_found known (then (drop 1 others))) (one key)
      ∙ (found_twice (get cmp now key) here (then (drop 1 others))
      ∙ (ap (or_found (get cmp now key)) (sym (found_next test f (of a) (map of (drop (i + 1) all)) others))
      ∙ (ap (λ (l : List A). or_found (get cmp now key) (found_in test (zip (map of l) (map f others)))) (sym left)
      ∙ was key))))

  -- none is left
  pub at_the_end : {A : Type 0} (of : A → V) (vs : List V) (ys : List Y) (before : BTreeMap K (Option X)) (all : List A) (i : ℕ)
      (others : List Y) (now : BTreeMap K (Option X)) → length all ≤ i →
      IsOnTheWay vs ys before (map of (drop i all)) others now → Notes cmp eq key_of (zip vs (map f ys)) before now
  at_the_end {A} of vs ys before all i others now end was key =
      let test : V → Bool = λ w. eq key (key_of w) in
      sym (found_nothing (get cmp now key))
      ∙ (ap (λ (l : List A). or_found (get cmp now key) (found_in test (zip (map of l) (map f others))))
      (sym (drop_of_length-le all end)) ∙ was key)

-- ---- messages that were read

module _ {M V K : Type 0} (cmp : K → K → Ordering) (eq : K → K → Bool) (key_of : V → K)
    (votes : ℕ → M → List (V × Carried)) where
  -- one message was read
  pub finds_one : (encoding : M → List ℕ) (m : M) (size : ℕ) (a b : Finder K) → size ≡ length (encoding m) →
      Notes cmp eq key_of (votes a.place m) a.places b.places → b.place ≡ a.place + size →
      Finds cmp eq key_of votes encoding (m ∷ []) a b
  finds_one encoding m size a b len notes moved = record {
    noted = λ key. notes key ∙ ap (or_found (get cmp a.places key)) (sym (or_none _));
    place_is = place_behind_one encoding a.place b.place size m len moved;
  }

  -- all messages were read
  pub finds_all : (format : Format M) (old new : Finder K) (stream rest : List ℕ) (read : ℕ) (stop : Option Error) →
      old.place ≡ 0 → IsProgress format (λ ms. Finds cmp eq key_of votes format.encoding ms old new) stream rest read stop →
      AreFound cmp eq key_of votes format stream old.places new.places
  finds_all format old new stream rest read stop start p = record {
    messages = p.messages;
    rest = rest;
    are_messages = p.are_messages;
    found = subst (λ (n : ℕ). NotesAlong cmp eq key_of votes format.encoding n old.places new.places p.messages) start
        p.recorded.noted;
  }

-- ---- the first message that passes a test

-- Some message passes, so the first that does stands at a place, and what is found there is what is found first.
module _ {M X : Type 0} (test : M → Bool) (find : ℕ → M → Option X) (encoding : M → List ℕ)
    (none : (place : ℕ) (m : M) → test m ≡ false → find place m ≡ None) where
  abbrev pub HasFirst : ℕ → List M → Type 0
  HasFirst place ms =
      (p : ℕ) × (at : IsFirstPlace test encoding ms p)
      × ((x : X) → find (place + p) at.message ≡ Some x → first_found find encoding place ms ≡ Some x)

  stands_here : (place : ℕ) (m : M) (ms : List M) → test m ≡ true → HasFirst place (m ∷ ms)
  stands_here place m ms e = (
    0,
    record {
      before = [];
      message = m;
      others = ms;
      messages_are = refl;
      passes = e;
      first = All-nil (λ k. test k ≡ false);
      place_is = refl;
    },
    λ x is. ap (λ (found : Option X). option_or found (first_found find encoding (place + length (encoding m)) ms))
        (ap (λ (n : ℕ). find n m) (omega arith) ∙ is),
  )

  stands_later : (place : ℕ) (m : M) (ms : List M) → test m ≡ false → HasFirst (place + length (encoding m)) ms →
      HasFirst place (m ∷ ms)
  stands_later place m ms e (p, at, is) =
      let moved : (place + length (encoding m)) + p ≡ place + (length (encoding m) + p) = omega arith in (
        length (encoding m) + p,
        record {
          before = m ∷ at.before;
          message = at.message;
          others = at.others;
          messages_are = ap (λ (ks : List M). m ∷ ks) at.messages_are;
          passes = at.passes;
          first = All-cons (λ k. test k ≡ false) m at.before e at.first;
          place_is = ap (λ (n : ℕ). length (encoding m) + n) at.place_is
              ∙ sym (length-append (encoding m) (flat_map encoding at.before));
        },
        λ x found. ap (λ (o : Option X). option_or o (first_found find encoding (place + length (encoding m)) ms))
            (none place m e) ∙ is x (ap (λ (n : ℕ). find n at.message) moved ∙ found),
      )

  stands_either : (place : ℕ) (m : M) (ms : List M) (b : Bool) → test m ≡ b → (b || list_any test ms) ≡ true →
      (list_any test ms ≡ true → HasFirst (place + length (encoding m)) ms) → HasFirst place (m ∷ ms)
  stands_either place m ms true e some later = stands_here place m ms e
  stands_either place m ms false e some later = stands_later place m ms e (later some)

  pub first_stands : (place : ℕ) (ms : List M) → list_any test ms ≡ true → HasFirst place ms
  first_stands place [] some = absurd (true≢false (sym some))
  first_stands place (m ∷ ms) some =
      stands_either place m ms (test m) refl some (first_stands (place + length (encoding m)) ms)

  -- no message passes, so nothing is found
  pub none_stands : (place : ℕ) (ms : List M) → All (λ m. test m ≡ false) ms → first_found find encoding place ms ≡ None
  none_stands place [] each = refl
  none_stands place (m ∷ ms) each =
      ap (λ (o : Option X). option_or o (first_found find encoding (place + length (encoding m)) ms))
      (none place m (All-head (λ k. test k ≡ false) m ms each))
      ∙ none_stands (place + length (encoding m)) ms (All-tail (λ k. test k ≡ false) m ms each)

-- ---- what is found beside the votes of one message

module _ {V X : Type 0} (test : V → Bool) where
  found_none_if : (v : V) (vs : List V) (x : X) (xs : List X) (b : Bool) → test v ≡ b → (b || list_any test vs) ≡ false →
      (list_any test vs ≡ false → found_in test (zip vs xs) ≡ None) → found_in test (zip (v ∷ vs) (x ∷ xs)) ≡ None
  found_none_if v vs x xs true e none later = absurd (true≢false none)
  found_none_if v vs x xs false e none later =
      ap (λ (b : Bool). option_or (found_if x b) (found_in test (zip vs xs))) e ∙ later none

  -- nothing, if no vote passes
  pub found_none : (vs : List V) (xs : List X) → list_any test vs ≡ false → found_in test (zip vs xs) ≡ None
  found_none [] xs none = refl
  found_none (v ∷ vs) [] none = refl
  found_none (v ∷ vs) (x ∷ xs) none = found_none_if v vs x xs (test v) refl none (found_none vs xs)

module _ {V Y X : Type 0} (test : V → Bool) (f : Y → X) (R : V → Y → Type 0) where
  -- a vote that passes, with what stands beside it
  abbrev pub HasFound : List V → List Y → Type 0
  HasFound vs ys = (v : V) × (y : Y) × (test v ≡ true) × R v y × (found_in test (zip vs (map f ys)) ≡ Some (f y))

  found_either : (v : V) (vs : List V) (y : Y) (ys : List Y) (b : Bool) → test v ≡ b → (b || list_any test vs) ≡ true →
      R v y → (list_any test vs ≡ true → HasFound vs ys) → HasFound (v ∷ vs) (y ∷ ys)
  found_either v vs y ys true e some here later = (
    v,
    y,
    e,
    here,
    ap (λ (b : Bool). option_or (found_if (f y) b) (found_in test (zip vs (map f ys)))) e,
  )
  found_either v vs y ys false e some here later =
      let (w, z, passes, there, is) = later some in (
        w,
        z,
        passes,
        there,
        ap (λ (b : Bool). option_or (found_if (f y) b) (found_in test (zip vs (map f ys)))) e ∙ is,
      )

  pub found_some : (vs : List V) (ys : List Y) → AllZip R vs ys → list_any test vs ≡ true → HasFound vs ys
  found_some [] [] all some = absurd (true≢false (sym some))
  found_some [] (y ∷ ys) all some = absurd all
  found_some (v ∷ vs) [] all some = absurd all
  found_some (v ∷ vs) (y ∷ ys) all some = found_either v vs y ys (test v) refl some all.0 (found_some vs ys all.1)

-- ---- which messages carry a vote

-- an item that passes the test
any_contained : {A : Type 0} (p : A → Bool) (xs : List A) (x : A) → Contains xs x → p x ≡ true → list_any p xs ≡ true
any_contained p xs x (k, within, at) passes = list_any_at p xs k x within (ap p at ∙ passes)

-- some item of some list
any_flat : {A B : Type 0} (p : B → Bool) (f : A → List B) (xs : List A) →
    list_any p (flat_map f xs) ≡ list_any (λ x. list_any p (f x)) xs
any_flat p f [] = refl
any_flat p f (x ∷ xs) = list_any-append p (f x) (flat_map f xs) ∙ ap (λ (b : Bool). list_any p (f x) || b) (any_flat p f xs)

-- an item of some list that a filter passes, and that passes the test
pub any_kept : {A B : Type 0} (p keep : B → Bool) (f : A → List B) (xs : List A) (y : B) →
    Contains (filter keep (flat_map f xs)) y → p y ≡ true → list_any (λ x. list_any p (f x)) xs ≡ true
any_kept p keep f xs y kept passes =
    let all = flat_map f xs in
    sym (any_flat p f xs) ∙ any_contained p all y
    (All-contains (Contains all) (filter keep all) y (All-filter keep (Contains all) all (All-contains_itself all)) kept) passes
