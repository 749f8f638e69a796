-- Votes that are noted one message after another.
use Rattle.std.proofs.Common.{◌≡◌, ℕ, ◌+◌, Bool, Option, Some, None, List, [], ◌∷◌, ◌++◌, length, Ordering, refl, sym, ap, ◌∙◌, arith, length-append}
use Rattle.std.specs.BTreeMap.{get}
use Rattle.std.specs.List.{flat_map}
use Rattle.std.specs.Option.{option_or}
use Rattle.simplex_stream.specs.PlaceLaws.{place_behind}
use Rattle.simplex_places.specs.Finding.{Finds}
use Rattle.simplex_places.specs.FirstPlaces.{first_found, found_in, or_found}
use Rattle.simplex_places.specs.declared.first_places.Carried.{Carried}
use Rattle.simplex_places.specs.declared.first_places.Finder.{Finder}

-- found twice, one after the other
pub found_twice : {X : Type 0} (known : Option (Option X)) (a b : Option X) →
    or_found (or_found known a) b ≡ or_found known (option_or a b)
found_twice None a b = refl
found_twice (Some None) a b = refl
found_twice (Some (Some found)) a b = refl

-- nothing more is found
pub found_nothing : {X : Type 0} (known : Option (Option X)) → or_found known None ≡ known
found_nothing None = refl
found_nothing (Some None) = refl
found_nothing (Some (Some found)) = refl

or_assoc : {X : Type 0} (a b c : Option X) → option_or (option_or a b) c ≡ option_or a (option_or b c)
or_assoc None b c = refl
or_assoc (Some x) b c = refl

-- what is found first among messages and further ones
first_append : {M X : Type 0} (find : ℕ → M → Option X) (encoding : M → List ℕ) (place : ℕ) (ms ks : List M) →
    first_found find encoding place (ms ++ ks) ≡ option_or (first_found find encoding place ms)
    (first_found find encoding (place + length (flat_map encoding ms)) ks)
first_append find encoding place [] ks = ap (λ (n : ℕ). first_found find encoding n ks) (omega arith)
first_append {M} {X} find encoding place (m ∷ ms) ks =
    let from : ℕ → List M → Option X = first_found find encoding in
    let here = find place m in
    let next = place + length (encoding m) in
    let at : next + length (flat_map encoding ms) ≡ place + length (encoding m ++ flat_map encoding ms) =
    omega (arith, length-append (encoding m) (flat_map encoding ms)) in
    ap (option_or here) (first_append find encoding next ms ks)
    ∙ (sym (or_assoc here (from next ms) (from (next + length (flat_map encoding ms)) ks))
    ∙ ap (λ (n : ℕ). option_or (option_or here (from next ms)) (from n ks)) at)

module _ {M V K : Type 0} (cmp : K → K → Ordering) (eq : K → K → Bool) (key_of : V → K) (votes : ℕ → M → List (V × Carried))
    (encoding : M → List ℕ) where
  -- no message was read
  pub finds_none : (state : Finder K) → Finds cmp eq key_of votes encoding [] state state
  finds_none state = record { noted = λ key. sym (found_nothing (get cmp state.places key)); place_is = omega arith }

  -- one message more was read
  pub finds_more : (ms : List M) (m : M) (a b c : Finder K) → Finds cmp eq key_of votes encoding ms a b →
      Finds cmp eq key_of votes encoding (m ∷ []) b c → Finds cmp eq key_of votes encoding (ms ++ m ∷ []) a c
  finds_more ms m a b c before one = record {
    noted = λ key.
        let find : ℕ → M → Option Carried = λ n k. found_in (λ v. eq key (key_of v)) (votes n k) in
        let known = get cmp a.places key in
        let first = first_found find encoding a.place ms in
        let from : ℕ → Option Carried = λ n. first_found find encoding n (m ∷ []) in
        one.noted key
        ∙ (ap (λ (k : Option (Option Carried)). or_found k (from b.place)) (before.noted key)
        ∙ (found_twice known first (from b.place)
        ∙ ap (or_found known) (ap (λ (n : ℕ). option_or first (from n)) before.place_is
        ∙ sym (first_append find encoding a.place ms (m ∷ [])))));
    place_is = place_behind encoding a.place b.place c.place ms m before.place_is one.place_is;
  }
