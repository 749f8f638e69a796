-- The first element of a list that is the same as a later one.
use Rattle.std.proofs.Common.{◌≡◌, ℕ, ◌+◌, ◌<◌, Bool, true, false, cond, Option, Some, List, [], ◌∷◌, ◌++◌, length, map, get_or, take, refl, sym, ap, subst, ◌∙◌, arith}
use Rattle.std.specs.Prelude.{All}
use Rattle.std.specs.List.{position_from}
use Rattle.std.specs.Option.{option_or}
use Rattle.std.proofs.lemmas.List.{length-map, map-append, take_more}
use Rattle.std.proofs.lemmas.List.Elements.{All-append, All-cons, All-nil, All-weaker}
use Rattle.std.proofs.lemmas.Bool.{eq-eqb}
use Rattle.std.proofs.lemmas.Cmp.{nat_list_eq_equiv}
use Rattle.simplex_places.specs.FirstPlaces.{found_if}
use Rattle.simplex_places.specs.Repeats.{same_attestation, signature_at, subject_at}
use Rattle.simplex_places.specs.declared.places.AttestationPlace.{AttestationPlace}

-- an element before some others
or_step : (b : Bool) (i : ℕ) (rest more whole : Option ℕ) → whole ≡ option_or rest more →
    cond b (Some i) whole ≡ option_or (cond b (Some i) rest) more
or_step true i rest more whole same = refl
or_step false i rest more whole same = same

-- one element behind others passes, if none of them does
pub position_push : {A : Type 0} (test : A → Bool) (i : ℕ) (xs : List A) (x : A) →
    position_from test i (xs ++ x ∷ []) ≡ option_or (position_from test i xs) (found_if (i + length xs) (test x))
position_push test i [] x =
    let same : i ≡ i + 0 = omega arith in
    ap (λ (n : ℕ). found_if n (test x)) same
position_push test i (y ∷ ys) x =
    let same : i + 1 + length ys ≡ i + length (y ∷ ys) = omega arith in
    or_step (test y) i (position_from test (i + 1) ys) (found_if (i + length (y ∷ ys)) (test x))
    (position_from test (i + 1) (ys ++ x ∷ []))
    (position_push test (i + 1) ys x
    ∙ ap (λ (n : ℕ). option_or (position_from test (i + 1) ys) (found_if n (test x))) same)

-- one element behind all that there are
pub position_more : {A : Type 0} (test : A → Bool) (xs : List A) (x : A) →
    position_from test 0 (xs ++ x ∷ []) ≡ option_or (position_from test 0 xs) (found_if (length xs) (test x))
position_more test xs x =
    let same : 0 + length xs ≡ length xs = omega arith in
    position_push test 0 xs x ∙ ap (λ (n : ℕ). option_or (position_from test 0 xs) (found_if n (test x))) same

-- what was found stays found
pub found_stays : {A : Type 0} (test : A → Bool) (xs : List A) (x : A) (n : ℕ) → position_from test 0 xs ≡ Some n →
    position_from test 0 (xs ++ x ∷ []) ≡ Some n
found_stays test xs x n found =
    position_more test xs x ∙ ap (λ (known : Option ℕ). option_or known (found_if (length xs) (test x))) found

-- each element that is listed so far is listed with the first that is the same, and one more is
pub one_listed : {A U : Type 0} (element : U → A) (first : U → ℕ) (same : A → A → Bool) → ((x : A) → same x x ≡ true) →
    (xs : List A) (i : ℕ) (d : A) → i < length xs → (listed listed' : List U) (u : U) → listed' ≡ listed ++ u ∷ [] →
    element u ≡ get_or xs i d →
    Some (first u) ≡ option_or (position_from (λ p. same p (get_or xs i d)) 0 (take i xs)) (Some (length listed)) →
    map element listed ≡ take i xs →
    All (λ v. position_from (λ p. same p (element v)) 0 (take i xs) ≡ Some (first v)) listed →
    (map element listed' ≡ take (i + 1) xs)
    × All (λ v. position_from (λ p. same p (element v)) 0 (take (i + 1) xs) ≡ Some (first v)) listed'
one_listed {A} {U} element first same reflexive xs i d lt listed listed' u grown is found elements firsts =
    let x = get_or xs i d in
    let more : take i xs ++ x ∷ [] ≡ take (i + 1) xs = sym (take_more xs i d lt) in
    let Was : U → Type 0 = λ v. position_from (λ p. same p (element v)) 0 (take i xs) ≡ Some (first v) in
    let Is : U → Type 0 = λ v. position_from (λ p. same p (element v)) 0 (take i xs ++ x ∷ []) ≡ Some (first v) in
    let size : length listed ≡ length (take i xs) = sym (length-map listed element) ∙ ap length elements in
    let own : Is u =
    subst (λ (y : A). position_from (λ p. same p y) 0 (take i xs ++ x ∷ []) ≡ Some (first u)) (sym is)
    (position_more (λ p. same p x) (take i xs) x
    ∙ (ap (λ (b : Bool). option_or (position_from (λ p. same p x) 0 (take i xs)) (found_if (length (take i xs)) b))
    (reflexive x)
    ∙ (ap (λ (n : ℕ). option_or (position_from (λ p. same p x) 0 (take i xs)) (Some n)) (sym size) ∙ sym found))) in
    let others : All Is listed =
    All-weaker Was Is (λ v was. found_stays (λ p. same p (element v)) (take i xs) x (first v) was) listed firsts in
    let all : All Is (listed ++ u ∷ []) = All-append Is listed (u ∷ []) others (All-cons Is u [] own (All-nil Is)) in (
      ap (map element) grown
          ∙ (map-append element listed (u ∷ [])
          ∙ (ap (λ (l : List A). l ++ element u ∷ []) elements ∙ (ap (λ (y : A). take i xs ++ y ∷ []) is ∙ more))),
      subst (λ (l : List A). All (λ v. position_from (λ p. same p (element v)) 0 l ≡ Some (first v)) listed') more
          (subst (All Is) (sym grown) all),
    )

-- a map that gives the first element that passes the test of a key, and does so behind one more element
pub one_noted : {A : Type 0} (test : A → Bool) (xs : List A) (i : ℕ) (d : A) → i < length xs → (was is : Option ℕ) (n : ℕ)
    (passes : Bool) → n ≡ length (take i xs) → passes ≡ test (get_or xs i d) → is ≡ option_or was (found_if n passes) →
    was ≡ position_from test 0 (take i xs) → is ≡ position_from test 0 (take (i + 1) xs)
one_noted {A} test xs i d lt was is n passes size same noted so =
    let x = get_or xs i d in
    noted
    ∙ (ap (λ (known : Option ℕ). option_or known (found_if n passes)) so
    ∙ (ap (λ (b : Bool). option_or (position_from test 0 (take i xs)) (found_if n b)) same
    ∙ (ap (λ (m : ℕ). option_or (position_from test 0 (take i xs)) (found_if m (test x))) size
    ∙ (sym (position_more test (take i xs) x) ∙ ap (position_from test 0) (sym (take_more xs i d lt))))))

-- an attestation is the same as itself
pub same_as_itself : (stream : List ℕ) (size : ℕ) (p : AttestationPlace) → same_attestation stream size p p ≡ true
same_as_itself stream size p =
    let same = nat_list_eq_equiv.refl in
    rw (eq-eqb p.kind p.kind refl, eq-eqb p.signer p.signer refl, same (subject_at stream p), same (signature_at stream size p))
    refl

-- a value of four parts
pub of_parts : {A B C D X : Type 0} (f : A → B → C → D → X) {a a' : A} {b b' : B} {c c' : C} {d d' : D} → a ≡ a' → b ≡ b' →
    c ≡ c' → d ≡ d' → f a b c d ≡ f a' b' c' d'
of_parts {A} {B} {C} {D} f {a} {a'} {b} {b'} {c} {c'} {d} {d'} one two three four =
    ap (λ (x : A). f x b c d) one
    ∙ (ap (λ (x : B). f a' x c d) two ∙ (ap (λ (x : C). f a' b' x d) three ∙ ap (λ (x : D). f a' b' c' x) four))
