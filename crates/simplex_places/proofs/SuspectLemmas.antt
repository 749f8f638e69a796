-- Which attestations are sought.
use Rattle.std.proofs.Common.{◌≡◌, ℕ, ◌+◌, ◌<◌, Bool, true, false, cond, List, [], ◌∷◌, ◌++◌, length, map, get_or, take, true≢false, refl, sym, ap, subst, ◌∙◌, append-nil}
use Rattle.std.specs.Prelude.{◌&&◌, ◌↔◌, if◌then◌else◌, All, Contains, IsTrue, filter, nat_lt}
use Rattle.std.proofs.lemmas.List.{map-append}
use Rattle.std.proofs.lemmas.List.Elements.{All-cons, All-contains, All-head, All-nil, All-tail, filter_more}
use Rattle.simplex_base.specs.Positions.{Round}
use Rattle.simplex_rules.specs.Suspects.{Suspected}
use Rattle.simplex_places.specs.Suspects.{is_sought, passing_of, round_at, sought_of}
use Rattle.simplex_places.specs.declared.places.Placed.{Placed}
use Rattle.simplex_places.specs.declared.places.AttestationPlace.{AttestationPlace}

-- two truth values that imply each other are equal
same_bool : (a b : Bool) → (a ≡ true → b ≡ true) → (b ≡ true → a ≡ true) → a ≡ b
same_bool true b f g = sym (f refl)
same_bool false true f g = g refl
same_bool false false f g = refl

-- a set that holds exactly the items of a list, which are those that pass a test, decides the test
pub holds_alike : {A : Type 0} (holds test : A → Bool) (xs ys : List A) (x : A) → xs ≡ ys → All (λ y. IsTrue (holds y)) xs →
    (IsTrue (holds x) → Contains xs x) → (Contains ys x ↔ IsTrue (test x)) → holds x ≡ test x
holds_alike holds test xs ys x same all only law =
    same_bool (holds x) (test x) (λ h. law.0 (subst (λ l. Contains l x) same (only h)))
    (λ h. All-contains (λ y. IsTrue (holds y)) ys x (subst (All (λ y. IsTrue (holds y))) same all) (law.1 h))

-- what holds of the attestations of those that pass a test holds of each that passes it
pub each_passing : (P : AttestationPlace → Type 0) (test : Placed → Bool) (places : List Placed) →
    All P (map (λ p. p.attestation) (filter test places)) → All (λ p. test p ≡ true → P p.attestation) places
each_passing P test [] all = All-nil (λ (q : Placed). test q ≡ true → P q.attestation)
each_passing P test (p ∷ ps) all =
    let Q : Placed → Type 0 = λ q. test q ≡ true → P q.attestation in
    let rest = map (λ (q : Placed). q.attestation) (filter test ps) in
    (elim (test p) as (λ b. test p ≡ b → All P (map (λ q. q.attestation) (cond b (p ∷ filter test ps) (filter test ps))) →
    All Q (p ∷ ps)) [
      | true ↦ λ is all. All-cons Q p ps (λ passes. All-head P p.attestation rest all)
          (each_passing P test ps (All-tail P p.attestation rest all))
      | false ↦ λ is all. All-cons Q p ps (λ passes. absurd (true≢false (sym passes ∙ is))) (each_passing P test ps all)
    ]) refl all

-- the same items pass tests that are the same
filter_alike : {A : Type 0} (p q : A → Bool) → ((x : A) → p x ≡ q x) → (xs : List A) → filter p xs ≡ filter q xs
filter_alike p q same [] = refl
filter_alike p q same (x ∷ xs) = rw (same x, filter_alike p q same xs) refl

-- the same suspects
pub record AreAlike (s t : Suspected) : Type 0 where
  pub signers : (round : Round) (signer : ℕ) → s.signers round signer ≡ t.signers round signer
  pub rounds : (round : Round) → s.rounds round ≡ t.rounds round

-- one attestation is sought for the same suspects
pub one_alike : (s t : Suspected) (size : ℕ → ℕ) → AreAlike s t → (p : Placed) → is_sought s size p ≡ is_sought t size p
one_alike s t size same p =
    let round = round_at p.attestation in
    ap (λ (b : Bool). if p.is_listed then b && nat_lt p.attestation.signer (size p.attestation.epoch)
    else s.signers round p.attestation.signer) (same.rounds round)
    ∙ ap (λ (b : Bool). if p.is_listed then t.rounds round && nat_lt p.attestation.signer (size p.attestation.epoch) else b)
    (same.signers round p.attestation.signer)

-- so the same attestations of a list are sought
pub sought_alike : (s t : Suspected) (size : ℕ → ℕ) → AreAlike s t → (places : List Placed) →
    sought_of s size places ≡ sought_of t size places
sought_alike s t size same places =
    ap (map (λ (p : Placed). p.attestation))
    (filter_alike (is_sought s size) (is_sought t size) (one_alike s t size same) places)

-- an attestation that passes a test was found
pub one_found : (p : Placed → Bool) (xs : List Placed) (i : ℕ) (d : Placed) (found found' : List AttestationPlace) →
    i < length xs → p (get_or xs i d) ≡ true → found' ≡ found ++ (get_or xs i d).attestation ∷ [] →
    found ≡ passing_of p (take i xs) → found' ≡ passing_of p (take (i + 1) xs)
one_found p xs i d found found' lt passes grown so =
    let place : Placed → AttestationPlace = λ q. q.attestation in
    grown ∙ (ap (λ (l : List AttestationPlace). l ++ (get_or xs i d).attestation ∷ []) so
    ∙ (sym (map-append place (filter p (take i xs)) (get_or xs i d ∷ []))
    ∙ ap (map place)
    (ap (λ (b : Bool). filter p (take i xs) ++ cond b (get_or xs i d ∷ []) []) (sym passes) ∙ sym (filter_more p xs i d lt))))

-- another was left out
pub one_left : (p : Placed → Bool) (xs : List Placed) (i : ℕ) (d : Placed) (found : List AttestationPlace) →
    i < length xs → p (get_or xs i d) ≡ false →
    found ≡ passing_of p (take i xs) → found ≡ passing_of p (take (i + 1) xs)
one_left p xs i d found lt fails so =
    so ∙ ap (map (λ (q : Placed). q.attestation)) (sym (append-nil (filter p (take i xs)))
    ∙ (ap (λ (b : Bool). filter p (take i xs) ++ cond b (get_or xs i d ∷ []) []) (sym fails) ∙ sym (filter_more p xs i d lt)))
