-- Committees that are listed by epoch.
use Rattle.std.proofs.Common.{◌≡◌, ℕ, zero, suc, ◌+◌, ◌-◌, ◌<◌, ◌≤◌, ◌∙◌, ◌∷◌, All, Err, IfErr, IfOk, List, None, Ok, Option, Result, Some, [], ap, arith, cond, drop, eqb, false, get_or, inl, inr, length, max, refl, subst, sym, true}
use Rattle.std.proofs.lemmas.Bool.{cases_lt, eqb-true}
use Rattle.std.proofs.lemmas.Bool.Decides.{nat_tests}
use Rattle.std.proofs.lemmas.Cmp.{ranked}
use Rattle.std.proofs.lemmas.List.{drop_more, get_or_default}
use Rattle.std.proofs.lemmas.List.Elements.{All-cons, All-head, All-nil, All-tail}
use Rattle.std.proofs.lemmas.Option.{same_Some}
use Rattle.std.specs.List.{find}
use Rattle.std.specs.List.Sorted.{IsBinarySearchResult, IsNonDecreasingBy, IsSearchInRange}
use Rattle.std.specs.Ordering.{is_le, nat_cmp, ord_max, ordering_index}
use Rattle.std.specs.Prelude.{option_map}
use Rattle.simplex_scheme.specs.Committees.{AreRising, Every, IsSchedule, Listed, Schedule, bound_of, committee_of, greatest}

-- a number that is not at most another is greater
pub not_le : (a b : ℕ) → is_le (nat_cmp a b) ≡ false → b < a
not_le a b h = grind (arith, nat_tests)

-- rising entries still rise with one more that is above the last
pub rising_next : {S : Type 0} (ps : List (ℕ × S)) (i : ℕ) →
    ((a b : ℕ) (d : ℕ × S) → a < b → b < i → (get_or ps a d).0 < (get_or ps b d).0) → 1 ≤ i → i < length ps → (p q : ℕ × S) →
    (get_or ps (i - 1) q).0 < (get_or ps i p).0 → (a b : ℕ) (d : ℕ × S) → a < b → b < i + 1 →
    (get_or ps a d).0 < (get_or ps b d).0
rising_next ps i rise some lt p q above a b d a_lt b_lt =
    let here = ap (λ e. e.0) (get_or_default ps i p d lt) in
    let before = ap (λ e. e.0) (get_or_default ps (i - 1) q d (omega (arith, lt))) in
    elim (cases_lt b i) [
      | inl lo ↦ rise a b d a_lt lo
      | inr hi ↦
          let is : b ≡ i = omega (arith, hi, b_lt) in
          elim (cases_lt a (i - 1)) [
            | inl below ↦ rw is (omega (arith, above, here, before, rise a (i - 1) d below (omega (arith, some))))
            | inr last ↦
                (let at : a ≡ i - 1 = omega (arith, last, a_lt, is) in rw (is, at) (omega (arith, above, here, before)))
          ]
    ]

-- the entry of an epoch
abbrev pub entry_of : {S : Type 0} → List (ℕ × S) → ℕ → Option (ℕ × S)
entry_of pairs epoch = find (λ p. eqb p.0 epoch) pairs

-- an entry is the one of its epoch
pub entry_at : {S : Type 0} (ps : List (ℕ × S)) → AreRising ps → (i : ℕ) (d : ℕ × S) → i < length ps →
    entry_of ps (get_or ps i d).0 ≡ Some (get_or ps i d)
entry_at [] rising i d lt = absurd (omega arith)
entry_at (p ∷ ps) rising zero d lt = grind (arith, nat_tests)
entry_at (p ∷ ps) rising (suc i) d lt =
    let ahead = rising 0 (suc i) d (omega arith) lt in
    let tail : AreRising ps = λ a b e q r. rising (suc a) (suc b) e (omega arith) (omega arith) in
    grind (arith, nat_tests, ahead, entry_at ps tail i d (omega arith))

-- an epoch that no entry has is not found
pub no_entry : {S : Type 0} (ps : List (ℕ × S)) (epoch : ℕ) →
    ((i : ℕ) (d : ℕ × S) → i < length ps → (get_or ps i d).0 ≡ epoch → ⊥) → entry_of ps epoch ≡ None
no_entry [] epoch none = refl
no_entry (p ∷ ps) epoch none =
    (elim (eqb p.0 epoch) as (λ b. eqb p.0 epoch ≡ b → cond b (Some p) (entry_of ps epoch) ≡ None) [
      | true ↦ λ same. absurd (none 0 p (omega arith) (eqb-true p.0 epoch same))
      | false ↦ λ other. no_entry ps epoch (λ i d lt. none (suc i) d (omega (arith, lt)))
    ]) refl

-- what holds of each listed committee holds of that of an epoch
pub of_each : {S : Type 0} (P : S → Type 0) (ps : List (ℕ × S)) → All (λ p. P p.1) ps → (epoch : ℕ) (c : S) →
    committee_of (Listed ps) epoch ≡ Some c → P c
of_each P [] each epoch c h = absurd cc
of_each P (p ∷ ps) each epoch c h =
    (elim (eqb p.0 epoch) as (λ b. option_map (λ q. q.1) (cond b (Some p) (entry_of ps epoch)) ≡ Some c → P c) [
      | true ↦ λ is. subst P (same_Some p.1 c is) (All-head (λ q. P q.1) p ps each)
      | false ↦ λ is. of_each P ps (All-tail (λ q. P q.1) p ps each) epoch c is
    ]) h

-- a search by epoch ends at its entry, or finds none
pub searched : {S : Type 0} (ps : List (ℕ × S)) → AreRising ps → (epoch : ℕ) (r : Result ℕ ℕ) → IsSearchInRange r (length ps) →
    IsBinarySearchResult (λ p. nat_cmp p.0 epoch) ps r → record {
      found : IfOk r (λ place. (place < length ps) × ((d : ℕ × S) → (get_or ps place d).0 ≡ epoch));
      none : IfErr r (λ _. entry_of ps epoch ≡ None);
    }
searched ps rising epoch (Ok place) in_range equal =
    record { found = (in_range, λ d. ranked _ epoch _ (sym (equal d))); none = tt }
searched {S} ps rising epoch (Err place) in_range parted = record {
  found = tt;
  none = no_entry ps epoch (λ i d lt at. elim (cases_lt i place) [
    | inl lo ↦ (let h = ranked _ epoch _ (sym ((parted rise).0 i d (omega (arith, in_range)) lo)) in
        absurd (omega (arith, h, at)))
    | inr hi ↦ (let h = ranked _ epoch _ (sym ((parted rise).1 i d hi lt)) in absurd (omega (arith, h, at)))
  ]);
}
  where
    -- the comparisons with an epoch do not fall along the entries
    rise : IsNonDecreasingBy (λ p. ordering_index (nat_cmp p.0 epoch)) ps
    rise i j d le in_range =
        let up : (get_or ps i d).0 ≤ (get_or ps j d).0 = elim (cases_lt i j)
        [ inl lt ↦ omega (arith, rising i j d lt in_range) | inr ge ↦ (let e : i ≡ j = omega arith in rw e (omega arith)) ] in
        grind (arith, nat_tests)

-- ---- the greatest committee

-- no committee is greater than the bound
pub most : {S P : Type 0} (keys : S → List P) (schedule : Schedule S) (epoch : ℕ) (c : S) →
    committee_of schedule epoch ≡ Some c → length (keys c) ≤ bound_of keys schedule
most keys (Every committee) epoch c h = let len = ap (λ x. length (keys x)) (same_Some committee c h) in omega (arith, len)
most {S} keys (Listed ps) epoch c h = of_each (λ s. length (keys s) ≤ greatest keys ps) ps (below ps) epoch c h
  where
    below : (ps : List (ℕ × S)) → All (λ q. length (keys q.1) ≤ greatest keys ps) ps
    below [] = All-nil (λ q. length (keys q.1) ≤ 0)
    below (p ∷ ps) =
        All-cons (λ q. length (keys q.1) ≤ greatest keys (p ∷ ps)) p ps (omega arith)
        (λ k d lt. (let le = below ps k d lt in omega (arith, le)))

-- one committee is as great as the bound
pub reached : {S P : Type 0} (keys : S → List P) (schedule : Schedule S) → IsSchedule schedule →
    (epoch : ℕ) × (c : S) × (committee_of schedule epoch ≡ Some c) × (length (keys c) ≡ bound_of keys schedule)
reached keys (Every committee) is = (0, committee, refl, refl)
reached keys (Listed []) is = absurd (is.0 refl)
reached {S} keys (Listed (p ∷ ps)) is =
    let (i, lt, same) = at p ps in
    ((get_or (p ∷ ps) i p).0, (get_or (p ∷ ps) i p).1, ap (option_map (λ q. q.1)) (entry_at (p ∷ ps) is.1 i p lt), same p)
  where
    at : (p : ℕ × S) (ps : List (ℕ × S)) →
        (i : ℕ) × (i < length (p ∷ ps)) × ((d : ℕ × S) → length (keys (get_or (p ∷ ps) i d).1) ≡ greatest keys (p ∷ ps))
    at p [] = (0, omega arith, λ d. omega arith)
    at p (q ∷ ps) =
        let (i, lt, is) = at q ps in
        elim (cases_lt (greatest keys (q ∷ ps)) (length (keys p.1))) [
          | inl less ↦ (0, omega arith, λ d. omega (arith, less))
          | inr more ↦ (suc i, omega (arith, lt), λ d. omega (arith, more, is d))
        ]

-- one entry more
pub greatest_next : {S P : Type 0} (keys : S → List P) (ps : List (ℕ × S)) (i so_far size next : ℕ) (p : ℕ × S) →
    i < length ps → p ≡ get_or ps i p → size ≡ length (keys p.1) → next ≡ ord_max nat_cmp so_far size →
    max next (greatest keys (drop (i + 1) ps)) ≡ max so_far (greatest keys (drop i ps))
greatest_next keys ps i so_far size next p lt is sized maxed =
    let len = ap (greatest keys) (drop_more ps i p lt ∙ ap (λ q. q ∷ drop (i + 1) ps) (sym is)) in
    let most : next ≡ max so_far size = maxed ∙ grind (arith, nat_tests) in
    omega (arith, len, most, sized)

-- if each entry has a participant, the committee of an epoch has one
pub listed_some : {S P : Type 0} (keys : S → List P) (ps : List (ℕ × S)) → All (λ p. 1 ≤ length (keys p.1)) ps →
    (epoch : ℕ) (c : S) → committee_of (Listed ps) epoch ≡ Some c → 1 ≤ length (keys c)
listed_some keys ps one epoch c h = of_each (λ s. 1 ≤ length (keys s)) ps one epoch c h
