-- The votes in a table of places.
use Rattle.std.proofs.Common.{arith, refl, sym, ap, subst, ℕ, zero, suc, ◌+◌, ◌-◌, ◌<◌, ◌≤◌, ◌≡◌, ◌∙◌, Bool, true, false, cond, eqb, List, [], ◌∷◌, ◌++◌, length, set, get_or, take, replicate, Option, Some, None, append-nil}
use Rattle.std.proofs.lemmas.Bool.{eq-eqb, ne_eqb}
use Rattle.std.proofs.lemmas.List.{get_or-set_same, get_or-set_other, get_or-append_right, get_or-replicate, length-append, length-take-le, take_all, take_more}
use Rattle.std.specs.Prelude.{if◌then◌else◌, ◌==◌}
use Rattle.simplex_evidence.specs.VoteMap.{AddsOnly, item_of}
use Rattle.simplex_ballots.specs.Firsts.{first_key, held_from, vacant}
use Rattle.simplex_ballots.specs.declared.firsts.First.{First}

-- the vote of a participant, by its place
abbrev pub held_item : ℕ → ℕ → Option First
held_item s p = if p == vacant then None else Some (record { signer = s; place = p })

-- the same as a list
abbrev pub held_one : ℕ → ℕ → List First
held_one n p = if p == vacant then [] else record { signer = n; place = p } ∷ []

same_cond : {X : Type 0} (b : Bool) (x : X) → cond b x x ≡ x
same_cond true x = refl
same_cond false x = refl

-- ---- tables that follow one another

cond_append : (b : Bool) (f : First) (xs ys : List First) → cond b (xs ++ ys) (f ∷ (xs ++ ys)) ≡ cond b xs (f ∷ xs) ++ ys
cond_append true f xs ys = refl
cond_append false f xs ys = refl

pub held_append : (n : ℕ) (xs ys : List ℕ) → held_from n (xs ++ ys) ≡ held_from n xs ++ held_from (n + length xs) ys
held_append n [] ys =
    let shift : n ≡ n + 0 = omega arith in
    ap (λ m. held_from m ys) shift
held_append n (x ∷ xs) ys =
    let first : First = record { signer = n; place = x } in
    let shift : (n + 1) + length xs ≡ n + length (x ∷ xs) = omega arith in
    ap (λ rest. cond (eqb x vacant) rest (first ∷ rest))
    (held_append (n + 1) xs ys ∙ ap (λ m. held_from (n + 1) xs ++ held_from m ys) shift)
    ∙ cond_append (eqb x vacant) first (held_from (n + 1) xs) (held_from (n + length (x ∷ xs)) ys)

held_vacant : (n k : ℕ) → held_from n (replicate k vacant) ≡ []
held_vacant n zero = refl
held_vacant n (suc k) = held_vacant (n + 1) k

-- vacant places behind a table are none
pub held_longer : (n k : ℕ) (ps : List ℕ) → held_from n (ps ++ replicate k vacant) ≡ held_from n ps
held_longer n k ps =
    held_append n ps (replicate k vacant) ∙ ap (λ fs. held_from n ps ++ fs) (held_vacant (n + length ps) k) ∙ append-nil _

-- one place more
pub held_next : (ps : List ℕ) (i d : ℕ) → i < length ps →
    held_from 0 (take (i + 1) ps) ≡ held_from 0 (take i ps) ++ held_one i (get_or ps i d)
held_next ps i d lt =
    let taken = length-take-le i ps (omega (arith, lt)) in
    let size : 0 + length (take i ps) ≡ i = omega (arith, taken) in
    ap (held_from 0) (take_more ps i d lt) ∙ held_append 0 (take i ps) (get_or ps i d ∷ [])
    ∙ ap (λ m. held_from 0 (take i ps) ++ held_from m (get_or ps i d ∷ [])) size

-- of a participant who has a vote
pub held_next_some : (ps : List ℕ) (i d : ℕ) → i < length ps → (get_or ps i d ≡ vacant → ⊥) →
    held_from 0 (take (i + 1) ps) ≡ held_from 0 (take i ps) ++ record { signer = i; place = get_or ps i d } ∷ []
held_next_some ps i d lt some =
    held_next ps i d lt
    ∙ ap (λ b. held_from 0 (take i ps) ++ cond b [] (record { signer = i; place = get_or ps i d } ∷ []))
    (ne_eqb (get_or ps i d) vacant some)

-- of one who has none
pub held_next_none : (ps : List ℕ) (i d : ℕ) → i < length ps → get_or ps i d ≡ vacant →
    held_from 0 (take (i + 1) ps) ≡ held_from 0 (take i ps)
held_next_none ps i d lt none =
    held_next ps i d lt
    ∙ ap (λ b. held_from 0 (take i ps) ++ cond b [] (record { signer = i; place = get_or ps i d } ∷ []))
    (eq-eqb (get_or ps i d) vacant none)
    ∙ append-nil _

-- how many there are
pub counted_some : (ps : List ℕ) (i d : ℕ) → i < length ps → (get_or ps i d ≡ vacant → ⊥) →
    length (held_from 0 (take (i + 1) ps)) ≡ length (held_from 0 (take i ps)) + 1
counted_some ps i d lt some = ap length (held_next_some ps i d lt some) ∙ length-append (held_from 0 (take i ps)) _

-- ---- the vote of a participant

pub held_some : (s p : ℕ) → (p ≡ vacant → ⊥) → held_item s p ≡ Some (record { signer = s; place = p })
held_some s p some = ap (λ b. cond b None (Some (record { signer = s; place = p }))) (ne_eqb p vacant some)

item_step : (b : Bool) (f : First) (fs : List First) (s : ℕ) → item_of first_key (cond b fs (f ∷ fs)) s
    ≡ cond b (item_of first_key fs s) (cond (eqb f.signer s) (Some f) (item_of first_key fs s))
item_step true f fs s = refl
item_step false f fs s = refl

item_below : (n : ℕ) (ps : List ℕ) (s : ℕ) → s < n → item_of first_key (held_from n ps) s ≡ None
item_below n [] s lt = refl
item_below n (p ∷ ps) s lt =
    let first : First = record { signer = n; place = p } in
    let rest = held_from (n + 1) ps in
    let differs : n ≡ s → ⊥ = λ e. omega (arith, lt, e) in
    let none = item_below (n + 1) ps s (omega (arith, lt)) in
    item_step (eqb p vacant) first rest s
    ∙ (λ i. cond (eqb p vacant) (none i) (cond (ne_eqb n s differs i) (Some first) (none i)))
    ∙ same_cond (eqb p vacant) None

pub item_held : (n : ℕ) (ps : List ℕ) (i s : ℕ) → s ≡ n + i →
    item_of first_key (held_from n ps) s ≡ held_item s (get_or ps i vacant)
item_held n [] i s e = refl
item_held n (p ∷ ps) zero s e =
    let first : First = record { signer = n; place = p } in
    let rest = held_from (n + 1) ps in
    let same : n ≡ s = omega (arith, e) in
    let none = item_below (n + 1) ps s (omega (arith, e)) in
    item_step (eqb p vacant) first rest s
    ∙ (λ i. cond (eqb p vacant) (none i)
    (cond (eq-eqb n s same i) (Some (record { signer = same i; place = p })) (item_of first_key rest s)))
item_held n (p ∷ ps) (suc i) s e =
    let first : First = record { signer = n; place = p } in
    let rest = held_from (n + 1) ps in
    let differs : n ≡ s → ⊥ = λ same. omega (arith, e, same) in
    let shifted : s ≡ (n + 1) + i = omega (arith, e) in
    let own = item_held (n + 1) ps i s shifted in
    item_step (eqb p vacant) first rest s
    ∙ (λ j. cond (eqb p vacant) (own j) (cond (ne_eqb n s differs j) (Some first) (own j)))
    ∙ same_cond (eqb p vacant) (held_item s (get_or ps i vacant))

-- of a table
pub item_in : (ps : List ℕ) (s : ℕ) → item_of first_key (held_from 0 ps) s ≡ held_item s (get_or ps s vacant)
item_in ps s = item_held 0 ps s s (omega arith)

-- ---- a vote more

cond_longer : (b : Bool) (f g : First) (xs ys : List First) → length ys ≡ length xs + 1 →
    length (cond b ys (f ∷ ys)) ≡ length (cond b xs (g ∷ xs)) + 1
cond_longer true f g xs ys e = e
cond_longer false f g xs ys e = omega (arith, e)

longer : (n : ℕ) (ps : List ℕ) (i p : ℕ) → i < length ps → get_or ps i vacant ≡ vacant → (p ≡ vacant → ⊥) →
    length (held_from n (set ps i p)) ≡ length (held_from n ps) + 1
longer n [] i p lt free some = absurd (omega (arith, lt))
longer n (q ∷ ps) zero p lt free some =
    let rest = held_from (n + 1) ps in
    let more : List First = record { signer = n; place = p } ∷ rest in
    let new : length (held_from n (p ∷ ps)) ≡ length more =
    ap (λ b. length (cond b rest (record { signer = n; place = p } ∷ rest))) (ne_eqb p vacant some) in
    let old : length (held_from n (q ∷ ps)) ≡ length rest =
    ap (λ b. length (cond b rest (record { signer = n; place = q } ∷ rest))) (eq-eqb q vacant free) in
    omega (arith, new, old)
longer n (q ∷ ps) (suc i) p lt free some =
    cond_longer (eqb q vacant) (record { signer = n; place = q }) (record { signer = n; place = q }) (held_from (n + 1) ps)
    (held_from (n + 1) (set ps i p)) (longer (n + 1) ps i p (omega (arith, lt)) free some)

-- a vote in a vacant place
pub fills : (ps : List ℕ) (i p : ℕ) → i < length ps → get_or ps i vacant ≡ vacant → (p ≡ vacant → ⊥) →
    AddsOnly first_key (held_from 0 ps) (held_from 0 (set ps i p)) (record { signer = i; place = p })
fills ps i p lt free some = record {
  added = item_in (set ps i p) i ∙ ap (held_item i) (get_or-set_same ps i p vacant lt) ∙ held_some i p some;
  others = λ s differs. item_in (set ps i p) s ∙ ap (held_item s) (get_or-set_other ps i s p vacant differs)
      ∙ sym (item_in ps s);
  longer = longer 0 ps i p lt free some;
}

-- a table made longer
pub grown : (ps : List ℕ) (n k : ℕ) → length ps ≤ n → held_from 0 (take n ps ++ replicate k vacant) ≡ held_from 0 ps
grown ps n k le = ap (λ qs. held_from 0 (qs ++ replicate k vacant)) (take_all n ps le) ∙ held_longer 0 k ps

-- a place in it
pub free_behind : (ps : List ℕ) (n k i : ℕ) → length ps ≤ n → length ps ≤ i → i < length ps + k →
    get_or (take n ps ++ replicate k vacant) i vacant ≡ vacant
free_behind ps n k i le behind lt =
    ap (λ qs. get_or (qs ++ replicate k vacant) i vacant) (take_all n ps le)
    ∙ get_or-append_right ps (replicate k vacant) (length ps) i vacant refl behind
    ∙ get_or-replicate k (i - length ps) vacant vacant (omega (arith, behind, lt))

-- a vote in a table that was made longer
pub fills_grown : (old more : List ℕ) (i : ℕ) (f : First) → i ≡ f.signer → held_from 0 more ≡ held_from 0 old →
    i < length more → get_or more i vacant ≡ vacant → (f.place ≡ vacant → ⊥) →
    AddsOnly first_key (held_from 0 old) (held_from 0 (set more i f.place)) f
fills_grown old more i f at same lt free some =
    subst (λ fs. AddsOnly first_key fs (held_from 0 (set more i f.place)) f) same
    (subst (λ s. AddsOnly first_key (held_from 0 more) (held_from 0 (set more i f.place))
    (record { signer = s; place = f.place })) at (fills more i f.place lt free some))

-- a vote behind a table that was made longer
pub appended : (old more new : List ℕ) (fs : List First) (i n k : ℕ) (f d : First) → i < length fs → f ≡ get_or fs i d →
    held_from 0 old ≡ take i fs → length old ≤ n → more ≡ take n old ++ replicate k vacant → length more ≡ n →
    n ≡ f.signer → new ≡ more ++ f.place ∷ [] → (f.place ≡ vacant → ⊥) → held_from 0 new ≡ take (i + 1) fs
appended old more new fs i n k f d lt at before le more_is size n_is new_is some =
    let place : 0 + length more ≡ f.signer = omega (arith, size, n_is) in
    let held = ap (held_from 0) more_is ∙ grown old n k le ∙ before in
    ap (held_from 0) new_is ∙ held_append 0 more (f.place ∷ [])
    ∙ (λ j. held j ++ held_from (place j) (f.place ∷ []))
    ∙ ap (λ b. take i fs ++ cond b [] (f ∷ [])) (ne_eqb f.place vacant some)
    ∙ ap (λ g. take i fs ++ g ∷ []) at ∙ sym (take_more fs i d lt)
