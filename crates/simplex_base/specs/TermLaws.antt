-- Laws of terms.
-- They stand beside the definitions because the crates above search by them.
use Rattle.std.proofs.Common.{◌≡◌, ℕ, zero, suc, ◌+◌, ◌*◌, ◌/◌, ◌-◌, ◌<◌, ◌≤◌, inl, inr, refl, sym, ◌∙◌, ap, arith}
use Rattle.std.proofs.Math.Nat.{mul-le-mul_left}
use Rattle.std.proofs.lemmas.Bool.{cases_lt}
use Rattle.simplex_base.specs.Terms.{first_view, last_view, HoldsView, term_of, term_start, term_end}

-- the term of a view holds it
pub holds_view : (l v : ℕ) → 1 ≤ l → HoldsView l (term_of l v) v
unfolding term_of
holds_view l zero positive = (omega arith, omega arith)
holds_view l (suc v) positive = (omega arith, omega arith)

-- a later term doesn't hold the same view
not_later : (l t u v : ℕ) → HoldsView l t v → HoldsView l u v → u ≤ t
not_later l zero u v a b =
    elim u as (λ w. HoldsView l w v → w ≤ 0) [ zero ↦ λ b. omega arith | suc w ↦ λ b. omega (arith, a.1, b.0) ] b
not_later l (suc t) u v a b = elim (cases_lt (suc t) u) [ inl lt ↦ absurd (later u b lt) | inr le ↦ le ]
  where
    later : (w : ℕ) → HoldsView l w v → suc t < w → ⊥
    later zero b lt = omega arith
    later (suc w) b lt = let m : l * suc t ≤ l * w = mul-le-mul_left l (omega arith) in omega (arith, a.1, b.0)

-- one term alone holds a view
pub one_term : (l t u v : ℕ) → HoldsView l t v → HoldsView l u v → t ≡ u
one_term l t u v a b = omega (arith, not_later l t u v a b, not_later l u t v b a)

-- so a term that holds a view is that of the view
pub term_of-one : (l t v : ℕ) → 1 ≤ l → HoldsView l t v → t ≡ term_of l v
term_of-one l t v positive holds = one_term l t _ v holds (holds_view l v positive)

pub term_start-one : (l t v : ℕ) → 1 ≤ l → HoldsView l t v → term_start l v ≡ first_view l t
term_start-one l t v positive holds = sym (ap (first_view l) (term_of-one l t v positive holds))

-- views that one term holds are of one term
pub same_term : (l t v w : ℕ) → HoldsView l t v → HoldsView l t w → term_of l v ≡ term_of l w
same_term l t v w at_v at_w = elim (cases_lt 0 l) as (λ _. term_of l v ≡ term_of l w) [
  | inl positive ↦ sym (term_of-one l t v positive at_v) ∙ term_of-one l t w positive at_w
  | inr none ↦ let e : l ≡ 0 = omega arith in let same : v ≡ w = both_zero l t v w e at_v at_w in ap (term_of l) same
]
  where
    both_zero : (l t v w : ℕ) → l ≡ 0 → HoldsView l t v → HoldsView l t w → v ≡ w
    both_zero l t v w e at_v at_w = let zero_v : t * l ≡ 0 = rw e (omega arith) in omega (arith, at_v.1, at_w.1)

-- what the code computes
pub term_of-zero : (l v : ℕ) → v ≡ 0 → term_of l v ≡ 0
unfolding term_of
term_of-zero l zero is = refl
term_of-zero l (suc v) is = omega arith

pub term_of-positive : (l v : ℕ) → 1 ≤ v → term_of l v ≡ (v - 1) / l + 1
unfolding term_of
term_of-positive l zero positive = omega arith
term_of-positive l (suc v) positive = let e : suc v - 1 ≡ v = omega arith in rw e (omega arith)

pub term_start-zero : (l v : ℕ) → v ≡ 0 → term_start l v ≡ 0
unfolding term_of
term_start-zero l zero is = refl
term_start-zero l (suc v) is = omega arith

pub term_start-positive : (l v : ℕ) → 1 ≤ v → term_start l v ≡ (v - 1) / l * l + 1
unfolding term_of
term_start-positive l zero positive = omega arith
term_start-positive l (suc v) positive = let e : suc v - 1 ≡ v = omega arith in rw e (omega arith)

pub term_end-zero : (l v : ℕ) → v ≡ 0 → term_end l v ≡ 0
unfolding term_end term_of
term_end-zero l zero is = omega arith
term_end-zero l (suc v) is = omega arith

-- a term has as many views as its length says
pub start_to_end : (l v : ℕ) → 1 ≤ v → term_end l v + 1 ≡ term_start l v + l
unfolding term_end term_of
start_to_end l zero positive = omega arith
start_to_end l (suc v) positive = omega arith

pub start_before : (l v : ℕ) → 1 ≤ l → term_start l v ≤ v
unfolding term_of
start_before l zero positive = omega arith
start_before l (suc v) positive = omega arith

-- the end of a view's term is at or after it
pub end_after : (l v : ℕ) → 1 ≤ l → v ≤ term_end l v
unfolding term_end term_of
end_after l zero positive = omega arith
end_after l (suc v) positive = omega arith

-- the views up to the end of c's term, from c on, have that end
pub end_same : (l c v : ℕ) → 1 ≤ l → c ≤ v → v ≤ term_end l c → term_end l v ≡ term_end l c
unfolding term_end
end_same l c v positive le up =
    let at_c = holds_view l c positive in
    let at_v = holds_view l v positive in
    let same : term_of l v ≡ term_of l c = one_term l _ _ v at_v (omega (arith, at_c.0), up) in
    ap (last_view l) same

-- the next term ends a length later
pub end_next : (l c : ℕ) → 1 ≤ l → term_end l (term_end l c + 1) ≡ term_end l c + l
unfolding term_end
end_next l c positive =
    let start = last_view l (term_of l c) + 1 in
    let at_start = holds_view l start positive in
    let holds : HoldsView l (suc (term_of l c)) start = (omega arith, omega arith) in
    let same : term_of l start ≡ suc (term_of l c) = one_term l _ _ start at_start holds in
    omega (arith, ap (last_view l) same)

-- ends rise with views
pub end_rises : (l u v : ℕ) → 1 ≤ l → u ≤ v → term_end l u ≤ term_end l v
end_rises l u v positive le = elim (cases_lt (term_end l u) v) [
  | inl past ↦ omega (arith, end_after l v positive)
  | inr within ↦ omega (arith, end_same l u v positive le within)
]

pub ruleset term_facts =
    (term_of-zero, term_of-positive, term_start-zero, term_start-positive, term_end-zero, start_to_end, start_before, end_after)
