-- A union is lawful if each of its branches is.
-- They stand beside the definitions because ghost members of impls cite them, and those see no proofs.
use Rattle.std.proofs.Common.{◌≡◌, ◌==◌, ℕ, suc, List, [], ◌∷◌, ◌++◌, Ok, refl, Bool, true, false, cond, ap, subst}
use Rattle.std.proofs.lemmas.Bool.{eqb-true}
use Rattle.simplex_base.specs.Reading.{Reading, Refusal, IsBytes}
use Rattle.simplex_base.specs.Format.{Lawful, Encoded, made_at}
use Rattle.simplex_base.specs.FormatLaws.{bind_ok}
use Rattle.simplex_base.specs.Union.{union_at, branch_at, no_branch}

-- what a branch reads is a value with this tag and this body
abbrev pub Takes : {T : Type 0} → (T → Type 0) → (T → ℕ) → (T → List ℕ) → (ℕ → List ℕ → Reading T) → Type 0
Takes {T} fits tag_of body branches =
    (b : ℕ) (bytes : List ℕ) (x : T) (rest : List ℕ) → IsBytes bytes → branches b bytes ≡ Ok (x, rest) →
    Encoded fits (λ y. tag_of y ∷ body y) (b ∷ bytes) x rest

pub no_branch_takes : {T : Type 0} {fits : T → Type 0} {tag_of : T → ℕ} {body : T → List ℕ} (refusal : Refusal) →
    Takes fits tag_of body (no_branch refusal)
no_branch_takes refusal b bytes x rest fit e = absurd cc

pub branch_takes : {A T : Type 0} {is_a : A → Type 0} {s : A → List ℕ} {read : List ℕ → Reading A} (fits : T → Type 0)
    (tag_of : T →
    ℕ) (body : T → List ℕ) (tag : ℕ) (make : A → T) (others : ℕ → List ℕ → Reading T) → Lawful is_a s read →
    ((a : A) → tag_of (make a) ≡ tag) → ((a : A) → body (make a) ≡ s a) → ((a : A) → is_a a → fits (make a)) →
    Takes fits tag_of body others → Takes fits tag_of body (branch_at tag make read others)
branch_takes {A} {T} {is_a} {s} {read} fits tag_of body tag make others law tags bodies fitting more b bytes x rest fit e =
    go (b == tag) refl e
  where
    go : (t : Bool) → (b == tag) ≡ t → cond t (made_at make read bytes) (others b bytes) ≡ Ok (x, rest) →
        Encoded fits (λ y. tag_of y ∷ body y) (b ∷ bytes) x rest
    go true h e =
        let p = bind_ok (read bytes) (λ a. Ok (make a.0, a.1)) (x, rest) e in
        let first = law.takes bytes p.0.0 p.0.1 fit p.1 in
        let same : (make p.0.0, p.0.1) ≡ (x, rest) = cc in
        subst (λ (r : T × List ℕ). Encoded fits (λ y. tag_of y ∷ body y) (b ∷ bytes) r.0 r.1) same
        (record {
          value = fitting p.0.0 first.value;
          parts = rw (tags p.0.0, bodies p.0.0, eqb-true b tag h) (ap (λ (t : List ℕ). tag ∷ t) first.parts);
        })
    go false h e = more b bytes x rest fit e

pub union_lawful : {T : Type 0} {fits : T → Type 0} {tag_of : T → ℕ} {body : T → List ℕ} {branches : ℕ → List ℕ → Reading T} →
    Takes fits tag_of body branches → ((x : T) (rest : List ℕ) → fits x → branches (tag_of x) (body x ++ rest) ≡ Ok (x, rest)) →
    Lawful fits (λ x. tag_of x ∷ body x) (union_at branches)
union_lawful {T} {fits} {tag_of} {body} {branches} takes again = record {
  takes = taken;
  again = again;
}
  where
    taken : (bytes : List ℕ) (x : T) (rest : List ℕ) → IsBytes bytes → union_at branches bytes ≡ Ok (x, rest) →
        Encoded fits (λ x. tag_of x ∷ body x) bytes x rest
    taken [] x rest fit e = absurd cc
    taken (b ∷ bytes) x rest fit e = takes b bytes x rest (λ i. fit (suc i)) e
