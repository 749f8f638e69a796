-- Parts of messages that are skipped.
use Rattle.std.specs.Prelude.{◌≡◌, ◌≤◌, ℕ, List, ◌∷◌, Ok, IfOk}
use Rattle.simplex_base.specs.Positions.{Round, round_format}
use Rattle.simplex_base.specs.Reading.{Reading}
use Rattle.simplex_evidence.specs.Activity.{activity_tag}
use Rattle.simplex_evidence.specs.declared.types.activity.Activity.{Activity}

-- reading the bytes gives no value
abbrev pub IsRefused : {T : Type 0} → (List ℕ → Reading T) → List ℕ → Type 0
IsRefused reading bytes = IfOk (reading bytes) (λ _. ⊥)

-- reading the bytes gives some value, and leaves the rest
abbrev pub Skips : {T : Type 0} → (List ℕ → Reading T) → List ℕ → List ℕ → Type 0
Skips {T} reading bytes rest = (x : T) × (reading bytes ≡ Ok (x, rest))

-- reading the bytes gives some value that the predicate holds of, and leaves the rest
abbrev pub SkipsBy : {T : Type 0} → (T → Type 0) → (List ℕ → Reading T) → List ℕ → List ℕ → Type 0
SkipsBy {T} holds reading bytes rest = (x : T) × holds x × (reading bytes ≡ Ok (x, rest))

-- two values, one after the other
abbrev pub SkipsBoth : {A B : Type 0} → (List ℕ → Reading A) → (List ℕ → Reading B) → List ℕ → List ℕ → Type 0
SkipsBoth first second bytes rest = (middle : List ℕ) × Skips first bytes middle × Skips second middle rest

-- These bytes are what a message has behind its tag and round: reading the whole gives a message of that round, and leaves the
-- rest.
abbrev pub SkipsBehind : {M : Type 0} → (List ℕ → Reading M) → (M → Round) → ℕ → List ℕ → List ℕ → Type 0
SkipsBehind reading round_of tag bytes rest = (body : List ℕ) (round : Round) → round_format.reading body ≡ Ok (round, bytes) →
    SkipsBy (λ m. round_of m ≡ round) reading (tag ∷ body) rest

-- evidence has the tags 7, 8 and 9
abbrev pub IsEvidence : {S D C P G : Type 0} → Activity S D C P G → Type 0
IsEvidence m = 7 ≤ activity_tag m

-- If these bytes are what a message has behind its tag and round, either reading the whole gives no message, or the predicate
-- holds of it.
abbrev pub IsLeftBehind : {M : Type 0} → (List ℕ → Reading M) → (M → Type 0) → ℕ → List ℕ → Type 0
IsLeftBehind reading holds tag bytes = (body : List ℕ) (round : Round) → round_format.reading body ≡ Ok (round, bytes) →
    IfOk (reading (tag ∷ body)) (λ x. holds x.0)
