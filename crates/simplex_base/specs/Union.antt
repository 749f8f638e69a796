-- Unions: a tag, and then the body that belongs to the tag.
use Rattle.std.proofs.Common.{◌==◌, if◌then◌else◌, ℕ, List, [], ◌∷◌, Err}
use Rattle.simplex_base.specs.Reading.{Reading, Refusal, end_of_buffer}
use Rattle.simplex_base.specs.Format.{made_at}

-- the tag, and then what the branch of that tag reads
abbrev pub union_at : {T : Type 0} → (ℕ → List ℕ → Reading T) → List ℕ → Reading T
union_at branches [] = Err end_of_buffer
union_at branches (tag ∷ bytes) = branches tag bytes

-- the branch of one tag, before others
abbrev pub branch_at : {A T : Type 0} → ℕ → (A → T) → (List ℕ → Reading A) → (ℕ → List ℕ → Reading T) → ℕ → List ℕ → Reading T
branch_at tag make read others b bytes = if b == tag then made_at make read bytes else others b bytes

-- no tag is left
abbrev pub no_branch : {T : Type 0} → Refusal → ℕ → List ℕ → Reading T
no_branch refusal b bytes = Err refusal
