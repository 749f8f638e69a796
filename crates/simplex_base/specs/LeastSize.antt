-- How long an encoding is at least of which some bytes are known.
use Rattle.std.specs.Prelude.{◌≡◌, ◌++◌, ◌≤◌, ℕ, List, length}

-- no value whose encoding begins with these bytes has a shorter encoding
abbrev pub NoneShorter : {T : Type 0} → (T → Type 0) → (T → List ℕ) → List ℕ → ℕ → Type 0
NoneShorter {T} is_value encoding bytes size =
    (x : T) (more : List ℕ) → is_value x → encoding x ≡ bytes ++ more → size ≤ length (encoding x)
