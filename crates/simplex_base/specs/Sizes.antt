-- How long the encodings of a format are at most.
use Rattle.std.proofs.Common.{◌≡◌, ℕ, ◌≤◌, length}
use Rattle.simplex_base.specs.Format.{Format}

-- no encoding is longer
abbrev pub IsWithin : {T : Type 0} → Format T → ℕ → Type 0
IsWithin {T} f size = (x : T) → f.is_value x → length (f.encoding x) ≤ size

-- a value whose encoding is as long
abbrev pub Longest : {T : Type 0} → Format T → ℕ → Type 0
Longest {T} f size = (x : T) × f.is_value x × (length (f.encoding x) ≡ size)
