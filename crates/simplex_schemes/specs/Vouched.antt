-- A scheme whose signatures the caller verified.
use Rattle.std.specs.Prelude.{ℕ, ◌&&◌, Bool, List, [], ◌∷◌, Option, None, length, nat_eq, nat_lt}
use Rattle.std.specs.List.{ends_with}
use Rattle.simplex_scheme.specs.Subject.{SubjectValue}
use Rattle.simplex_schemes.specs.Marked.{numbered}

-- the keys of a committee: the numbers of its participants
pub record VouchedScheme : Type 0 where
  pub keys : List (List ℕ)

-- the committee of this many participants
abbrev pub of_size : ℕ → VouchedScheme
of_size n = record { keys = numbered n }

-- the participant that signs here: none
abbrev pub nobody : Option ℕ
nobody = None

-- the caller found the signature valid: its last byte is 1
abbrev pub is_vouched : List ℕ → Bool
is_vouched signature = ends_with nat_eq signature (1 ∷ [])

-- the signer is one of the participants, and the caller found the signature valid
abbrev pub vouched_valid : {D : Type 0} → List (List ℕ) → SubjectValue D → ℕ → List ℕ → Bool
vouched_valid keys subject signer signature = nat_lt signer (length keys) && is_vouched signature
