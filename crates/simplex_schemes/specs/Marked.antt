-- The marked scheme: a valid signature is one fixed byte, for every signer and message.
use Rattle.std.specs.Prelude.{ℕ, Bool, List, [], ◌∷◌, ◌&&◌, Option, map, nat_lt}
use Rattle.std.specs.Int.{w32, to_be_bytes}
use Rattle.std.specs.List.{range_with_len}
use Rattle.std.specs.Str.{bytes_eq}
use Rattle.simplex_scheme.specs.Subject.{SubjectValue}

-- a committee's keys, and which of it this is
pub record MarkedScheme : Type 0 where
  pub keys : List (List ℕ)
  pub me : Option ℕ

-- the keys of n participants: the numbers from 0 on, each in four bytes, the most significant first
abbrev pub numbered : ℕ → List (List ℕ)
numbered n = map (to_be_bytes w32) (range_with_len 0 n)

-- the signer is one of n participants, and the signature is the byte aa
abbrev pub marked_good : {D : Type 0} → ℕ → SubjectValue D → ℕ → List ℕ → Bool
marked_good n subject signer signature = nat_lt signer n && bytes_eq signature (170 ∷ [])
