-- The plain scheme's signers are in the committee. It stands beside the definitions because a ghost member of the scheme cites
-- it, which sees no proofs.
use Rattle.std.specs.Prelude.{◌≡◌, ℕ, zero, suc, ◌<◌, true, false, List, [], ◌∷◌, length, slice_get}
use Rattle.std.specs.Option.{option_map_or}
use Rattle.std.specs.Str.{bytes_eq}
use Rattle.std.proofs.Common.{arith}
use Rattle.simplex_base.specs.Format.{Format}
use Rattle.simplex_scheme.specs.Subject.{SubjectValue}
use Rattle.simplex_schemes.specs.Plain.{PlainScheme, plain_signature, plain_good}

-- the signer of a valid signature is in the committee
pub good_members : {D : Type 0} (payload : Format D) (scheme : PlainScheme) (subject : SubjectValue D) (signer : ℕ)
    (signature : List ℕ) →
    plain_good payload scheme subject signer signature ≡ true → signer < length scheme.keys
good_members payload scheme subject signer signature h = inside scheme.keys signer h
  where
    inside : (keys : List (List ℕ)) (place : ℕ) →
        option_map_or (λ key. bytes_eq signature (plain_signature payload scheme.names key subject)) (slice_get keys place)
        false ≡ true →
        place < length keys
    inside [] place h = absurd cc
    inside (key ∷ keys) zero h = omega arith
    inside (key ∷ keys) (suc place) h = let less = inside keys place h in omega arith
