-- The plain scheme: a signature is a hash that anyone can compute.
use Rattle.std.specs.Prelude.{ℕ, Bool, false, List, ◌++◌, Option, length, slice_get}
use Rattle.std.specs.Option.{option_map_or}
use Rattle.std.specs.Str.{bytes_eq}
use Rattle.sha2.specs.Sha256.{sha256}
use Rattle.simplex_base.specs.Format.{Format}
use Rattle.simplex_base.specs.Varint.{number_64}
use Rattle.simplex_scheme.specs.Namespace.{Names}
use Rattle.simplex_scheme.specs.Subject.{SubjectValue, name_of, message_of}

-- a committee's keys, the names under which it signs, and which of it this is
pub record PlainScheme : Type 0 where
  pub names : Names
  pub keys : List (List ℕ)
  pub me : Option ℕ

-- the bytes that are hashed: the name's length, the name, the key, the message
abbrev pub hashed : List ℕ → List ℕ → List ℕ → List ℕ
hashed name key message = number_64.encoding (length name) ++ (name ++ (key ++ message))

-- the signature of the participant with this key
abbrev pub plain_signature : {D : Type 0} → Format D → Names → List ℕ → SubjectValue D → List ℕ
plain_signature payload names key subject = sha256 (hashed (name_of names subject) key (message_of payload subject))

-- the signer has a key, and this is the signature with it
abbrev pub plain_good : {D : Type 0} → Format D → PlainScheme → SubjectValue D → ℕ → List ℕ → Bool
plain_good payload scheme subject signer signature =
    option_map_or (λ key. bytes_eq signature (plain_signature payload scheme.names key subject))
    (slice_get scheme.keys signer) false
