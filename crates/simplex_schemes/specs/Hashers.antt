-- What the hashers of a plain committee hold.
use Rattle.std.specs.Prelude.{ℕ, List, ◌++◌, length}
use Rattle.sha2.specs.Hashers.{Holds256}
use Rattle.sha2.specs.declared.Sha256.{Sha256}
use Rattle.simplex_base.specs.Varint.{number_64}
use Rattle.simplex_scheme.specs.Namespace.{Names}
use Rattle.simplex_schemes.specs.declared.hashed.Hashers as declared

-- the hasher holds what is hashed before the key: the name's length and the name
abbrev pub HoldsName : Sha256 → List ℕ → Type 0
HoldsName hasher name = Holds256 hasher (number_64.encoding (length name) ++ name)

-- each hasher holds the name of its kind of vote
pub record HoldNames (hashers : declared.Hashers) (names : Names) : Type 0 where
  pub notarize : HoldsName hashers.notarize names.notarize
  pub nullify : HoldsName hashers.nullify names.nullify
  pub finalize : HoldsName hashers.finalize names.finalize
