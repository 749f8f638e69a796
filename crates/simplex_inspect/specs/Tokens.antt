-- What a JSON writer was given.
use Rattle.std.specs.Prelude.{◌≡◌, ℕ, List, [], ◌∷◌, ◌++◌, Option}
use Rattle.json.specs.Json.{Json}
use Rattle.json.specs.Token.{Token}
use Rattle.json.specs.Tree.{json_tokens}
use Rattle.json.specs.Written.{Written}
use Rattle.simplex_inspect.specs.Json.{validity_members}
use Rattle.simplex_inspect.specs.declared.validity.Validity.{Validity}

-- the tokens of members, without the brackets of their object
abbrev pub member_tokens : List (List ℕ × Json) → List Token
member_tokens [] = []
member_tokens (pair ∷ rest) = Token.key pair.0 ∷ (json_tokens pair.1 ++ member_tokens rest)

-- the tokens of values, without the brackets of their array
abbrev pub value_tokens : List Json → List Token
value_tokens [] = []
value_tokens (value ∷ rest) = json_tokens value ++ value_tokens rest

-- the tokens of a listing before its values
abbrev pub open_tokens : List (List ℕ × Json) → List ℕ → List Token
open_tokens members name = Token.begin_object ∷ (member_tokens members ++ Token.key name ∷ Token.begin_array ∷ [])

-- the tokens of a listing behind its values
abbrev pub close_tokens : Option Validity → List Token
close_tokens validity = Token.end_array ∷ (member_tokens (validity_members validity) ++ Token.end_object ∷ [])

-- these tokens were written
pub record Appended (added : List Token) (old new : Written) : Type 0 where
  pub before : new.before ≡ old.before
  pub tokens : new.tokens ≡ old.tokens ++ added
