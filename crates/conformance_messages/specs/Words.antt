-- What words of test vectors encode, and the names of refusals.
use Rattle.std.specs.Prelude.{◌≡◌, ℕ, ◌≤◌, List, [], ◌++◌, None, Result, Ok, Err, codes}
use Rattle.std.specs.Str.Parse.{IsNumeral, digits_value}
use Rattle.hex.specs.Hex.{decode_of}
use Rattle.hex.specs.declared.FromHexError.{FromHexError}
use Rattle.simplex_base.specs.declared.codec.error.Error.{Error}
use Rattle.simplex_base.specs.declared.codec.error.Error.TheVariants as errors
use Rattle.simplex_schemes.specs.Marked.{MarkedScheme, numbered}

-- a word is decimal digits, at least one, and encodes the number
pub record IsDecimal (word : List ℕ) (number : ℕ) : Type 0 where
  pub digits : IsNumeral 10 word
  pub value : number ≡ digits_value 10 word

-- a scheme is that of the marked committee of as many participants as the word encodes, and signs nothing
pub record IsMarkedCommittee (word : List ℕ) (scheme : MarkedScheme) : Type 0 where
  pub size : ℕ
  pub encoded : IsDecimal word size
  pub some : 1 ≤ size
  pub same : scheme ≡ record { keys = numbered size; me = None }

-- the name of a refusal, with the type and the condition of an invalid value
abbrev pub refusal_name : Error → List ℕ
refusal_name errors.EndOfBuffer = codes "EndOfBuffer"
refusal_name errors.InvalidVarint = codes "InvalidVarint"
refusal_name errors.InvalidBool = codes "InvalidBool"
refusal_name (errors.Invalid of condition) = codes "Invalid " ++ (of.now ++ (codes ": " ++ condition.now))
refusal_name errors.ExtraData = codes "ExtraData"
refusal_name errors.OutOfMemory = codes "OutOfMemory"

-- the bytes that were decoded, if they were
abbrev pub if_decoded : Result (List ℕ) FromHexError → List ℕ
if_decoded (Ok bytes) = bytes
if_decoded (Err _) = []

-- the bytes that a word encodes by two digits each
abbrev pub decoded : List ℕ → List ℕ
decoded word = if_decoded (decode_of word)
