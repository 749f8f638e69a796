-- JSON values from lists, and the line of a value.
use Rattle.std.specs.Prelude.{◌≡◌, ℕ, List, [], ◌∷◌, ◌++◌, Some, codes, decimal}
use Rattle.hex.specs.Hex.{encode_lower}
use Rattle.json.specs.Json.{Json, number, string, array, object, Items, no_items, item, Members, no_members, member, document}
use Rattle.json.specs.Print.{print}
use Rattle.json.specs.Tree.{json_tokens}

-- the values of an array
abbrev pub items_of : List Json → Items
items_of [] = no_items
items_of (value ∷ rest) = item value (items_of rest)

-- the members of an object: the key and the value of each
abbrev pub members_of : List (List ℕ × Json) → Members
members_of [] = no_members
members_of (pair ∷ rest) = member pair.0 pair.1 (members_of rest)

-- an array of these values
abbrev pub array_of : List Json → Json
array_of values = array (items_of values)

-- an object of these members, in this order
abbrev pub object_of : List (List ℕ × Json) → Json
object_of members = object (members_of members)

-- a number, in decimal
abbrev pub number_json : ℕ → Json
number_json n = number (decimal n)

-- bytes, in lower-case hexadecimal
abbrev pub bytes_json : List ℕ → Json
bytes_json bytes = string (encode_lower bytes)

-- the line of a value: its text, which has no space between tokens, and a newline
abbrev pub line_of : Json → List ℕ
line_of value = print (json_tokens value) ++ codes "\n"

-- the line without its newline is a JSON document, and this is its value
abbrev pub IsJsonLine : List ℕ → Json → Type 0
IsJsonLine line value = (text : List ℕ) × (line ≡ text ++ codes "\n") × (document text ≡ Some value)
