-- The JSON of the parts of a message.
use Rattle.std.specs.Prelude.{ℕ, List, [], ◌∷◌, ◌++◌, true, false, Option, Some, None, codes}
use Rattle.json.specs.Json.{Json, boolean, string}
use Rattle.simplex_inspect.specs.Values.{object_of, array_of, number_json, bytes_json}
use Rattle.simplex_inspect.specs.declared.validity.Validity.{Validity}
use Rattle.simplex_inspect.specs.declared.validity.Validity.TheVariants.{Valid, NoCommittee, OutsideSigner, WrongSignature, TooFew, WrongAttestation}

-- what is not valid, and why
abbrev pub invalid_members : List ℕ → List (List ℕ × Json)
invalid_members why = (codes "valid", boolean false) ∷ (codes "why", string why) ∷ []

-- whether something is valid, and why not
abbrev pub judged_members : Validity → List (List ℕ × Json)
judged_members Valid = (codes "valid", boolean true) ∷ []
judged_members NoCommittee = invalid_members (codes "no committee for the epoch")
judged_members OutsideSigner = invalid_members (codes "signer outside the committee")
judged_members WrongSignature = invalid_members (codes "signature does not verify")
judged_members TooFew = invalid_members (codes "fewer signatures than a quorum")
judged_members WrongAttestation = invalid_members (codes "a listed signature is not valid")

-- the members of a validity; there are none without committees
abbrev pub validity_members : Option Validity → List (List ℕ × Json)
validity_members None = []
validity_members (Some validity) = judged_members validity

-- a signature with its signer and its validity
abbrev pub signature_json : ℕ → List ℕ → Option Validity → Json
signature_json signer signature validity =
    object_of ((codes "signer", number_json signer) ∷ (codes "signature", bytes_json signature) ∷ validity_members validity)

-- the members of a proposal
abbrev pub proposal_members : ℕ → List ℕ → List (List ℕ × Json)
proposal_members parent payload = (codes "parent", number_json parent) ∷ (codes "payload", bytes_json payload) ∷ []

-- the members before a message's statements: its offset, its length in bytes, its kind and its round
abbrev pub head_members : ℕ → ℕ → List ℕ → ℕ → ℕ → List (List ℕ × Json)
head_members offset len kind epoch view =
    (codes "offset", number_json offset) ∷ (codes "length", number_json len) ∷ (codes "kind", string kind)
    ∷ (codes "epoch", number_json epoch) ∷ (codes "view", number_json view) ∷ []

-- an object of some members, a named list of values, and a validity
abbrev pub listing_json : List (List ℕ × Json) → List ℕ → List Json → Option Validity → Json
listing_json members name values validity = object_of (members ++ (name, array_of values) ∷ validity_members validity)
