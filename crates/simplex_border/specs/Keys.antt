-- Keys of committees of the plain scheme, one after the other.
use Rattle.std.specs.List.{range_with_len, AllZip}
use Rattle.std.specs.Prelude.{◌≡◌, ◌≢◌, ℕ, ◌*◌, ◌/◌, List, [], ◌∷◌, length, map, take, drop, sum, All, AllPairs}
use Rattle.simplex_schemes.specs.Plain.{PlainScheme}
use Rattle.simplex_schemes.specs.PlainCommittee.{IsPlainCommittee}
use Rattle.simplex_scheme.specs.Committees.{Schedule, Every, Listed}
use Rattle.simplex_border.specs.Sizes.{AreCommitteeSizes}

-- the key at a place: the 32 bytes from 32 times the place on
abbrev pub key_at : List ℕ → ℕ → List ℕ
key_at bytes place = take 32 (drop (32 * place) bytes)

-- the keys, one for each 32 bytes
abbrev pub keys_in : List ℕ → List (List ℕ)
keys_in bytes = map (key_at bytes) (range_with_len 0 (length bytes / 32))

abbrev pub HasNoKeyTwice : List ℕ → Type 0
HasNoKeyTwice bytes = AllPairs (λ a b. a ≢ b) (keys_in bytes)

-- the bytes of the keys of each committee: the first has as many keys as the first size says, the next stand behind
abbrev pub parts_of : List ℕ → List ℕ → List (List ℕ)
parts_of [] bytes = []
parts_of (size ∷ sizes) bytes = take (32 * size) bytes ∷ parts_of sizes (drop (32 * size) bytes)

-- The sizes are those of committees, and their keys have so many bytes: 32 for each participant.
abbrev pub IsLengthOfKeys : List ℕ → List ℕ → ℕ → Type 0
IsLengthOfKeys epochs sizes size = AreCommitteeSizes epochs sizes × (size ≡ 32 * sum sizes)

-- The bytes are the keys of committees of these sizes, and no key stands twice in one of them.
pub record AreKeys (epochs sizes bytes : List ℕ) : Type 0 where
  pub length_is : IsLengthOfKeys epochs sizes (length bytes)
  pub distinct : All HasNoKeyTwice (parts_of sizes bytes)

-- The committees are those of the keys: without epochs one for every epoch, of all the keys; else for each epoch one of the
-- keys at its place. The keys of a committee may stand in any order: a participant's number is the place of its key among them
-- in ascending order.
abbrev pub AreOfKeys : List ℕ → List ℕ → List ℕ → List ℕ → Schedule PlainScheme → Type 0
AreOfKeys namespace epochs sizes bytes (Every committee) =
    (epochs ≡ []) × IsLengthOfKeys epochs sizes (length bytes) × IsPlainCommittee namespace (keys_in bytes) committee
AreOfKeys namespace epochs sizes bytes (Listed pairs) =
    (epochs ≢ []) × IsLengthOfKeys epochs sizes (length bytes) × (map (λ p. p.0) pairs ≡ epochs)
    × AllZip (λ part p. IsPlainCommittee namespace (keys_in part) p.1) (parts_of sizes bytes) pairs
