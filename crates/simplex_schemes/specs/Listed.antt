-- Certificates that list attestations: which they are, how they are encoded and how they are read.
use Rattle.std.specs.Prelude.{ℕ, zero, suc, ◌+◌, ◌<◌, ◌≤◌, ◌^◌, List, [], ◌∷◌, ◌++◌, length, Ok, Err, nat_lt, nat_le, ◌==◌, ◌||◌, if◌then◌else◌, codes, All, AllPairs}
use Rattle.std.specs.List.{flat_map}
use Rattle.simplex_base.specs.Format.{Format}
use Rattle.simplex_base.specs.Reading.{Reading, Refusal, invalid, ◌>>=◌}
use Rattle.simplex_base.specs.Varint.{number_32}
use Rattle.simplex_scheme.specs.Attestation.{attestation_format}
use Rattle.simplex_scheme.specs.declared.scheme.Attestation.{Attestation}

-- each signer is below those after it, so no two have the same signer
abbrev pub SignersAscend : {S P G : Type 0} → List (Attestation S P G) → Type 0
SignersAscend attestations = AllPairs (λ a b. a.signer < b.signer) attestations

-- the attestations of a certificate: from 1 to 2^32 - 1, with ascending signers
pub record AreListed {S P G : Type 0} (attestations : List (Attestation S P G)) : Type 0 where
  pub some : 0 < length attestations
  pub few : length attestations < 2 ^ 32
  pub ascending : SignersAscend attestations

-- they are at most as many as the bound, and each signer is below it
pub record ListedFits {S P G : Type 0} (signature : Format G) (bound : ℕ)
    (attestations : List (Attestation S P G)) : Type 0 where
  pub listed : AreListed attestations
  pub count : length attestations ≤ bound
  pub below : All (λ a. a.signer < bound) attestations
  pub each : All (attestation_format signature).is_value attestations

-- the count, and then the attestations
abbrev pub listed_encoding : {S P G : Type 0} → Format G → List (Attestation S P G) → List ℕ
listed_encoding signature attestations =
    number_32.encoding (length attestations) ++ flat_map (attestation_format signature).encoding attestations

abbrev pub bad_count : Refusal
bad_count = invalid (codes "simplex_messages::Listed") (codes "count out of range")

abbrev pub bad_signer : Refusal
bad_signer = invalid (codes "simplex_messages::Listed") (codes "signers out of order or range")

-- an attestation whose signer is from least on and below the bound
abbrev pub attestation_at : {S P G : Type 0} → Format G → ℕ → ℕ → List ℕ → Reading (Attestation S P G)
attestation_at signature bound least bytes = (attestation_format signature).reading bytes >>= λ read.
    if nat_lt read.0.signer least || nat_le bound read.0.signer then Err bad_signer else Ok read

-- a number of attestations, the first signer from least on and each further one above the one before it
unfoldable pub attestations_at : {S P G : Type 0} → Format G → ℕ → ℕ → ℕ → List ℕ → Reading (List (Attestation S P G))
attestations_at signature bound least zero bytes = Ok ([], bytes)
attestations_at signature bound least (suc count) bytes =
    attestation_at signature bound least bytes >>= λ first.
    attestations_at signature bound (first.0.signer + 1) count first.1 >>= λ others. Ok (first.0 ∷ others.0, others.1)

-- the count, and then that many attestations
abbrev pub listed_at : {S P G : Type 0} → Format G → ℕ → List ℕ → Reading (List (Attestation S P G))
listed_at signature bound bytes = number_32.reading bytes >>= λ count.
    if count.0 == 0 || nat_lt bound count.0 then Err bad_count else attestations_at signature bound 0 count.0 count.1
