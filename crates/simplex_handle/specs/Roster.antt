-- Whose signatures an auditor judges, and of which size they are.
use Rattle.std.specs.Prelude.{◌≡◌, ℕ, List}
use Rattle.simplex_base.specs.Format.{Format}
use Rattle.simplex_scheme.specs.Committees.{Schedule}
use Rattle.simplex_scheme.specs.declared.scheme.Attestation.{Attestation}
use Rattle.simplex_schemes.specs.Plain.{PlainScheme}
use Rattle.simplex_schemes.specs.Vouched.{VouchedScheme}
use Rattle.simplex_audit.specs.Basis.{Basis}

-- The committees of an auditor: of signatures of 48, 64 or 96 bytes, which the caller verifies, or of keys of the plain scheme.
pub data Roster : Type 0 where
  Of48 : Schedule VouchedScheme → Roster
  Of64 : Schedule VouchedScheme → Roster
  Of96 : Schedule VouchedScheme → Roster
  OfKeys : Schedule PlainScheme → Roster

-- these committees, with signatures of this many bytes
abbrev pub IsOfSize : ℕ → Schedule VouchedScheme → Roster → Type 0
IsOfSize size committees (Of48 others) = (size ≡ 48) × (others ≡ committees)
IsOfSize size committees (Of64 others) = (size ≡ 64) × (others ≡ committees)
IsOfSize size committees (Of96 others) = (size ≡ 96) × (others ≡ committees)
IsOfSize size committees (OfKeys others) = ⊥

-- how messages of a scheme are judged and read whose payloads, keys and signatures are bytes
abbrev pub BasisOf : Type 0 → Type 1
BasisOf S = Schedule S → Basis S (List ℕ) (List (Attestation S (List ℕ) (List ℕ))) (List ℕ) (List ℕ)

-- the same for signatures of each size, and for keys
pub record Bases : Type 1 where
  pub of_48 : BasisOf VouchedScheme
  pub of_64 : BasisOf VouchedScheme
  pub of_96 : BasisOf VouchedScheme
  pub of_keys : BasisOf PlainScheme

-- how many bytes the signatures have that the caller verifies, and 0 if it verifies none
abbrev pub size_in : Roster → ℕ
size_in (Of48 committees) = 48
size_in (Of64 committees) = 64
size_in (Of96 committees) = 96
size_in (OfKeys committees) = 0

-- how payloads are encoded, and signatures of each size
pub record Encodings : Type 1 where
  pub payload : Format (List ℕ)
  pub of_48 : Format (List ℕ)
  pub of_64 : Format (List ℕ)
  pub of_96 : Format (List ℕ)
  pub of_keys : Format (List ℕ)

-- how the signatures are encoded
abbrev pub signature_in : Encodings → Roster → Format (List ℕ)
signature_in encodings (Of48 committees) = encodings.of_48
signature_in encodings (Of64 committees) = encodings.of_64
signature_in encodings (Of96 committees) = encodings.of_96
signature_in encodings (OfKeys committees) = encodings.of_keys
