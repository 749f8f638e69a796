-- Committees: how many may lie, how many are a quorum, and what a quorum signs.
use Rattle.std.specs.Prelude.{◌≡◌, ℕ, ◌-◌, ◌/◌, ◌<◌, ◌≤◌, ◌&&◌, Bool, true, false, List, length, map, All, nat_eq, nat_le, IsPermutation, Result, Err, IfErr}
use Rattle.std.specs.List.{IsDistinct, list_all}
use Rattle.std.specs.List.Sorted.{IsStrictlySortedBy}
use Rattle.std.specs.Ordering.{nat_cmp}
use Rattle.std.specs.Set.{distinct_count}
use Rattle.simplex_scheme.specs.declared.scheme.Attestation.{Attestation}
use Rattle.simplex_scheme.specs.declared.scheme.AssemblyError.{AssemblyError}
use Rattle.simplex_scheme.specs.declared.scheme.AssemblyError.TheVariants.{InsufficientAttestations, OutOfMemory}

-- how many of n participants may lie: the greatest f with 3f + 1 ≤ n
abbrev pub faults_of : ℕ → ℕ
faults_of n = (n - 1) / 3

-- how many of n participants are a quorum
abbrev pub quorum_of : ℕ → ℕ
quorum_of n = n - faults_of n

-- who signed
abbrev pub signers_of : {S P G : Type 0} → List (Attestation S P G) → List ℕ
signers_of attestations = map (λ a. a.signer) attestations

-- at least a quorum of n participants, each once, and each signature valid
pub record IsQuorum {S P G : Type 0} (n : ℕ) (good : ℕ → G → Bool) (attestations : List (Attestation S P G)) : Type 0 where
  pub distinct : IsDistinct nat_eq (signers_of attestations)
  pub enough : quorum_of n ≤ length attestations
  pub each_good : All (λ a. good a.signer a.signature ≡ true) attestations

-- whether they are such a quorum
abbrev pub is_quorum : {S P G : Type 0} → ℕ → (ℕ → G → Bool) → List (Attestation S P G) → Bool
is_quorum n good attestations =
    nat_eq (distinct_count nat_eq (signers_of attestations)) (length attestations) &&
    (nat_le (quorum_of n) (length attestations) && list_all (λ a. good a.signer a.signature) attestations)

-- the same attestations, ascending by signer
pub record IsInOrder {S P G : Type 0} (given listed : List (Attestation S P G)) : Type 0 where
  pub same : IsPermutation given listed
  pub ascending : IsStrictlySortedBy nat_cmp (signers_of listed)

-- whether two errors of an assembly are the same: the variant, and the numbers that it gives
abbrev pub same_assembly_error : AssemblyError → AssemblyError → Bool
same_assembly_error (InsufficientAttestations quorum count) (InsufficientAttestations other_quorum other_count) =
    nat_eq quorum other_quorum && nat_eq count other_count
same_assembly_error OutOfMemory OutOfMemory = true
same_assembly_error _ _ = false

-- ---- making a certificate of attestations of n participants

-- fewer than a quorum are refused, with the quorum and how many they are
abbrev pub RefusesFew : {X : Type 0} → ℕ → ℕ → Result X AssemblyError → Type 0
RefusesFew n given result = given < quorum_of n → result ≡ Err (InsufficientAttestations (quorum_of n) given)

-- from a quorum on there is one, unless memory is refused
abbrev pub AssemblesQuorum : {X : Type 0} → ℕ → ℕ → Result X AssemblyError → Type 0
AssemblesQuorum n given result = quorum_of n ≤ given → IfErr result (λ error. error ≡ OutOfMemory)
