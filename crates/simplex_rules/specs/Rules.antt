-- The rules by which messages are judged.
use Rattle.std.specs.Prelude.{◌≡◌, ℕ, ◌<◌, ◌≤◌, Bool, true, List, filter}
use Rattle.std.specs.Cmp.{IsEquivalence}
use Rattle.std.specs.List.{flat_map}
use Rattle.simplex_scheme.specs.Committee.{IsQuorum}
use Rattle.simplex_scheme.specs.Subject.{SubjectValue, round_of}
use Rattle.simplex_scheme.specs.declared.scheme.Attestation.{Attestation}
use Rattle.simplex_votes.specs.Votes.{SignedVote}
use Rattle.simplex_evidence.specs.Activity.{votes_in}
use Rattle.simplex_evidence.specs.declared.types.activity.Activity.{Activity}

-- The rules by which messages are judged. S, P and G are the types of the scheme, its keys and its signatures, C that of
-- its certificates, and D that of payloads.
pub record Rules (S D C P G : Type 0) : Type 0 where
  -- whether two payloads are the same
  pub eq : D → D → Bool
  -- whether a signature of this signer is valid for the subject
  pub good : SubjectValue D → ℕ → G → Bool
  -- whether a certificate certifies the subject
  pub certified : SubjectValue D → C → Bool
  -- the attestations that a certificate lists
  pub listed : C → List (Attestation S P G)
  -- how many participants the committee of an epoch has, 0 where there is no committee
  pub size : ℕ → ℕ

-- whether a vote is valid
abbrev pub is_valid : {S D C P G : Type 0} → Rules S D C P G → SignedVote D G → Bool
is_valid rules v = rules.good v.subject v.signer v.signature

-- the valid votes of messages, in their order
abbrev pub valid_votes : {S D C P G : Type 0} → Rules S D C P G → List (Activity S D C P G) → List (SignedVote D G)
valid_votes rules messages = filter (is_valid rules) (flat_map (votes_in rules.listed) messages)

-- Equality of payloads is an equivalence. The signer of a valid signature is in the committee of the subject's epoch, and
-- a certificate that certifies a subject lists a quorum of that committee.
pub record AreLawful {S D C P G : Type 0} (rules : Rules S D C P G) : Type 0 where
  pub payloads : IsEquivalence rules.eq
  pub members : (x : SubjectValue D) (signer : ℕ) (signature : G) → rules.good x signer signature ≡ true →
      signer < rules.size (round_of x).epoch
  pub someone : (x : SubjectValue D) (certificate : C) → rules.certified x certificate ≡ true →
      1 ≤ rules.size (round_of x).epoch
  pub quorums : (x : SubjectValue D) (certificate : C) → rules.certified x certificate ≡ true →
      IsQuorum (rules.size (round_of x).epoch) (rules.good x) (rules.listed certificate)

-- The signer of a valid signature is in the committee of the subject's epoch, and a certified subject has a committee there.
-- This much of `AreLawful` holds however strictly votes and certificates are judged.
pub record HaveCommittees {S D C P G : Type 0} (rules : Rules S D C P G) : Type 0 where
  pub members : (x : SubjectValue D) (signer : ℕ) (signature : G) → rules.good x signer signature ≡ true →
      signer < rules.size (round_of x).epoch
  pub someone : (x : SubjectValue D) (certificate : C) → rules.certified x certificate ≡ true →
      1 ≤ rules.size (round_of x).epoch
