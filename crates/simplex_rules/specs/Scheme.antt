-- How the committees of a signature scheme judge.
use Rattle.std.specs.Prelude.{ℕ, Bool, List}
use Rattle.simplex_scheme.specs.Committees.{Schedule, certified_by, committee_of, size_by, valid_by}
use Rattle.simplex_scheme.specs.Subject.{SubjectValue, round_of}
use Rattle.simplex_scheme.specs.declared.scheme.Attestation.{Attestation}
use Rattle.simplex_rules.specs.Rules.{Rules}

-- How committees judge votes and certificates. S, P and G are the types of committees, their keys and their signatures, C that
-- of certificates, and D that of payloads.
pub record Scheme (S D C P G : Type 0) : Type 0 where
  -- whether two payloads are the same
  pub eq : D → D → Bool
  -- the keys of a committee's participants
  pub keys : S → List P
  -- whether a signature of this signer is valid for the subject, under a committee
  pub good : S → SubjectValue D → ℕ → G → Bool
  -- whether a certificate certifies the subject, under a committee
  pub certified : S → SubjectValue D → C → Bool
  -- the attestations that a certificate lists
  pub listed : C → List (Attestation S P G)

-- the scheme of these tests
abbrev pub scheme_of : {S D C P G : Type 0} → (D → D → Bool) → (S → List P) → (S → SubjectValue D → ℕ → G → Bool) →
    (S → SubjectValue D → C → Bool) → (C → List (Attestation S P G)) → Scheme S D C P G
scheme_of eq keys good certified listed =
    record { eq = eq; keys = keys; good = good; certified = certified; listed = listed }

-- each vote and each certificate is judged by the committee of its round's epoch
abbrev pub rules_of : {S D C P G : Type 0} → Scheme S D C P G → Schedule S → Rules S D C P G
rules_of scheme schedule = record {
  eq = scheme.eq;
  good = λ x. valid_by scheme.good (committee_of schedule (round_of x).epoch) x;
  certified = λ x. certified_by scheme.certified (committee_of schedule (round_of x).epoch) x;
  listed = scheme.listed;
  size = λ epoch. size_by scheme.keys (committee_of schedule epoch);
}
