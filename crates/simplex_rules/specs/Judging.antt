-- How strictly votes and certificates are judged.
use Rattle.std.specs.Prelude.{◌≡◌, ℕ, All, Bool, true, false, ◌&&◌, List, length, nat_lt}
use Rattle.std.specs.BTreeSet.{contains}
use Rattle.simplex_base.specs.Positions.{Round}
use Rattle.simplex_scheme.specs.Subject.{SubjectValue, round_of}
use Rattle.simplex_scheme.specs.Committees.{Schedule}
use Rattle.simplex_scheme.specs.declared.scheme.Attestation.{Attestation}
use Rattle.simplex_rules.specs.Accusation.{round_cmp, signer_cmp, signer_in}
use Rattle.simplex_rules.specs.Independence.{is_from}
use Rattle.simplex_rules.specs.Rules.{Rules}
use Rattle.simplex_rules.specs.Scheme.{Scheme, rules_of}
use Rattle.simplex_rules.specs.declared.judge.Signatures.{Signatures}
use Rattle.simplex_rules.specs.declared.judge.Signatures.TheVariants as signatures
use Rattle.simplex_rules.specs.declared.judging.Judging.{Judging}
use Rattle.simplex_rules.specs.declared.judging.Judging.TheVariants.{Verified, Claimed, Suspects, From}

-- whether signatures are known to be valid
abbrev pub are_known : Signatures → Bool
are_known signatures.Verified = true
are_known signatures.Unverified = false

-- what is said of the signatures of some attestations holds: they are valid if they are known to be
abbrev pub HoldsOf : {S P G : Type 0} → Signatures → (ℕ → G → Bool) → List (Attestation S P G) → Type 0
HoldsOf said good attestations = said ≡ signatures.Verified → All (λ a. good a.signer a.signature ≡ true) attestations

-- whether a signer's votes in a round are verified
abbrev pub is_verified : Judging → Round → ℕ → Bool
is_verified Verified round signer = true
is_verified Claimed round signer = false
is_verified (Suspects suspects) round signer = contains signer_cmp suspects.signers (signer_in round signer)
is_verified (From floor) round signer = is_from floor round

-- whether a round's certificates are verified
abbrev pub are_verified : Judging → Round → Bool
are_verified Verified round = true
are_verified Claimed round = false
are_verified (Suspects suspects) round = contains round_cmp suspects.rounds round
are_verified (From floor) round = is_from floor round

-- which signatures are valid under a committee that judges so
abbrev pub valid_under : {S D P G : Type 0} → (S → List P) → (S → SubjectValue D → ℕ → G → Bool) → Judging → S →
    SubjectValue D → ℕ → G → Bool
valid_under keys good Verified = good
valid_under keys good Claimed = λ committee x signer signature. nat_lt signer (length (keys committee))
valid_under keys good (Suspects suspects) = λ committee x signer signature.
    contains signer_cmp suspects.signers (signer_in (round_of x) signer) && good committee x signer signature
valid_under keys good (From floor) = λ committee x signer signature.
    is_from floor (round_of x) && good committee x signer signature

-- which certificates certify under a committee that judges so
abbrev pub certified_under : {S D C : Type 0} → (S → SubjectValue D → C → Bool) → Judging → S → SubjectValue D → C → Bool
certified_under certified Verified = certified
certified_under certified Claimed = λ committee x certificate. false
certified_under certified (Suspects suspects) = λ committee x certificate.
    contains round_cmp suspects.rounds (round_of x) && certified committee x certificate
certified_under certified (From floor) = λ committee x certificate.
    is_from floor (round_of x) && certified committee x certificate

-- the same scheme, whose committees judge so
abbrev pub scheme_under : {S D C P G : Type 0} → Scheme S D C P G → Judging → Scheme S D C P G
scheme_under scheme judging = record {
  eq = scheme.eq;
  keys = scheme.keys;
  good = valid_under scheme.keys scheme.good judging;
  certified = certified_under scheme.certified judging;
  listed = scheme.listed;
}

-- each vote and each certificate is judged so by the committee of its round's epoch
abbrev pub rules_under : {S D C P G : Type 0} → Scheme S D C P G → Judging → Schedule S → Rules S D C P G
rules_under scheme judging = rules_of (scheme_under scheme judging)
