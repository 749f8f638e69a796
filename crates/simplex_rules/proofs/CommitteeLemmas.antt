-- The rules by which committees judge.
use Rattle.simplex_rules.proofs.Prelude.{signer_in, Scheme, All, AreLawful, Attestation, Bool, Claimed, HaveCommittees, IsEquivalence, IsQuorum, Judging, List, None, Schedule, Some, SubjectValue, Suspects, Verified, and_parts, are_known, certified_by, certified_under, committee_of, contains, false, false≢true, if◌then◌else◌, keys, length, ltb-true, refl, round_cmp, round_of, rules_of, signer_cmp, size_by, subst, sym, true, valid_by, valid_under, ℕ, ◌&&◌, ◌<◌, ◌≡◌, ◌≤◌, From, Round, is_from}
use Rattle.simplex_rules.specs.Judging.{HoldsOf, are_verified}
use Rattle.simplex_rules.specs.declared.judge.Signatures.{Signatures}
use Rattle.simplex_rules.specs.declared.judge.Signatures.TheVariants as signatures

-- ---- the rules are lawful

module _ {S D C P G : Type 0} (scheme : Scheme S D C P G) (schedule : Schedule S)
    (members : (s : S) (x : SubjectValue D) (signer : ℕ) (signature : G) → scheme.good s x signer signature ≡ true →
    signer < length (scheme.keys s))
    (someone : (epoch : ℕ) (s : S) → committee_of schedule epoch ≡ Some s → 1 ≤ length (scheme.keys s)) where
  pub rules_committees : HaveCommittees (rules_of scheme schedule)
  rules_committees = record {
    members = λ x signer signature.
        elim (committee_of schedule (round_of x).epoch) as (λ o. valid_by scheme.good o x signer signature ≡ true →
        signer < size_by scheme.keys o) [ None ↦ λ h. absurd (false≢true h) | Some s ↦ members s x signer signature ];
    someone = λ x c.
        (elim (committee_of schedule (round_of x).epoch) as (λ o. ((s : S) → o ≡ Some s → 1 ≤ length (scheme.keys s)) →
        certified_by scheme.certified o x c ≡ true → 1 ≤ size_by scheme.keys o)
        [ None ↦ λ some h. absurd (false≢true h) | Some s ↦ λ some h. some s refl ]) (someone (round_of x).epoch);
  }

  pub rules_lawful : IsEquivalence scheme.eq →
      ((s : S) (x : SubjectValue D) (c : C) → scheme.certified s x c ≡ true →
      IsQuorum (length (scheme.keys s)) (scheme.good s x) (scheme.listed c)) →
      AreLawful (rules_of scheme schedule)
  rules_lawful payloads quorums = record {
    payloads = payloads;
    members = rules_committees.members;
    someone = rules_committees.someone;
    quorums = λ x c. elim (committee_of schedule (round_of x).epoch) as (λ o. certified_by scheme.certified o x c ≡ true →
        IsQuorum (size_by scheme.keys o) (valid_by scheme.good o x) (scheme.listed c)) [
          | None ↦ λ h. absurd (false≢true h)
          | Some s ↦ λ h.
              let q = quorums s x c h in record { distinct = q.distinct; enough = q.enough; each_good = q.each_good }
        ];
  }

-- ---- however strictly committees judge, valid votes are of committees

-- the signer of a valid vote is in the committee
pub members_under : {S D P G : Type 0} (keys : S → List P) (good : S → SubjectValue D → ℕ → G → Bool) →
    ((s : S) (x : SubjectValue D) (signer : ℕ) (signature : G) → good s x signer signature ≡ true → signer < length (keys s)) →
    (judging : Judging) (s : S) (x : SubjectValue D) (signer : ℕ) (signature : G) →
    valid_under keys good judging s x signer signature ≡ true → signer < length (keys s)
members_under keys good members Verified s x signer signature h = members s x signer signature h
members_under keys good members Claimed s x signer signature h = ltb-true _ _ h
members_under keys good members (Suspects suspects) s x signer signature h =
    members s x signer signature
    (and_parts (contains signer_cmp suspects.signers (signer_in (round_of x) signer)) (good s x signer signature) h).1
members_under keys good members (From floor) s x signer signature h =
    members s x signer signature (and_parts (is_from floor (round_of x)) (good s x signer signature) h).1

-- a certificate that certifies under any judging certifies under the scheme
pub certified_by_scheme : {S D C : Type 0} (certified : S → SubjectValue D → C → Bool) (judging : Judging) (s : S)
    (x : SubjectValue D) (certificate : C) → certified_under certified judging s x certificate ≡ true →
    certified s x certificate ≡ true
certified_by_scheme certified Verified s x certificate h = h
certified_by_scheme certified Claimed s x certificate h = absurd (false≢true h)
certified_by_scheme certified (Suspects suspects) s x certificate h =
    (and_parts (contains round_cmp suspects.rounds (round_of x)) (certified s x certificate) h).1
certified_by_scheme certified (From floor) s x certificate h =
    (and_parts (is_from floor (round_of x)) (certified s x certificate) h).1

-- a certificate certifies as the scheme says, if the certificates of its round are verified
pub certified_if_verified : {S D C : Type 0} (certified : S → SubjectValue D → C → Bool) (judging : Judging) (s : S)
    (x : SubjectValue D) (certificate : C) →
    certified_under certified judging s x certificate ≡ (are_verified judging (round_of x) && certified s x certificate)
certified_if_verified certified Verified s x certificate = refl
certified_if_verified certified Claimed s x certificate = refl
certified_if_verified certified (Suspects suspects) s x certificate = refl
certified_if_verified certified (From floor) s x certificate = refl

-- a vote that is valid under any judging that verifies certificates is valid under the scheme
pub valid_by_scheme : {S D P G : Type 0} (keys : S → List P) (good : S → SubjectValue D → ℕ → G → Bool) (judging : Judging)
    (s : S) (round : Round) → are_verified judging round ≡ true → (x : SubjectValue D) (signer : ℕ) (signature : G) →
    valid_under keys good judging s x signer signature ≡ true → good s x signer signature ≡ true
valid_by_scheme keys good Verified s round verified x signer signature h = h
valid_by_scheme keys good Claimed s round verified x signer signature h = absurd (false≢true verified)
valid_by_scheme keys good (Suspects suspects) s round verified x signer signature h =
    (and_parts (contains signer_cmp suspects.signers (signer_in (round_of x) signer)) (good s x signer signature) h).1
valid_by_scheme keys good (From floor) s round verified x signer signature h =
    (and_parts (is_from floor (round_of x)) (good s x signer signature) h).1

-- ---- which signatures are known to be valid

pub unverified : signatures.Unverified ≡ signatures.Verified → ⊥
unverified same = cc

-- whether they are verified
abbrev pub known_if : Bool → Signatures
known_if verified = if verified then signatures.Verified else signatures.Unverified

pub when_known : (verified : Bool) (given : Signatures) → given ≡ known_if verified → given ≡ signatures.Verified →
    verified ≡ true
when_known true given is known = refl
when_known false given is known = absurd cc

-- what is known of signatures says whether they are
pub known_tells : (verified : Bool) → are_known (known_if verified) ≡ verified
known_tells true = refl
known_tells false = refl

-- of a certificate that is found to certify, the listed signatures are known to be valid
pub holds_of_listed : {S P G : Type 0} (good : ℕ → G → Bool) (listed given : List (Attestation S P G))
    (changes certifies : Bool) (said : Signatures) → given ≡ listed → said ≡ known_if (changes && certifies) →
    (certifies ≡ true → All (λ a. good a.signer a.signature ≡ true) listed) → HoldsOf said good given
holds_of_listed good listed given changes certifies said same is each known =
    subst (All (λ a. good a.signer a.signature ≡ true)) (sym same)
    (each (and_parts changes certifies (when_known (changes && certifies) said is known)).1)
