-- Laws of the splits of messages.
use Rattle.std.specs.Prelude.{◌≡◌, ℕ, ◌+◌, ◌-◌, ◌*◌, ◌≤◌, List, length, filter, nat_eq, Some, All, Contains, IsTrue}
use Rattle.std.specs.List.{IsDistinct}
use Rattle.std.specs.Set.{is_member}
use Rattle.simplex_base.specs.Positions.{Round}
use Rattle.simplex_scheme.specs.Committee.{faults_of, signers_of}
use Rattle.simplex_scheme.specs.Subject.{SubjectValue}
use Rattle.simplex_evidence.specs.Activity.{activity_round, subject_and_certificate}
use Rattle.simplex_evidence.specs.declared.types.activity.Activity.{Activity}
use Rattle.simplex_rules.specs.Rules.{Rules, valid_votes}
use Rattle.simplex_rules.specs.Certificates.{messages_contradict}
use Rattle.simplex_rules.specs.Splits.{is_certified_message, is_accused_in, accused_count, AreSplits}
use Rattle.simplex_rules.specs.declared.split.Split.{Split}

-- the signers of both of two certificates
abbrev pub shared_signers : {S D C P G : Type 0} → Rules S D C P G → C → C → List ℕ
shared_signers rules c d = filter (is_member nat_eq (signers_of (rules.listed d))) (signers_of (rules.listed c))

-- in each split at least f + 1 are accused
abbrev pub SplitsHaveAccused : List Split → Type 0
SplitsHaveAccused splits = All (λ s. s.least ≤ s.named) splits

module _ {S D C P G : Type 0} (rules : Rules S D C P G) (messages : List (Activity S D C P G)) where
  -- two of the messages that contradict and are both certified accuse, in their round, more participants of its
  -- committee than may lie
  abbrev pub EnoughAreAccused : Type 0
  EnoughAreAccused =
      (m k : Activity S D C P G) → Contains messages m → Contains messages k →
      IsTrue (messages_contradict rules.eq m k) → IsTrue (is_certified_message rules m) →
      IsTrue (is_certified_message rules k) →
      faults_of (rules.size (activity_round m).epoch) + 1
      ≤ accused_count rules.eq (valid_votes rules messages) (activity_round m)

  -- The signers of both certificates are distinct, there are at least n - 2f of them, which is at least f + 1, and each is
  -- accused in the round, whose committee has n participants and the fault bound f.
  pub record IsAccountable (round : Round) (c d : C) : Type 0 where
    pub distinct : IsDistinct nat_eq (shared_signers rules c d)
    pub many : rules.size round.epoch - 2 * faults_of (rules.size round.epoch) ≤ length (shared_signers rules c d)
    pub more_than_faults : faults_of (rules.size round.epoch) + 1
        ≤ rules.size round.epoch - 2 * faults_of (rules.size round.epoch)
    pub accused : All (λ q. IsTrue (is_accused_in rules.eq (valid_votes rules messages) round q)) (shared_signers rules c d)

  abbrev pub SignersAreAccountable : Type 0
  SignersAreAccountable =
      (m k : Activity S D C P G) (x y : SubjectValue D) (c d : C) → Contains messages m → Contains messages k →
      subject_and_certificate m ≡ Some (x, c) → subject_and_certificate k ≡ Some (y, d) →
      IsTrue (rules.certified x c) → IsTrue (rules.certified y d) →
      IsTrue (messages_contradict rules.eq m k) → IsAccountable (activity_round m) c d

  -- no other list is the splits of the messages
  abbrev pub SplitsAreUnique : List Split → Type 0
  SplitsAreUnique splits = (others : List Split) → AreSplits rules messages others → splits ≡ others
