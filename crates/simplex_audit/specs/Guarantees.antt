-- What holds of every stream, and of every report of it.
use Rattle.std.specs.Prelude.{◌≡◌, ℕ, List, [], ◌++◌, All, IsTrue}
use Rattle.std.specs.List.{flat_map}
use Rattle.simplex_evidence.specs.Contradiction.{Equivocation}
use Rattle.simplex_evidence.specs.declared.types.activity.Activity.{Activity}
use Rattle.simplex_rules.specs.Evidence.{IsEvidence, IsEquivocation}
use Rattle.simplex_rules.specs.Laws.{EvidenceIsUnique, AccusesExactly, ReorderingAccusesSame}
use Rattle.simplex_rules.specs.Accusation.{Accusation, is_accused}
use Rattle.simplex_rules.specs.Rules.{valid_votes}
use Rattle.simplex_rules.specs.Splits.{AreSplits}
use Rattle.simplex_rules.specs.SplitLaws.{EnoughAreAccused, SignersAreAccountable, SplitsAreUnique, SplitsHaveAccused}
use Rattle.simplex_audit.specs.Basis.{Basis}
use Rattle.simplex_stream.specs.Messages.{AreMessages}
use Rattle.simplex_audit.specs.Report.{IsReport, evidence_in, as_messages}
use Rattle.simplex_audit.specs.declared.audit.Report.{Report}

-- ---- of a stream

module _ {S D C P G : Type 0} (basis : Basis S D C P G) (stream : List ℕ) where
  -- something holds of the messages of the stream
  abbrev pub OfMessages : (List (Activity S D C P G) → Type 0) → Type 0
  OfMessages Holds =
      (messages : List (Activity S D C P G)) (rest : List ℕ) → AreMessages basis.format stream messages rest → Holds messages

  -- the stream has one list of messages, and one undecoded tail
  abbrev pub HasOneReading : Type 0
  HasOneReading =
      (messages others : List (Activity S D C P G)) (rest left : List ℕ) →
      AreMessages basis.format stream messages rest → AreMessages basis.format stream others left →
      (messages ≡ others) × (rest ≡ left)

module _ {S D C P G : Type 0} (basis : Basis S D C P G) where
  -- which signers messages accuse does not depend on the order of the messages
  abbrev pub AccusedInAnyOrder : Type 0
  AccusedInAnyOrder = (messages : List (Activity S D C P G)) → ReorderingAccusesSame basis.rules messages

  -- Evidence of any messages accuses exactly the signers, rounds and kinds with two of their valid votes that contradict, each
  -- evidence is two such votes, and no other list is evidence of these messages.
  pub record EvidenceIsDetermined : Type 0 where
    pub names : (messages : List (Activity S D C P G)) (es : List (Equivocation D G)) →
        IsEvidence basis.rules.eq (valid_votes basis.rules messages) es →
        AccusesExactly basis.rules.eq (valid_votes basis.rules messages) es
    pub sound : (messages : List (Activity S D C P G)) (es : List (Equivocation D G)) →
        IsEvidence basis.rules.eq (valid_votes basis.rules messages) es →
        All (IsEquivocation basis.rules.eq (valid_votes basis.rules messages)) es
    pub only : (messages : List (Activity S D C P G)) (es : List (Equivocation D G)) →
        IsEvidence basis.rules.eq (valid_votes basis.rules messages) es →
        EvidenceIsUnique basis.rules.eq (valid_votes basis.rules messages) es

  -- a signer whom the stream's messages accuse stays accused when any bytes are appended
  abbrev pub AccusedStayWithMore : List ℕ → Type 0
  AccusedStayWithMore stream =
      (more : List ℕ) (n : Accusation) → OfMessages basis stream (λ messages. OfMessages basis (stream ++ more) (λ later.
      IsTrue (is_accused basis.rules.eq (valid_votes basis.rules messages) n) →
      IsTrue (is_accused basis.rules.eq (valid_votes basis.rules later) n)))

  -- two certified messages of a round that contradict accuse at least f + 1 signers there, f being the fault bound of the
  -- committee of the round's epoch
  abbrev pub ConflictsAccuseEnough : List ℕ → Type 0
  ConflictsAccuseEnough stream = OfMessages basis stream (EnoughAreAccused basis.rules)

  -- every signer of both certificates is accused there
  abbrev pub SignersOfBothAreAccused : List ℕ → Type 0
  SignersOfBothAreAccused stream = OfMessages basis stream (SignersAreAccountable basis.rules)

-- ---- of a report

module _ {S D C P G : Type 0} (basis : Basis S D C P G) (stream : List ℕ) (report : Report S D P G) where
  -- the evidence accuses exactly the signers, rounds and kinds with two valid votes that contradict
  abbrev pub AccusesExactlyThem : Type 0
  AccusesExactlyThem =
      OfMessages basis stream
      (λ messages. AccusesExactly basis.rules.eq (valid_votes basis.rules messages) (evidence_in report))

  -- each evidence is two of the valid votes, which contradict
  abbrev pub ShowsTwoVotes : Type 0
  ShowsTwoVotes =
      OfMessages basis stream
      (λ messages. All (IsEquivocation basis.rules.eq (valid_votes basis.rules messages)) (evidence_in report))

  -- no other list is the evidence of the valid votes
  abbrev pub HasNoOtherEvidence : Type 0
  HasNoOtherEvidence =
      OfMessages basis stream
      (λ messages. EvidenceIsUnique basis.rules.eq (valid_votes basis.rules messages) (evidence_in report))

  -- the splits are the rounds with two certified messages that contradict, in order, each once with the number of signers
  -- accused there and f + 1, which that number reaches; no other list is
  pub record ShowsSplits : Type 0 where
    pub are_splits : OfMessages basis stream (λ messages. AreSplits basis.rules messages report.splits.items)
    pub only : OfMessages basis stream (λ messages. SplitsAreUnique basis.rules messages report.splits.items)
    pub enough : SplitsHaveAccused report.splits.items

-- the evidence, written as messages one after the other, is a stream of these messages, and the evidence of that stream is
-- the same in the same order
pub record ReadsAgain {S D C P G : Type 0} (basis : Basis S D C P G) (report : Report S D P G) : Type 0 where
  pub stream : AreMessages basis.format (flat_map basis.format.encoding (as_messages report)) (as_messages report) []
  pub evidence : IsEvidence basis.rules.eq (valid_votes basis.rules (as_messages report)) (evidence_in report)

-- All that an audit states of a stream and of its report. The evidence accuses exactly the signers of two valid votes that
-- contradict, each by two such votes, and the splits are the rounds with certified messages that contradict.
pub record IsAudit {S D C P G : Type 0} (basis : Basis S D C P G) (stream : List ℕ) (report : Report S D P G) : Type 0 where
  pub report_is : IsReport basis stream report
  pub single : HasOneReading basis stream
  pub names : AccusesExactlyThem basis stream report
  pub sound : ShowsTwoVotes basis stream report
  pub only : HasNoOtherEvidence basis stream report
  pub any_order : AccusedInAnyOrder basis
  pub stays : AccusedStayWithMore basis stream
  pub enough : ConflictsAccuseEnough basis stream
  pub splits : ShowsSplits basis stream report
  pub accountable : SignersOfBothAreAccused basis stream
  pub again : ReadsAgain basis report
