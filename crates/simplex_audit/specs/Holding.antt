-- What a ledger holds, and what it stores.
use Rattle.std.specs.Prelude.{◌≡◌, ℕ, List, ◌++◌, map, Contains, IsTrue}
use Rattle.std.specs.List.{flat_map}
use Rattle.simplex_evidence.specs.declared.types.activity.Activity.{Activity}
use Rattle.simplex_scheme.specs.Committees.{Schedule}
use Rattle.simplex_rules.specs.Evidence.{IsEvidence}
use Rattle.simplex_rules.specs.Laws.{AccusesExactly}
use Rattle.simplex_rules.specs.Accusation.{Accusation, is_accused, accused_by}
use Rattle.simplex_rules.specs.Rules.{valid_votes}
use Rattle.simplex_rules.specs.Values.{activity_of, evidence_value}
use Rattle.simplex_rules.specs.declared.evidence.Evidence.{Evidence}
use Rattle.simplex_audit.specs.Auditor.{Stands, fed_of}
use Rattle.simplex_audit.specs.Basis.{Basis}
use Rattle.simplex_stream.specs.Messages.{AreMessages}
use Rattle.simplex_audit.specs.declared.ledger.Ledger.{Ledger}

-- how many bytes a ledger was fed
abbrev pub bytes_fed : {S D P G : Type 0} → Ledger S D P G → ℕ
bytes_fed ledger = fed_of ledger.auditor

-- a ledger of these committees was fed this stream, and nothing else
abbrev pub WasFed : {S D C P G : Type 0} → (Schedule S → Basis S D C P G) → Schedule S → Ledger S D P G → List ℕ → Type 0
WasFed basis committees ledger stream = Stands basis committees ledger.auditor stream

-- es is the evidence of the valid votes of the stream's messages, up to its end or first fault: in the order of rounds, signers
-- and kinds, each once, and nobody accused left out.
pub record IsEvidenceOf {S D C P G : Type 0} (basis : Basis S D C P G) (stream : List ℕ)
    (es : List (Evidence S D P G)) : Type 0 where
  pub messages : List (Activity S D C P G)
  pub rest : List ℕ
  pub are_messages : AreMessages basis.format stream messages rest
  pub evidence_is : IsEvidence basis.rules.eq (valid_votes basis.rules messages) (map evidence_value es)
  pub names : AccusesExactly basis.rules.eq (valid_votes basis.rules messages) (map evidence_value es)

-- evidence accuses a signer, in a round, with a kind of contradiction
abbrev pub Accuses : {S D P G : Type 0} → List (Evidence S D P G) → Accusation → Type 0
Accuses es n = Contains (map accused_by (map evidence_value es)) n

-- What is held after stored evidence and then further messages: the evidence of the votes of both. So it accuses everyone whom
-- the stored evidence or the further messages alone accuse, and nobody whom the messages before and the further ones together
-- do not accuse.
pub record HoldsBoth {S D C P G : Type 0} (basis : Basis S D C P G) (before : List (Activity S D C P G))
    (stored : List (Evidence S D P G)) (further : List (Activity S D C P G)) (held : List (Evidence S D P G)) : Type 0 where
  pub evidence_is : IsEvidence basis.rules.eq (valid_votes basis.rules (map activity_of stored ++ further))
      (map evidence_value held)
  pub names : AccusesExactly basis.rules.eq (valid_votes basis.rules (map activity_of stored ++ further))
      (map evidence_value held)
  pub stay : (n : Accusation) → Accuses stored n → Accuses held n
  pub more : (n : Accusation) → IsTrue (is_accused basis.rules.eq (valid_votes basis.rules further) n) → Accuses held n
  pub only : (n : Accusation) → Accuses held n →
      IsTrue (is_accused basis.rules.eq (valid_votes basis.rules (before ++ further)) n)

-- The bytes encode the evidence of the stream as messages, in order. That evidence is also the evidence of the bytes, and the
-- only one. A piece behind the bytes is read as it is alone, and what is held then is the evidence of both.
pub record IsStored {S D C P G : Type 0} (basis : Basis S D C P G) (stream bytes : List ℕ) : Type 0 where
  pub evidence : List (Evidence S D P G)
  pub evidence_is : IsEvidenceOf basis stream evidence
  pub encoded : bytes ≡ flat_map basis.format.encoding (map activity_of evidence)
  pub again : IsEvidenceOf basis bytes evidence
  pub only : (held : List (Evidence S D P G)) → IsEvidenceOf basis bytes held →
      map evidence_value evidence ≡ map evidence_value held
  pub reads : (piece rest : List ℕ) (further : List (Activity S D C P G)) → AreMessages basis.format piece further rest →
      AreMessages basis.format (bytes ++ piece) (map activity_of evidence ++ further) rest
  pub then : (piece rest : List ℕ) (further : List (Activity S D C P G)) (held : List (Evidence S D P G)) →
      AreMessages basis.format piece further rest → IsEvidenceOf basis (bytes ++ piece) held →
      HoldsBoth basis evidence_is.messages evidence further held
