-- Laws of the evidence in votes, and of the signers whom messages accuse.
use Rattle.std.specs.Prelude.{◌≡◌, ◌↔◌, Bool, List, ◌++◌, map, Contains, IsPermutation, IsTrue}
use Rattle.simplex_votes.specs.Votes.{SignedVote}
use Rattle.simplex_evidence.specs.Contradiction.{Equivocation}
use Rattle.simplex_evidence.specs.declared.types.activity.Activity.{Activity}
use Rattle.simplex_rules.specs.Rules.{Rules, valid_votes}
use Rattle.simplex_rules.specs.Accusation.{Accusation, is_accused, accused_by}
use Rattle.simplex_rules.specs.Evidence.{IsEvidence}
use Rattle.simplex_rules.specs.Values.{activity_of, evidence_value}
use Rattle.simplex_rules.specs.declared.evidence.Evidence as declared

module _ {D G : Type 0} (eq : D → D → Bool) (vs : List (SignedVote D G)) (es : List (Equivocation D G)) where
  -- no other list is the evidence of the votes
  abbrev pub EvidenceIsUnique : Type 0
  EvidenceIsUnique = (fs : List (Equivocation D G)) → IsEvidence eq vs fs → es ≡ fs

  -- the evidence accuses exactly those whom the votes accuse
  abbrev pub AccusesExactly : Type 0
  AccusesExactly = (n : Accusation) → Contains (map accused_by es) n ↔ IsTrue (is_accused eq vs n)

module _ {S D C P G : Type 0} (rules : Rules S D C P G) where
  -- the same messages in another order accuse the same signers
  abbrev pub ReorderingAccusesSame : List (Activity S D C P G) → Type 0
  ReorderingAccusesSame ms =
      (ks : List (Activity S D C P G)) → IsPermutation ms ks → (n : Accusation) →
      is_accused rules.eq (valid_votes rules ms) n ≡ is_accused rules.eq (valid_votes rules ks) n

  -- an accused signer stays accused when any messages follow
  abbrev pub AccusedStay : List (Activity S D C P G) → Type 0
  AccusedStay ms =
      (more : List (Activity S D C P G)) (n : Accusation) → IsTrue (is_accused rules.eq (valid_votes rules ms) n) →
      IsTrue (is_accused rules.eq (valid_votes rules (ms ++ more)) n)

  -- the evidence of messages, as messages of its own, has the same evidence in the same order
  abbrev pub IsEvidenceAgain : List (declared.Evidence S D P G) → Type 0
  IsEvidenceAgain es = IsEvidence rules.eq (valid_votes rules (map activity_of es)) (map evidence_value es)
