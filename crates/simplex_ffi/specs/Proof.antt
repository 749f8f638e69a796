-- One piece of evidence, verified by itself.
use Rattle.std.specs.Prelude.{◌≡◌, ◌⊎◌, ◌&&◌, ℕ, Bool, List, [], ◌∷◌, Option, Some, None, IsTrue, if◌then◌else◌}
use Rattle.simplex_scheme.specs.Subject.{round_of}
use Rattle.simplex_evidence.specs.Conflict.{finalize_evidence, notarize_evidence, nullify_evidence}
use Rattle.simplex_evidence.specs.Contradiction.{Equivocation, contradicts}
use Rattle.simplex_evidence.specs.declared.types.activity.Activity.{Activity}
use Rattle.simplex_evidence.specs.declared.types.activity.Activity.TheVariants as activity
use Rattle.simplex_rules.specs.Accusation.{accused_by, is_accused, kind_rank}
use Rattle.simplex_rules.specs.Rules.{Rules, is_valid, valid_votes}
use Rattle.simplex_audit.specs.Basis.{Basis}
use Rattle.simplex_ffi.specs.declared.proof.Accusation.{Accusation}

-- the evidence that a message is, if it is one
abbrev pub equivocation_of : {S D C P G : Type 0} → Activity S D C P G → Option (Equivocation D G)
equivocation_of (activity.ConflictingNotarize c) = Some (notarize_evidence c)
equivocation_of (activity.ConflictingFinalize c) = Some (finalize_evidence c)
equivocation_of (activity.NullifyFinalize c) = Some (nullify_evidence c)
equivocation_of _ = None

-- both votes of an evidence are valid
abbrev pub are_valid : {S D C P G : Type 0} → Rules S D C P G → Equivocation D G → Bool
are_valid rules e = is_valid rules e.first && is_valid rules e.second

-- whom an evidence accuses, in which round and of what, and whether it proves that
abbrev pub accusation_by : {D G : Type 0} → Bool → Equivocation D G → Accusation
accusation_by proved e = record {
  epoch = (round_of e.first.subject).epoch;
  view = (round_of e.first.subject).view;
  signer = e.first.signer;
  kind = kind_rank e.kind;
  proved = if proved then 1 else 0;
}

-- The accusation is that of a message that is evidence, with 0; or the message is no evidence, with 1, and nothing was written.
unfoldable pub IsMessageJudged : {S D C P G : Type 0} → Rules S D C P G → Activity S D C P G → Accusation → Accusation → ℕ →
    Type 0
IsMessageJudged {S} {D} {C} {P} {G} rules message old new status =
    ((e : Equivocation D G) × (equivocation_of message ≡ Some e) × (new ≡ accusation_by (are_valid rules e) e) × (status ≡ 0))
    ⊎ ((equivocation_of message ≡ None) × (new ≡ old) × (status ≡ 1))

-- The bytes are an evidence of two votes that contradict, and the accusation is that of the evidence. It is proved where both
-- votes are valid, each under the committee of its epoch, and that is where the message alone accuses the signer.
pub record IsEvidenceJudged {S D C P G : Type 0} (basis : Basis S D C P G) (bytes : List ℕ) (accusation : Accusation) :
    Type 0 where
  pub message : Activity S D C P G
  pub value : basis.format.is_value message
  pub bytes_are : bytes ≡ basis.format.encoding message
  pub evidence : Equivocation D G
  pub evidence_is : equivocation_of message ≡ Some evidence
  pub contradict : IsTrue (contradicts basis.rules.eq evidence.kind evidence.first evidence.second)
  pub accusation_is : accusation ≡ accusation_by (are_valid basis.rules evidence) evidence
  pub accuses : is_accused basis.rules.eq (valid_votes basis.rules (message ∷ [])) (accused_by evidence)
      ≡ are_valid basis.rules evidence

-- the bytes are no evidence
abbrev pub AreNoEvidence : {S D C P G : Type 0} → Basis S D C P G → List ℕ → Type 0
AreNoEvidence {S} {D} {C} {P} {G} basis bytes =
    (message : Activity S D C P G) (e : Equivocation D G) → basis.format.is_value message →
    bytes ≡ basis.format.encoding message → equivocation_of message ≡ Some e → ⊥

-- The evidence is judged, with 0; or the bytes are no evidence, with 1, and nothing was written.
unfoldable pub IsJudged : {S D C P G : Type 0} → Basis S D C P G → List ℕ → Accusation → Accusation → ℕ → Type 0
IsJudged basis bytes old new status =
    (IsEvidenceJudged basis bytes new × (status ≡ 0)) ⊎ (AreNoEvidence basis bytes × (status ≡ 1) × (new ≡ old))
