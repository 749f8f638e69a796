-- The evidence of a report as messages: which can be encoded, and which are equal.
use Rattle.std.specs.Prelude.{All, Bool, List, false, ⊤}
use Rattle.simplex_base.specs.Format.{Format}
use Rattle.simplex_votes.specs.declared.types.notarize.Notarize.{Notarize}
use Rattle.simplex_votes.specs.declared.types.nullify.Nullify.{Nullify}
use Rattle.simplex_votes.specs.declared.types.finalize.Finalize.{Finalize}
use Rattle.simplex_evidence.specs.Activity.{IsActivity}
use Rattle.simplex_evidence.specs.Conflict.{ConflictValue}
use Rattle.simplex_rules.specs.Values.{activity_of}
use Rattle.simplex_rules.specs.declared.evidence.Evidence.{Evidence}
use Rattle.simplex_rules.specs.declared.evidence.Evidence.TheVariants as variants

-- an evidence that can be encoded as a message: its numbers, payloads and signatures are within their types, and its
-- votes contradict. `eq` compares payloads
abbrev pub IsEncoded : {S D P G : Type 0} → (D → D → Bool) → Format D → Format G → Evidence S D P G → Type 0
IsEncoded eq payload signature e = IsActivity {C = ⊤} eq payload (λ _. ⊤) signature (activity_of e)

-- if each of the old evidence can be encoded as a message, each of the new can
abbrev pub StayEncoded : {S D P G : Type 0} → (D → D → Bool) → Format D → Format G → List (Evidence S D P G) →
    List (Evidence S D P G) → Type 0
StayEncoded eq payload signature old new = All (IsEncoded eq payload signature) old → All (IsEncoded eq payload signature) new

-- the same member, equal by its type's equality
module _ {S D P G : Type 0}
    (conflicting_notarizes : ConflictValue (Notarize S D P G) (Notarize S D P G) →
    ConflictValue (Notarize S D P G) (Notarize S D P G) → Bool)
    (conflicting_finalizes : ConflictValue (Finalize S D P G) (Finalize S D P G) →
    ConflictValue (Finalize S D P G) (Finalize S D P G) → Bool)
    (nullify_finalizes : ConflictValue (Nullify S P G) (Finalize S D P G) →
    ConflictValue (Nullify S P G) (Finalize S D P G) → Bool) where
  abbrev pub same_evidence : Evidence S D P G → Evidence S D P G → Bool
  same_evidence (variants.ConflictingNotarize a) (variants.ConflictingNotarize b) = conflicting_notarizes a b
  same_evidence (variants.ConflictingFinalize a) (variants.ConflictingFinalize b) = conflicting_finalizes a b
  same_evidence (variants.NullifyFinalize a) (variants.NullifyFinalize b) = nullify_finalizes a b
  same_evidence _ _ = false
