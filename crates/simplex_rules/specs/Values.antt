-- The evidence of a report, as plain values and as messages.
use Rattle.simplex_evidence.specs.Contradiction as contradiction
use Rattle.simplex_evidence.specs.declared.types.activity.Activity.{Activity}
use Rattle.simplex_evidence.specs.declared.types.activity.Activity.TheVariants as activity
use Rattle.simplex_evidence.specs.Conflict.{notarize_evidence, finalize_evidence, nullify_evidence}
use Rattle.simplex_rules.specs.declared.evidence.Evidence.{Evidence}
use Rattle.simplex_rules.specs.declared.evidence.Evidence.TheVariants as variants

-- an evidence of a report, as two votes and their kind
abbrev pub evidence_value : {S D P G : Type 0} → Evidence S D P G → contradiction.Equivocation D G
evidence_value (variants.ConflictingNotarize c) = notarize_evidence c
evidence_value (variants.ConflictingFinalize c) = finalize_evidence c
evidence_value (variants.NullifyFinalize c) = nullify_evidence c

-- an evidence as a message
abbrev pub activity_of : {S D C P G : Type 0} → Evidence S D P G → Activity S D C P G
activity_of (variants.ConflictingNotarize c) = activity.ConflictingNotarize c
activity_of (variants.ConflictingFinalize c) = activity.ConflictingFinalize c
activity_of (variants.NullifyFinalize c) = activity.NullifyFinalize c
