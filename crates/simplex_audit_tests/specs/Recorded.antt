-- How many votes are recorded of a stream.
use Rattle.std.specs.Prelude.{◌≡◌, ℕ, List}
use Rattle.simplex_evidence.specs.declared.types.activity.Activity.{Activity}
use Rattle.simplex_scheme.specs.Committees.{Schedule}
use Rattle.simplex_rules.specs.Recorded.{votes_recorded}
use Rattle.simplex_rules.specs.Rules.{valid_votes}
use Rattle.simplex_audit.specs.Auditor.{Stands}
use Rattle.simplex_audit.specs.Basis.{Basis}
use Rattle.simplex_stream.specs.Messages.{AreMessages}
use Rattle.simplex_audit.specs.declared.auditor.Auditor.{Auditor}

-- the number is that of the recorded votes of each stream that the auditor stands for
abbrev pub IsNumberRecorded : {S D C P G : Type 0} → (Schedule S → Basis S D C P G) → Auditor S D P G → ℕ → Type 0
IsNumberRecorded {S} {D} {C} {P} {G} basis auditor number =
    (committees : Schedule S) (stream : List ℕ) (messages : List (Activity S D C P G)) (rest : List ℕ) →
    Stands basis committees auditor stream → AreMessages (basis committees).format stream messages rest →
    number ≡ votes_recorded (basis committees).rules.eq (valid_votes (basis committees).rules messages)
