-- How runs of the programs end.
use Rattle.std.proofs.Common.{◌≡◌, ◌⊎◌, inl, inr, ℕ, List, Err, ap, subst}
use Rattle.std.specs.Io.KnownBytes.{Keeps}
use Rattle.simplex_audit.specs.Outcome.{ReaderUse, WriterUse}
use Rattle.simplex_cli.specs.Answer.{Bases, Ending, status_of}
use Rattle.simplex_cli.specs.Endings.{AreRefused, EndsAs}
use Rattle.simplex_cli.specs.Compacting.{IsCompactedInput, IsCompactionBegun, NameNoFloor}
use Rattle.simplex_cli.specs.Inspecting.{GiveNothing, IsBegunBy, IsShownBy, LinesUnder}
use Rattle.simplex_cli.specs.Status.{number_of}
use Rattle.simplex_cli.specs.declared.program.Program.{Program}
use Rattle.simplex_cli.specs.declared.program.Program.TheVariants.{Audit, Compact, Inspect}
use Rattle.simplex_cli.specs.declared.status.Status.{Status}
use Rattle.simplex_cli.specs.declared.status.Status.TheVariants as statuses
use Rattle.simplex_cli.specs.declared.status.Failure.TheVariants as failures
use Rattle.simplex_cli.proofs.AuditLemmas.{ends-refused}
use Rattle.simplex_cli.proofs.WritingLemmas.{ends_refused}

-- arguments that are refused end in the usage or in an allocation failure
pub refused-by : (basis : Bases) (lines : LinesUnder) (program : Program) (words : List (List ℕ)) (reader : ReaderUse)
    (writer : WriterUse) (ending : Ending) → AreRefused program words → EndsAs basis lines program words reader writer ending
    → (ending ≡ Err failures.Usage) ⊎ (ending ≡ Err failures.OutOfMemory)
refused-by basis lines (Audit verification) words reader writer ending none =
    ends-refused basis words reader writer ending none
refused-by basis lines Compact words reader writer ending none =
    ends_refused (NameNoFloor words) (IsCompactedInput basis words reader writer) (IsCompactionBegun basis words reader writer)
    reader writer ending (λ fault h. none h.floor h.committees h.named) (λ h. none h.floor h.committees h.named)
refused-by basis lines Inspect words reader writer ending none =
    ends_refused (GiveNothing words) (IsShownBy lines words reader writer) (IsBegunBy lines words reader writer) reader writer
    ending (λ fault. elim [
      | inl h ↦ none.plain h.committees h.given
      | inr h ↦ none.verdicts h.0 h.1.committees h.1.given
    ]) (elim [ inl h ↦ none.plain h.committees h.given | inr h ↦ none.verdicts h.0 h.1.committees h.1.given ])

-- an allocation failed before anything was written
pub unstarted : (basis : Bases) (lines : LinesUnder) (program : Program) (words : List (List ℕ)) (reader : ReaderUse)
    (writer : WriterUse) → Keeps writer.before writer.after
    → EndsAs basis lines program words reader writer (Err failures.OutOfMemory)
unstarted basis lines (Audit verification) words reader writer keeps = keeps
unstarted basis lines Compact words reader writer keeps = inl keeps
unstarted basis lines Inspect words reader writer keeps = inl keeps

-- the statuses of these two
pub refused-status : (ending : Ending) → (ending ≡ Err failures.Usage) ⊎ (ending ≡ Err failures.OutOfMemory)
    → (status_of ending ≡ statuses.Usage) ⊎ (status_of ending ≡ statuses.Failed)
refused-status ending (inl e) = inl (ap status_of e)
refused-status ending (inr e) = inr (ap status_of e)

-- the numbers of these two
pub refused-number : (status : Status) → (status ≡ statuses.Usage) ⊎ (status ≡ statuses.Failed)
    → (number_of status ≡ 2) ⊎ (number_of status ≡ 3)
refused-number status (inl e) = inl (ap number_of e)
refused-number status (inr e) = inr (ap number_of e)

-- equal words end a run alike
pub ends_alike : (basis : Bases) (lines : LinesUnder) (program : Program) (words words' : List (List ℕ))
    (reader : ReaderUse) (writer : WriterUse) (ending : Ending) → words ≡ words' →
    EndsAs basis lines program words reader writer ending → EndsAs basis lines program words' reader writer ending
ends_alike basis lines program words words' reader writer ending same h =
    subst (λ (xs : List (List ℕ)). EndsAs basis lines program xs reader writer ending) same h
