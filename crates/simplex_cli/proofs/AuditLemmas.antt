-- How runs of an audit end.
use Rattle.std.proofs.Common.{◌≡◌, ◌⊎◌, inl, inr, ℕ, List, Option, Err, Ok, IsTrue, refl, sym, subst}
use Rattle.std.specs.Io.KnownBytes.{Keeps}
use Rattle.simplex_schemes.specs.Plain.{PlainScheme}
use Rattle.simplex_scheme.specs.Committees.{Schedule}
use Rattle.simplex_stream.specs.Text.{AppendsBeginning}
use Rattle.simplex_stream.specs.declared.fault.Fault.{Fault}
use Rattle.simplex_stream.specs.declared.run_error.RunError.{RunError}
use Rattle.simplex_stream.specs.declared.run_error.RunError.TheVariants as errors
use Rattle.simplex_audit.specs.Outcome.{ReaderUse, WriterUse}
use Rattle.simplex_cli.specs.Answer.{IsRead, Ending, Ends, GaveTooMuch, Bases}
use Rattle.simplex_cli.specs.Arguments.{AreArguments, AreNoArguments}
use Rattle.simplex_cli.specs.Status.{failure_of}
use Rattle.simplex_cli.specs.declared.status.Failure.{Failure}
use Rattle.simplex_cli.specs.declared.status.Failure.TheVariants as failures

-- arguments that name committees are arguments
pub committees-named : (words : List (List ℕ)) (committees : Schedule PlainScheme) → AreArguments words committees →
    AreNoArguments words → ⊥
committees-named words committees named none = none committees named

-- the arguments gave no committees
pub ends-without_committees : (basis : Bases) (words : List (List ℕ)) (reader : ReaderUse) (writer : WriterUse)
    (failure : Failure)
    → (failure ≡ failures.Usage → AreNoArguments words) → (failure ≡ failures.Usage) ⊎ (failure ≡ failures.OutOfMemory)
    → Keeps writer.before writer.after → Ends basis words reader writer (Err failure)
ends-without_committees basis words reader writer failure none (inl e) keeps =
    subst (λ (f : Failure). Ends basis words reader writer (Err f)) (sym e) (none e, keeps)
ends-without_committees basis words reader writer failure none (inr e) keeps =
    subst (λ (f : Failure). Ends basis words reader writer (Err f)) (sym e) keeps

-- the run failed
pub ends-given_up : (basis : Bases) (words : List (List ℕ)) (reader : ReaderUse) (writer : WriterUse)
    (committees : Schedule PlainScheme) (error : RunError)
    → AreArguments words committees
    → (error ≡ errors.Read → IsTrue reader.failed) → (error ≡ errors.TooLong → GaveTooMuch reader)
    → ((error ≡ errors.Write → ⊥) → Keeps writer.before writer.after)
    → (error ≡ errors.Write → (text : List ℕ) × (fault : Option Fault) × IsRead basis words reader text fault
    × AppendsBeginning writer.before writer.after text × IsTrue writer.failed)
    → Ends basis words reader writer (Err (failure_of error))
ends-given_up basis words reader writer committees errors.Read named failed long keeps written =
    ((committees, named), inl (failed refl), keeps (λ e. absurd cc))
ends-given_up basis words reader writer committees errors.TooLong named failed long keeps written =
    ((committees, named), inr (long refl), keeps (λ e. absurd cc))
ends-given_up basis words reader writer committees errors.OutOfMemory named failed long keeps written = keeps (λ e. absurd cc)
ends-given_up basis words reader writer committees errors.Write named failed long keeps written = written refl

-- arguments that name no committees end in the usage or in an allocation failure
pub ends-refused : (basis : Bases) (words : List (List ℕ)) (reader : ReaderUse) (writer : WriterUse) (ending : Ending)
    → AreNoArguments words → Ends basis words reader writer ending
    → (ending ≡ Err failures.Usage) ⊎ (ending ≡ Err failures.OutOfMemory)
ends-refused basis words reader writer (Ok said) none ends = absurd (committees-named words _ ends.1.named none)
ends-refused basis words reader writer (Err failures.Usage) none ends = inl refl
ends-refused basis words reader writer (Err failures.OutOfMemory) none ends = inr refl
ends-refused basis words reader writer (Err failures.Read) none ends = absurd (committees-named words ends.0.0 ends.0.1 none)
ends-refused basis words reader writer (Err failures.Write) none ends = absurd (committees-named words _ ends.2.named none)
