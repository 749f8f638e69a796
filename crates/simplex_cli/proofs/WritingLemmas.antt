-- How runs end of programs that write while they read.
use Rattle.std.proofs.Common.{◌≡◌, ◌⊎◌, inl, inr, Option, Err, Ok, IsTrue, refl, sym, subst}
use Rattle.std.specs.Io.KnownBytes.{Keeps}
use Rattle.simplex_stream.specs.declared.fault.Fault.{Fault}
use Rattle.simplex_stream.specs.declared.run_error.RunError.{RunError}
use Rattle.simplex_stream.specs.declared.run_error.RunError.TheVariants as errors
use Rattle.simplex_audit.specs.Outcome.{ReaderUse, WriterUse}
use Rattle.simplex_cli.specs.Answer.{Ending, GaveTooMuch, WritingEnds}
use Rattle.simplex_cli.specs.Status.{failure_of}
use Rattle.simplex_cli.specs.declared.status.Failure.{Failure}
use Rattle.simplex_cli.specs.declared.status.Failure.TheVariants as failures

module _ (Refused : Type 0) (Whole : Option Fault → Type 0) (Begun : Type 0) (reader : ReaderUse) (writer : WriterUse) where
  -- the arguments gave nothing
  pub ends_without : (failure : Failure) → (failure ≡ failures.Usage → Refused) →
      (failure ≡ failures.Usage) ⊎ (failure ≡ failures.OutOfMemory) → Keeps writer.before writer.after →
      WritingEnds Refused Whole Begun reader writer (Err failure)
  ends_without failure none (inl e) keeps =
      subst (λ (f : Failure). WritingEnds Refused Whole Begun reader writer (Err f)) (sym e) (none e, keeps)
  ends_without failure none (inr e) keeps =
      subst (λ (f : Failure). WritingEnds Refused Whole Begun reader writer (Err f)) (sym e) (inl keeps)

  -- the run failed
  pub ends_given_up : (error : RunError) → (error ≡ errors.Read → IsTrue reader.failed) →
      (error ≡ errors.TooLong → GaveTooMuch reader) → (error ≡ errors.Write → IsTrue writer.failed) → Begun →
      WritingEnds Refused Whole Begun reader writer (Err (failure_of error))
  ends_given_up errors.Read failed long wrote begun = (inl (failed refl), begun)
  ends_given_up errors.TooLong failed long wrote begun = (inr (long refl), begun)
  ends_given_up errors.OutOfMemory failed long wrote begun = inr begun
  ends_given_up errors.Write failed long wrote begun = (wrote refl, begun)

  -- arguments that are refused end in the usage or in an allocation failure
  pub ends_refused : (ending : Ending) → ((fault : Option Fault) → Whole fault → ⊥) → (Begun → ⊥) →
      WritingEnds Refused Whole Begun reader writer ending →
      (ending ≡ Err failures.Usage) ⊎ (ending ≡ Err failures.OutOfMemory)
  ends_refused (Ok fault) whole begun ends = absurd (whole fault ends)
  ends_refused (Err failures.Usage) whole begun ends = inl refl
  ends_refused (Err failures.OutOfMemory) whole begun ends = inr refl
  ends_refused (Err failures.Read) whole begun ends = absurd (begun ends.1)
  ends_refused (Err failures.Write) whole begun ends = absurd (begun ends.1)

-- an ending stands by what follows of each of the three
pub ends_mapped : (Refused : Type 0) (Whole : Option Fault → Type 0) (Begun Refused' : Type 0) (Whole' : Option Fault → Type 0)
    (Begun' : Type 0) (reader : ReaderUse) (writer : WriterUse) (ending : Ending) →
    (ending ≡ Err failures.Usage → Refused → Refused') → ((fault : Option Fault) → Whole fault → Whole' fault) →
    (Begun → Begun') → WritingEnds Refused Whole Begun reader writer ending →
    WritingEnds Refused' Whole' Begun' reader writer ending
ends_mapped Refused Whole Begun Refused' Whole' Begun' reader writer (Ok fault) refused whole begun ends = whole fault ends
ends_mapped Refused Whole Begun Refused' Whole' Begun' reader writer (Err failures.Usage) refused whole begun ends =
    (refused refl ends.0, ends.1)
ends_mapped Refused Whole Begun Refused' Whole' Begun' reader writer (Err failures.Read) refused whole begun ends =
    (ends.0, begun ends.1)
ends_mapped Refused Whole Begun Refused' Whole' Begun' reader writer (Err failures.OutOfMemory) refused whole begun
    (inl keeps) =
    inl keeps
ends_mapped Refused Whole Begun Refused' Whole' Begun' reader writer (Err failures.OutOfMemory) refused whole begun
    (inr more) =
    inr (begun more)
ends_mapped Refused Whole Begun Refused' Whole' Begun' reader writer (Err failures.Write) refused whole begun ends =
    (ends.0, begun ends.1)
