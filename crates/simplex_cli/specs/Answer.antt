-- How a run of a program ends, and what an audit makes of its arguments and its input.
use Rattle.std.specs.Prelude.{◌≡◌, ◌⊎◌, ◌≤◌, ◌^◌, ℕ, false, IsTrue, List, length, Option, Some, None, Result, Ok, Err}
use Rattle.std.specs.Io.KnownBytes.{Consumes, IsAtEnd, Appends, Keeps}
use Rattle.simplex_schemes.specs.Plain.{PlainScheme}
use Rattle.simplex_scheme.specs.declared.scheme.Attestation.{Attestation}
use Rattle.simplex_scheme.specs.Committees.{Schedule}
use Rattle.simplex_stream.specs.Text.{AppendsBeginning}
use Rattle.simplex_audit.specs.Run.{IsAccount}
use Rattle.simplex_audit.specs.Basis.{Basis}
use Rattle.simplex_audit.specs.Outcome.{ReaderUse, WriterUse}
use Rattle.simplex_stream.specs.declared.fault.Fault.{Fault}
use Rattle.simplex_audit.specs.declared.run.Summary.{Summary}
use Rattle.simplex_cli.specs.Arguments.{AreArguments, AreNoArguments}
use Rattle.simplex_cli.specs.Status.{status_after}
use Rattle.simplex_cli.specs.declared.status.Status.{Status}
use Rattle.simplex_cli.specs.declared.status.Status.TheVariants as statuses
use Rattle.simplex_cli.specs.declared.status.Failure.{Failure}
use Rattle.simplex_cli.specs.declared.status.Failure.TheVariants.{Usage, Read, Write, OutOfMemory}

-- a certificate is the attestations that it lists
abbrev pub PlainCertificate : Type 0
PlainCertificate = List (Attestation PlainScheme (List ℕ) (List ℕ))

-- the basis of an audit under committees: how messages are read, and the rules by which they are judged
abbrev pub Bases : Type 1
Bases = Schedule PlainScheme → Basis PlainScheme (List ℕ) PlainCertificate (List ℕ) (List ℕ)

-- a text was said: the writer took a prefix of it, perhaps empty, and all of it unless a call failed, now or before
abbrev pub Says : WriterUse → List ℕ → Type 0
Says writer text =
    AppendsBeginning writer.before writer.after text × (writer.failed ≡ false → Appends writer.before writer.after text)

-- a whole input was read, and its text and its fault are those for the committees that the arguments name
pub record IsRead (basis : Bases) (words : List (List ℕ)) (reader : ReaderUse) (text : List ℕ)
    (fault : Option Fault) : Type 0 where
  pub committees : Schedule PlainScheme
  pub input : List ℕ
  pub summary : Summary
  pub named : AreArguments words committees
  pub consumed : Consumes reader.before reader.after input
  pub ended : IsAtEnd reader.after
  pub account : IsAccount (basis committees) (λ bytes. bytes) input summary text
  pub fault_is : summary.fault ≡ fault

-- a reader gave more than 2^64 - 1 bytes
abbrev pub GaveTooMuch : ReaderUse → Type 0
GaveTooMuch reader = (input : List ℕ) × (2 ^ 64 ≤ length input) × Consumes reader.before reader.after input

-- how a run ends: with the fault of its input, if there is one, or with a failure
abbrev pub Ending : Type 0
Ending = Result (Option Fault) Failure

-- the status of an ending
abbrev pub status_of : Ending → Status
status_of (Ok None) = statuses.Whole
status_of (Ok (Some fault)) = statuses.Fault
status_of (Err failure) = status_after failure

-- what holds of the reader and of the writer after an ending of a program that writes while it reads: `Refused` holds of its
-- arguments, `Whole` of a run that read and wrote all, and `Begun` of one that wrote a front of it, perhaps nothing or all
abbrev pub WritingEnds : Type 0 → (Option Fault → Type 0) → Type 0 → ReaderUse → WriterUse → Ending → Type 0
WritingEnds Refused Whole Begun reader writer (Ok fault) = Whole fault
WritingEnds Refused Whole Begun reader writer (Err Usage) = Refused × Keeps writer.before writer.after
WritingEnds Refused Whole Begun reader writer (Err Read) = (IsTrue reader.failed ⊎ GaveTooMuch reader) × Begun
WritingEnds Refused Whole Begun reader writer (Err OutOfMemory) = Keeps writer.before writer.after ⊎ Begun
WritingEnds Refused Whole Begun reader writer (Err Write) = IsTrue writer.failed × Begun

-- what holds of the arguments, of the reader and of the writer after an ending of an audit
abbrev pub Ends : Bases → List (List ℕ) → ReaderUse → WriterUse → Ending → Type 0
Ends basis words reader writer (Ok fault) =
    (text : List ℕ) × IsRead basis words reader text fault × Appends writer.before writer.after text × IsTrue writer.flushed
Ends basis words reader writer (Err Usage) = AreNoArguments words × Keeps writer.before writer.after
Ends basis words reader writer (Err Read) =
    ((committees : Schedule PlainScheme) × AreArguments words committees) × (IsTrue reader.failed ⊎ GaveTooMuch reader)
    × Keeps writer.before writer.after
Ends basis words reader writer (Err OutOfMemory) = Keeps writer.before writer.after
Ends basis words reader writer (Err Write) =
    (text : List ℕ) × (fault : Option Fault) × IsRead basis words reader text fault
    × AppendsBeginning writer.before writer.after text × IsTrue writer.failed
