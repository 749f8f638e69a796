-- What `inspect` makes of its arguments and its input.
use Rattle.std.specs.Prelude.{◌⊎◌, ℕ, IsTrue, List, Option, Some, None}
use Rattle.std.specs.Io.KnownBytes.{IsAtEnd}
use Rattle.simplex_schemes.specs.Plain.{PlainScheme}
use Rattle.simplex_schemes.specs.Vouched.{VouchedScheme}
use Rattle.simplex_evidence.specs.declared.types.activity.Activity.{Activity}
use Rattle.simplex_scheme.specs.Committees.{Schedule}
use Rattle.simplex_scheme.specs.declared.scheme.Attestation.{Attestation}
use Rattle.simplex_stream.specs.declared.fault.Fault.{Fault}
use Rattle.simplex_inspect.specs.Inspected.{Lines, AppendsText, AppendsPart, IsInput}
use Rattle.simplex_audit.specs.Outcome.{ReaderUse, WriterUse}
use Rattle.simplex_cli.specs.Answer.{Ending, WritingEnds}
use Rattle.simplex_cli.specs.Arguments.{AreGiven}
use Rattle.simplex_cli.specs.Verdicts.{AreBehindVerdicts, AreCountsGiven}
use Rattle.simplex_cli.specs.declared.verdicts.SignatureSize.{SignatureSize}
use Rattle.simplex_cli.specs.declared.verdicts.SignatureSize.TheVariants.{Bytes48, Bytes64, Bytes96}

-- how messages are read under committees or without any, and the line of each
abbrev pub LinesAs : Type 0 → Type 0 → Type 0 → Type 0 → Type 0 → Type 1
LinesAs S D C P G = Option (Schedule S) → Lines (Activity S D C P G)

-- the same, if a certificate is the attestations that it lists
abbrev pub LinesOf : Type 0 → Type 1
LinesOf S = LinesAs S (List ℕ) (List (Attestation S (List ℕ) (List ℕ))) (List ℕ) (List ℕ)

-- how messages are read and shown: those of plain keys, and those whose signatures the caller verified, by their size
pub record LinesUnder : Type 1 where
  pub plain : LinesOf PlainScheme
  pub of48 : LinesOf VouchedScheme
  pub of64 : LinesOf VouchedScheme
  pub of96 : LinesOf VouchedScheme

-- the lines of messages whose signatures have this size
abbrev pub with_verdicts : LinesUnder → SignatureSize → LinesOf VouchedScheme
with_verdicts lines Bytes48 = lines.of48
with_verdicts lines Bytes64 = lines.of64
with_verdicts lines Bytes96 = lines.of96

-- A whole input was read, and exactly its text was written and flushed, by committees that are given, or without any.
pub record IsShown {S D C P G : Type 0} (lines : LinesAs S D C P G) (Given : Option (Schedule S) → Type 0)
    (reader : ReaderUse) (writer : WriterUse) (fault : Option Fault) : Type 0 where
  pub committees : Option (Schedule S)
  pub input : List ℕ
  pub given : Given committees
  pub input_is : IsInput reader.before input
  pub ended : IsAtEnd reader.after
  pub written : AppendsText (lines committees) input fault writer.before writer.after
  pub flushed : IsTrue writer.flushed

-- A prefix of the text of an input was written, perhaps empty or the whole.
pub record IsBegun {S D C P G : Type 0} (lines : LinesAs S D C P G) (Given : Option (Schedule S) → Type 0)
    (reader : ReaderUse) (writer : WriterUse) : Type 0 where
  pub committees : Option (Schedule S)
  pub input : List ℕ
  pub given : Given committees
  pub input_is : IsInput reader.before input
  pub written : AppendsPart (lines committees) input writer.before writer.after

-- what holds of the reader and of the writer after an ending, if committees or none are given
abbrev pub ShowEnds : {S D C P G : Type 0} → LinesAs S D C P G → (Option (Schedule S) → Type 0) → ReaderUse →
    WriterUse → Ending → Type 0
ShowEnds {S} lines Given reader writer =
    WritingEnds ((committees : Option (Schedule S)) → ¬ Given committees) (IsShown lines Given reader writer)
    (IsBegun lines Given reader writer) reader writer

-- the words begin with no option, and give committees of plain keys or none
abbrev pub GivePlain : List (List ℕ) → Option (Schedule PlainScheme) → Type 0
GivePlain words committees =
    (behind : List (List ℕ)) × AreBehindVerdicts words None behind × AreGiven behind committees

-- the words are `--verdicts` and a size, and behind them numbers of participants give committees or there is nothing
abbrev pub GiveVerdicts : List (List ℕ) → SignatureSize → Option (Schedule VouchedScheme) → Type 0
GiveVerdicts words size committees =
    (behind : List (List ℕ)) × AreBehindVerdicts words (Some size) behind × AreCountsGiven behind committees

-- the words give nothing
pub record GiveNothing (words : List (List ℕ)) : Type 0 where
  pub plain : (committees : Option (Schedule PlainScheme)) → ¬ GivePlain words committees
  pub verdicts : (size : SignatureSize) (committees : Option (Schedule VouchedScheme)) → ¬ GiveVerdicts words size committees

-- the whole text of an input was written, as the words say
abbrev pub IsShownBy : LinesUnder → List (List ℕ) → ReaderUse → WriterUse → Option Fault → Type 0
IsShownBy lines words reader writer fault =
    IsShown lines.plain (GivePlain words) reader writer fault
    ⊎ ((size : SignatureSize) × IsShown (with_verdicts lines size) (GiveVerdicts words size) reader writer fault)

-- a prefix of it was
abbrev pub IsBegunBy : LinesUnder → List (List ℕ) → ReaderUse → WriterUse → Type 0
IsBegunBy lines words reader writer =
    IsBegun lines.plain (GivePlain words) reader writer
    ⊎ ((size : SignatureSize) × IsBegun (with_verdicts lines size) (GiveVerdicts words size) reader writer)

-- what holds of the arguments, of the reader and of the writer after an ending
abbrev pub InspectEnds : LinesUnder → List (List ℕ) → ReaderUse → WriterUse → Ending → Type 0
InspectEnds lines words reader writer =
    WritingEnds (GiveNothing words) (IsShownBy lines words reader writer) (IsBegunBy lines words reader writer) reader writer
