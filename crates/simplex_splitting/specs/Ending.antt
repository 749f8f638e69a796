-- How `audit_split` ends: what holds then of its arguments and of its output.
use Rattle.std.specs.Prelude.{⊤, ◌≡◌, ◌<◌, ◌⊎◌, ◌∷◌, ◌++◌, ◌||◌, ℕ, Bool, IsTrue, true, false, All, List, [], Option, Some, None, Result, Ok, Err, codes, decimal, is_some, length}
use Rattle.std.specs.Int.NonZero.{non_zero_u32_get}
use Rattle.std.specs.Io.KnownBytes.{Appends, Keeps}
use Rattle.simplex_audit.specs.Outcome.{WriterUse}
use Rattle.simplex_cli.specs.declared.status.Status.{Status}
use Rattle.simplex_cli.specs.declared.status.Status.TheVariants as statuses
use Rattle.simplex_cli.specs.declared.verdicts.SignatureSize.{SignatureSize}
use Rattle.simplex_cli.specs.declared.verdicts.SignatureSize.TheVariants.{Bytes48, Bytes64, Bytes96}
use Rattle.simplex_splitting.specs.Files.{IsFirstPart, NamesPart}
use Rattle.simplex_splitting.specs.Options.{AreBehindOptions}
use Rattle.simplex_splitting.specs.declared.complaints.Trouble.{Trouble}
use Rattle.simplex_splitting.specs.declared.complaints.Trouble.TheVariants as troubles
use Rattle.simplex_splitting.specs.declared.options.Options.{Options}
use Rattle.simplex_splitting.specs.declared.splitting.Totals.{Totals}
use Rattle.simplex_stream.specs.Text.{AppendsBeginning}
use Rattle.simplex_stream.specs.declared.fault.Fault.{Fault}

-- the status after a trouble: it is of the arguments, or of a file, of the output or of an allocation
abbrev pub status_of_trouble : Trouble → Status
status_of_trouble troubles.Usage = statuses.Usage
status_of_trouble (troubles.PartNamed place) = statuses.Usage
status_of_trouble _ = statuses.Failed

-- how a run ends: with whether a file has a fault, or with a trouble
abbrev pub SplitEnding : Type 0
SplitEnding = Result Bool Trouble

-- the status of an ending
abbrev pub status_of_split : SplitEnding → Status
status_of_split (Ok false) = statuses.Whole
status_of_split (Ok true) = statuses.Fault
status_of_split (Err trouble) = status_of_trouble trouble

-- ---- what is written

-- what stands behind the number of messages
abbrev pub fault_text : Option Fault → List ℕ
fault_text None = codes "\n"
fault_text (Some fault) = codes " fault " ++ (decimal fault.place ++ codes "\n")

-- the line of a file: its name, the number of its messages, and the place of its fault if it has one
abbrev pub line_of : List ℕ → Totals → List ℕ
line_of name totals = name ++ (codes " " ++ (decimal totals.read ++ fault_text totals.fault))

-- the lines of files, as far as they were read
abbrev pub lines : List (List ℕ) → List Totals → List ℕ
lines [] all = []
lines (name ∷ names) [] = []
lines (name ∷ names) (totals ∷ all) = line_of name totals ++ lines names all

-- whether one has a fault
abbrev pub any_fault : List Totals → Bool
any_fault [] = false
any_fault (totals ∷ all) = is_some totals.fault || any_fault all

-- ---- what fails

-- the trouble is of the file at this place, of the part of this class, or of an allocation
abbrev pub IsOfFile : ℕ → ℕ → Trouble → Type 0
IsOfFile place class (troubles.Unread at) = at ≡ place
IsOfFile place class (troubles.Unwritten at) = at ≡ class
IsOfFile place class troubles.OutOfMemory = ⊤
IsOfFile place class _ = ⊥

-- the trouble is of the part of one of so many classes, or of an allocation
abbrev pub IsOfParts : ℕ → Trouble → Type 0
IsOfParts classes (troubles.Unwritten class) = class < classes
IsOfParts classes troubles.OutOfMemory = ⊤
IsOfParts classes _ = ⊥

-- ---- what was read

-- what it means that so much was read of an input, under a bound: for each size of signatures
pub record Readings : Type 1 where
  pub plain : ℕ → List ℕ → Totals → Type 0
  pub of48 : ℕ → List ℕ → Totals → Type 0
  pub of64 : ℕ → List ℕ → Totals → Type 0
  pub of96 : ℕ → List ℕ → Totals → Type 0

-- of these signatures
abbrev pub reads_of : Readings → Option SignatureSize → ℕ → List ℕ → Totals → Type 0
reads_of readings None = readings.plain
reads_of readings (Some Bytes48) = readings.of48
reads_of readings (Some Bytes64) = readings.of64
reads_of readings (Some Bytes96) = readings.of96

-- each was read of some input
abbrev pub AreRead : (List ℕ → Totals → Type 0) → List Totals → Type 0
AreRead Reads all = All (λ totals. (input : List ℕ) × Reads input totals) all

module _ (Reads : List ℕ → Totals → Type 0) (names : List (List ℕ)) (writer : WriterUse) where
  -- So many of the first files were read, and exactly their lines were written and flushed.
  pub record AreCutBefore (count : ℕ) : Type 0 where
    pub all : List Totals
    pub count_is : length all ≡ count
    pub read : AreRead Reads all
    pub said : Appends writer.before writer.after (lines names all)
    pub flushed : 0 < count → IsTrue writer.flushed

  -- All were.
  pub record AreCut (faulted : Bool) : Type 0 where
    pub files : AreCutBefore (length names)
    pub faults : faulted ≡ any_fault files.all

  -- Some of the first were read, and a prefix of their lines was written.
  abbrev pub AreBegun : Type 0
  AreBegun = (all : List Totals) × AreRead Reads all × AppendsBeginning writer.before writer.after (lines names all)

  -- What holds after a trouble, which is never of the arguments. Only a failed output can end within a line.
  abbrev pub AreStopped : Trouble → Type 0
  AreStopped troubles.Usage = ⊥
  AreStopped (troubles.PartNamed place) = ⊥
  AreStopped (troubles.Unread place) = (place < length names) × AreCutBefore place
  AreStopped (troubles.Unwritten class) = (count : ℕ) × AreCutBefore count
  AreStopped troubles.OutOfMemory = (count : ℕ) × AreCutBefore count
  AreStopped troubles.Unsaid = AreBegun

  -- how the cut of files ends
  abbrev pub FilesEnd : SplitEnding → Type 0
  FilesEnd (Ok faulted) = AreCut faulted
  FilesEnd (Err trouble) = AreStopped trouble

-- none of the files has the name of a part
abbrev pub AreNoParts : Options → List (List ℕ) → Type 0
AreNoParts options files =
    All (λ name. ¬ NamesPart options.division.prefix.now (non_zero_u32_get options.division.classes) name) files

-- how a run under these options ends: if a file has the name of a part, the first such is refused before anything is written
abbrev pub OptionsEnd : Readings → Options → List (List ℕ) → WriterUse → SplitEnding → Type 0
OptionsEnd readings options files writer ending =
    (AreNoParts options files × FilesEnd (reads_of readings options.signature (non_zero_u32_get options.division.bound))
    files writer ending)
    ⊎ (Keeps writer.before writer.after × ((place : ℕ) × (ending ≡ Err (troubles.PartNamed place))
    × IsFirstPart options.division.prefix.now (non_zero_u32_get options.division.classes) files place))

-- how a run ends
abbrev pub SplitEnds : Readings → List (List ℕ) → WriterUse → SplitEnding → Type 0
SplitEnds readings words writer ending =
    ((options : Options) × (files : List (List ℕ)) × AreBehindOptions words options files
    × OptionsEnd readings options files writer ending)
    ⊎ (Keeps writer.before writer.after × (ending ≡ Err troubles.Usage)
    × ((options : Options) (files : List (List ℕ)) → ¬ AreBehindOptions words options files))
    ⊎ (Keeps writer.before writer.after × (ending ≡ Err troubles.OutOfMemory))
