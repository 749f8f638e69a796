-- How `audit_live` ends: what holds then of its arguments, of its input and of its output.
use Rattle.std.specs.Prelude.{⊤, ◌≡◌, ◌≢◌, ◌⊎◌, ◌∷◌, ℕ, List, [], Option, Some, None, Result, Ok, Err, IsTrue, codes, is_some, length}
use Rattle.std.specs.Io.KnownBytes.{Appends, Keeps}
use Rattle.simplex_schemes.specs.Plain.{PlainScheme}
use Rattle.simplex_schemes.specs.Vouched.{VouchedScheme}
use Rattle.simplex_scheme.specs.Committees.{Schedule}
use Rattle.simplex_scheme.specs.declared.scheme.Attestation.{Attestation}
use Rattle.simplex_stream.specs.Text.{AppendsBeginning}
use Rattle.simplex_audit.specs.Basis.{Basis}
use Rattle.simplex_audit.specs.Outcome.{ReaderUse, WriterUse}
use Rattle.simplex_monitor.specs.declared.monitor.Monitor.{Monitor}
use Rattle.simplex_cli.specs.Arguments.{NameCommittees, NameNoCommittees, Naming, by_keys}
use Rattle.simplex_cli.specs.Status.{status_after}
use Rattle.simplex_cli.specs.Verdicts.{AreBehindVerdicts, by_count}
use Rattle.simplex_cli.specs.declared.status.Failure.TheVariants.{OutOfMemory}
use Rattle.simplex_cli.specs.declared.status.Status.{Status}
use Rattle.simplex_cli.specs.declared.status.Status.TheVariants as statuses
use Rattle.simplex_cli.specs.declared.verdicts.SignatureSize.{SignatureSize}
use Rattle.simplex_cli.specs.declared.verdicts.SignatureSize.TheVariants.{Bytes48, Bytes64, Bytes96}
use Rattle.simplex_live.specs.Listening.{IsHeard, IsHeardInPart, IsReady}
use Rattle.simplex_live.specs.Options.{AreBehindOptions}
use Rattle.simplex_live.specs.declared.complaints.Trouble.{Trouble}
use Rattle.simplex_live.specs.declared.complaints.Trouble.TheVariants as troubles
use Rattle.simplex_live.specs.declared.listening.Totals.{Totals}
use Rattle.simplex_live.specs.declared.options.Options.{Options}

-- the status after a trouble: it is of the arguments, or of a device or an allocation
abbrev pub status_of_trouble : Trouble → Status
status_of_trouble (troubles.Run failure) = status_after failure
status_of_trouble troubles.KeyFile = statuses.Failed
status_of_trouble troubles.StateInUse = statuses.Failed
status_of_trouble troubles.UnreadState = statuses.Failed
status_of_trouble troubles.UnwrittenState = statuses.Failed
status_of_trouble _ = statuses.Usage

-- the status at the end of an input that was heard
abbrev pub status_of_fault : {X : Type 0} → Option X → Status
status_of_fault None = statuses.Whole
status_of_fault (Some fault) = statuses.Fault

-- how a run ends: with what was heard, without it if something else was asked for, or with a trouble
abbrev pub LiveEnding : Type 0
LiveEnding = Result (Option Totals) Trouble

-- the status of an ending
abbrev pub status_of_live : LiveEnding → Status
status_of_live (Ok None) = statuses.Whole
status_of_live (Ok (Some totals)) = status_of_fault totals.fault
status_of_live (Err trouble) = status_of_trouble trouble

-- the trouble is of a device or of an allocation
abbrev pub IsFailure : Trouble → Type 0
IsFailure trouble = status_of_trouble trouble ≡ statuses.Failed

-- or that the state is another's
abbrev pub IsOfState : Trouble → Type 0
IsOfState trouble = (trouble ≡ troubles.OtherState) ⊎ IsFailure trouble

-- the trouble is that words name no committees
abbrev pub IsOfWords : Trouble → Type 0
IsOfWords troubles.Order = ⊤
IsOfWords (troubles.Word number) = ⊤
IsOfWords troubles.Committees = ⊤
IsOfWords _ = ⊥

module _ {S D C P G : Type 0} (basis : Schedule S → Basis S D C P G) (bytes_of : D → List ℕ) (naming : Naming S)
    (texts : List (List ℕ)) (options : Options) (reader : ReaderUse) (writer : WriterUse) where
  -- The texts name committees, and a monitor of these was ready, perhaps behind a state.
  pub record AreReady : Type 0 where
    pub committees : Schedule S
    pub held : List ℕ
    pub first : Monitor S D P G
    pub named : NameCommittees naming texts committees
    pub ready : IsReady basis options.retained options.ahead (is_some options.state) held committees first

  -- From there the whole input was heard. A state covers `base` bytes of it; without a state it is 0.
  pub record AreHeard (totals : Totals) : Type 0 where
    pub ready : AreReady
    pub base : ℕ
    pub heard : IsHeard basis bytes_of reader writer ready.first (length ready.held) base totals
    pub anew : options.state ≡ None → base ≡ 0

  -- or a part of it
  pub record AreHeardInPart : Type 0 where
    pub ready : AreReady
    pub heard : IsHeardInPart basis bytes_of reader writer ready.first

  -- Why a run under these texts fails: they name no committees, a state that is given is another's, or it is a failure.
  abbrev pub IsCause : Trouble → Type 0
  IsCause trouble =
      (IsOfWords trouble × NameNoCommittees naming texts) ⊎ ((trouble ≡ troubles.OtherState) × (options.state ≢ None))
      ⊎ IsFailure trouble

  -- how it ends
  abbrev pub HearingEnds : Result Totals Trouble → Type 0
  HearingEnds (Ok totals) = AreHeard totals
  HearingEnds (Err trouble) = (Keeps writer.before writer.after ⊎ AreHeardInPart) × IsCause trouble

-- how the messages of an input are read and judged: under plain keys, and by verdicts of each size
pub record LiveBases : Type 1 where
  pub plain : Schedule PlainScheme →
      Basis PlainScheme (List ℕ) (List (Attestation PlainScheme (List ℕ) (List ℕ))) (List ℕ) (List ℕ)
  pub of48 : Schedule VouchedScheme →
      Basis VouchedScheme (List ℕ) (List (Attestation VouchedScheme (List ℕ) (List ℕ))) (List ℕ) (List ℕ)
  pub of64 : Schedule VouchedScheme →
      Basis VouchedScheme (List ℕ) (List (Attestation VouchedScheme (List ℕ) (List ℕ))) (List ℕ) (List ℕ)
  pub of96 : Schedule VouchedScheme →
      Basis VouchedScheme (List ℕ) (List (Attestation VouchedScheme (List ℕ) (List ℕ))) (List ℕ) (List ℕ)

-- by verdicts of this size
abbrev pub by_verdicts : LiveBases → SignatureSize → Schedule VouchedScheme →
    Basis VouchedScheme (List ℕ) (List (Attestation VouchedScheme (List ℕ) (List ℕ))) (List ℕ) (List ℕ)
by_verdicts bases Bytes48 = bases.of48
by_verdicts bases Bytes64 = bases.of64
by_verdicts bases Bytes96 = bases.of96

module _ (bases : LiveBases) (words : List (List ℕ)) (options : Options) (reader : ReaderUse)
    (writer : WriterUse) (ending : Result Totals Trouble) where
  -- how a run under words ends that are a namespace and texts of plain keys
  abbrev pub PlainEnds : Type 0
  PlainEnds =
      (namespace : List ℕ) × (texts : List (List ℕ)) × (words ≡ namespace ∷ texts) × AreBehindVerdicts words None words
      × HearingEnds bases.plain (λ bytes. bytes) (by_keys namespace) texts options reader writer ending

  -- or `--verdicts`, a size, and texts that are numbers of participants
  abbrev pub VerdictsEnd : Type 0
  VerdictsEnd =
      (size : SignatureSize) × (texts : List (List ℕ)) × AreBehindVerdicts words (Some size) texts
      × HearingEnds (by_verdicts bases size) (λ bytes. bytes) by_count texts options reader writer ending

  -- or nothing, or `--verdicts` without a size
  abbrev pub NoWordsEnd : Type 0
  NoWordsEnd =
      Keeps writer.before writer.after
      × (((words ≡ []) × (ending ≡ Err troubles.Committees))
      ⊎ (((size : Option SignatureSize) (behind : List (List ℕ)) → ¬ AreBehindVerdicts words size behind)
      × (ending ≡ Err troubles.Size)))

  -- how a run under words ends
  abbrev pub WordsEnd : Type 0
  WordsEnd = PlainEnds ⊎ VerdictsEnd ⊎ NoWordsEnd

-- the word is one of the options that ask for a text
abbrev pub IsQuestion : List ℕ → Type 0
IsQuestion word = (word ≡ codes "--help") ⊎ (word ≡ codes "--version") ⊎ (word ≡ codes "--covers")

-- the words begin with one of them
abbrev pub AskForText : List (List ℕ) → Type 0
AskForText words = (word : List ℕ) × (behind : List (List ℕ)) × (words ≡ word ∷ behind) × IsQuestion word

-- How a run behind the options ends: without `--keys` the words behind them name committees, else these and those of a file.
-- If the file cannot be read, nothing is written.
abbrev pub BehindEnd : LiveBases → List (List ℕ) → Options → ReaderUse → WriterUse → Result Totals Trouble →
    Type 0
BehindEnd bases behind options reader writer ending =
    (named : List (List ℕ)) × (options.keys ≡ None → named ≡ behind)
    × ((Keeps writer.before writer.after × (options.keys ≢ None)
    × ((ending ≡ Err troubles.KeyFile) ⊎ (ending ≡ Err (troubles.Run OutOfMemory))))
    ⊎ WordsEnd bases named options reader writer ending)

-- how a run under words that begin with options ends
abbrev pub OptionsEnd : LiveBases → List (List ℕ) → ReaderUse → WriterUse → Result Totals Trouble → Type 0
OptionsEnd bases words reader writer ending =
    (options : Options) × (behind : List (List ℕ)) × AreBehindOptions words options behind
    × BehindEnd bases behind options reader writer ending

-- how a run ends
abbrev pub LiveEnds : LiveBases → List (List ℕ) → ReaderUse → WriterUse → LiveEnding → Type 0
LiveEnds bases words reader writer (Ok None) =
    AskForText words × ((text : List ℕ) × Appends writer.before writer.after text) × IsTrue writer.flushed
LiveEnds bases words reader writer (Ok (Some totals)) = OptionsEnd bases words reader writer (Ok totals)
LiveEnds bases words reader writer (Err trouble) =
    (AskForText words × ((text : List ℕ) × AppendsBeginning writer.before writer.after text))
    ⊎ (Keeps writer.before writer.after × (trouble ≡ troubles.Usage)
    × ((options : Options) (behind : List (List ℕ)) → ¬ AreBehindOptions words options behind))
    ⊎ (Keeps writer.before writer.after × (trouble ≡ troubles.Run OutOfMemory))
    ⊎ OptionsEnd bases words reader writer (Err trouble)
