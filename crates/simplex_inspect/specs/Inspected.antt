-- What is written of a stream: the lines of its messages, and the line of its fault.
use Rattle.std.specs.Prelude.{⊤, ◌≡◌, ℕ, ◌+◌, ◌-◌, ◌^◌, ◌⊎◌, List, [], ◌∷◌, ◌++◌, length, take, All, Option, Some, None, codes}
use Rattle.std.specs.List.{flat_map}
use Rattle.std.specs.Io.KnownBytes.{Appends}
use Rattle.json.specs.Json.{Json, string}
use Rattle.simplex_base.specs.Format.{Format, Readable, format_under}
use Rattle.simplex_base.specs.declared.codec.error.Error.{Error}
use Rattle.simplex_base.specs.declared.codec.error.Error.TheVariants as errors
use Rattle.simplex_evidence.specs.declared.types.activity.Activity.{Activity}
use Rattle.simplex_scheme.specs.Committees.{Schedule, bound_of}
use Rattle.simplex_stream.specs.Messages.{AreMessages, IsStop}
use Rattle.simplex_stream.specs.Fault.{IsFault}
use Rattle.simplex_stream.specs.Text.{AppendsBeginning}
use Rattle.simplex_stream.specs.declared.fault.Fault.{Fault}
use Rattle.simplex_inspect.specs.Line.{line_json}
use Rattle.simplex_inspect.specs.Shown.{Shown}
use Rattle.simplex_inspect.specs.Values.{object_of, number_json, bytes_json, line_of}

-- the bound under which certificates are read: the number of participants of the greatest committee, and without
-- committees the greatest number that a committee can have
abbrev pub bound_under : {S P : Type 0} → (S → List P) → Option (Schedule S) → ℕ
bound_under keys None = 2 ^ 32 - 1
bound_under keys (Some committees) = bound_of keys committees

-- How the messages of a stream are read, and the line of each, given its offset and its length in bytes.
pub record Lines (M : Type 0) : Type 1 where
  pub format : Format M
  pub line : ℕ → ℕ → M → List ℕ

-- how messages are read under committees or without any, and the line of each
abbrev pub lines_of : {S D C P G : Type 0} → Readable ℕ (Activity S D C P G) → (S → List P) →
    (Option (Schedule S) → Shown S D C P G) → Option (Schedule S) → Lines (Activity S D C P G)
lines_of message keys shown committees =
    record { format = format_under message (bound_under keys committees); line = line_json (shown committees) }

-- the lines of messages, the first of which begins at an offset: `line` gives that of a message from its offset and the
-- number of its bytes
abbrev pub lines_from : {M : Type 0} → (ℕ → ℕ → M → List ℕ) → (M → List ℕ) → ℕ → List M → List ℕ
lines_from line encoding offset [] = []
lines_from line encoding offset (m ∷ rest) =
    line offset (length (encoding m)) m ++ lines_from line encoding (offset + length (encoding m)) rest

-- the name of a refusal, and for `Invalid` its subject and its reason
abbrev pub refusal_name : Error → List ℕ
refusal_name errors.EndOfBuffer = codes "EndOfBuffer"
refusal_name errors.InvalidVarint = codes "InvalidVarint"
refusal_name errors.InvalidBool = codes "InvalidBool"
refusal_name (errors.Invalid subject reason) = codes "Invalid " ++ (subject.now ++ (codes ": " ++ reason.now))
refusal_name errors.ExtraData = codes "ExtraData"
refusal_name errors.OutOfMemory = codes "OutOfMemory"

-- a fault: its offset, the refusal, and up to 16 bytes from there on
abbrev pub fault_json : Fault → List ℕ → Json
fault_json fault rest = object_of (
    (codes "offset", number_json fault.place)
    ∷ (codes "fault", string (refusal_name fault.error))
    ∷ (codes "next", bytes_json (take 16 rest))
    ∷ []
    )

-- its line, with its newline
abbrev pub fault_line : Fault → List ℕ → List ℕ
fault_line fault rest = line_of (fault_json fault rest)

-- the line of a fault, if there is one
abbrev pub fault_text : Option Fault → List ℕ → List ℕ
fault_text None rest = []
fault_text (Some fault) rest = fault_line fault rest

-- The text is that of the whole input: the lines of its messages in order, and that of its fault, if there is one. They are
-- the messages and the fault of an audit.
pub record IsInspected {M : Type 0} (lines : Lines M) (input : List ℕ) (fault : Option Fault) (text : List ℕ) : Type 0 where
  pub messages : List M
  pub rest : List ℕ
  pub are_messages : AreMessages lines.format input messages rest
  pub fault_is : IsFault lines.format.reading (length (flat_map lines.format.encoding messages)) rest fault
  pub text_is : text ≡ lines_from lines.line lines.format.encoding 0 messages ++ fault_text fault rest

-- The text is the lines of the first messages of the input.
pub record IsPartShown {M : Type 0} (lines : Lines M) (input : List ℕ) (text : List ℕ) : Type 0 where
  pub messages : List M
  pub rest : List ℕ
  pub whole : input ≡ flat_map lines.format.encoding messages ++ rest
  pub each : All lines.format.is_value messages
  pub text_is : text ≡ lines_from lines.line lines.format.encoding 0 messages

-- The text is the lines of the first messages of the input, or the text of the whole input.
abbrev pub IsPart : {M : Type 0} → Lines M → List ℕ → List ℕ → Type 0
IsPart lines input text = IsPartShown lines input text ⊎ ((fault : Option Fault) × IsInspected lines input fault text)

-- `held` is what is left of the input behind its first messages, `offset` is where it begins, and the lines of these messages
-- were written.
pub record IsWritten {M : Type 0} (lines : Lines M) (input : List ℕ) (offset : ℕ) (held : List ℕ)
    (old new : Option (List ℕ)) : Type 0 where
  pub messages : List M
  pub whole : input ≡ flat_map lines.format.encoding messages ++ held
  pub each : All lines.format.is_value messages
  pub offset_is : offset ≡ length (flat_map lines.format.encoding messages)
  pub written : Appends old new (lines_from lines.line lines.format.encoding 0 messages)

-- The bytes are messages and then `rest`, where no message begins and `stop` says why; `behind` is the offset of `rest`, and
-- the text is the lines of these messages.
pub record AreShown {M : Type 0} (lines : Lines M) (bytes rest : List ℕ) (offset behind : ℕ) (stop : Option Error)
    (text : List ℕ) : Type 0 where
  pub messages : List M
  pub are_messages : AreMessages lines.format bytes messages rest
  pub stop_is : IsStop lines.format.reading rest stop
  pub behind_is : behind ≡ offset + length (flat_map lines.format.encoding messages)
  pub text_is : text ≡ lines_from lines.line lines.format.encoding offset messages

-- the text of the whole input was written
abbrev pub AppendsText : {M : Type 0} → Lines M → List ℕ → Option Fault → Option (List ℕ) → Option (List ℕ) → Type 0
AppendsText lines input fault old new = (text : List ℕ) × IsInspected lines input fault text × Appends old new text

-- a prefix of the lines of the first messages of the input was written
abbrev pub AppendsBegun : {M : Type 0} → Lines M → List ℕ → Option (List ℕ) → Option (List ℕ) → Type 0
AppendsBegun lines input old new = (text : List ℕ) × IsPartShown lines input text × AppendsBeginning old new text

-- a prefix of these lines, or of the text of the whole input, was written
abbrev pub AppendsPart : {M : Type 0} → Lines M → List ℕ → Option (List ℕ) → Option (List ℕ) → Type 0
AppendsPart lines input old new = (text : List ℕ) × IsPart lines input text × AppendsBeginning old new text

-- the input is all that a reader had left, where that is known
abbrev pub IsInput : Option (List ℕ) → List ℕ → Type 0
IsInput None input = ⊤
IsInput (Some bytes) input = bytes ≡ input
