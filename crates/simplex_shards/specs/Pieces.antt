-- A stream that comes in pieces: the rows or the parts of the messages that each piece completes.
use Rattle.std.specs.Prelude.{◌≡◌, ◌+◌, ◌≤◌, ℕ, List, [], ◌∷◌, ◌++◌, length, All, Option}
use Rattle.std.specs.List.{flat_map}
use Rattle.simplex_base.specs.Format.{Format}
use Rattle.simplex_base.specs.Positions.{Round}
use Rattle.simplex_stream.specs.Decoder.{HasDecoded, bytes_fed, messages_read, undecoded}
use Rattle.simplex_stream.specs.Fault.{IsFault}
use Rattle.simplex_stream.specs.declared.decoder.Decoder.{Decoder}
use Rattle.simplex_stream.specs.declared.fault.Fault.{Fault}
use Rattle.simplex_shards.specs.Rows.{rows_from}
use Rattle.simplex_shards.specs.Split.{AreParts, IsSplit, bytes_of}
use Rattle.simplex_shards.specs.declared.index.Row.{Row}
use Rattle.simplex_shards.specs.declared.pieces.Cutter.{Cutter}
use Rattle.simplex_shards.specs.declared.split.Shards.{Shards}

-- the bound under which a cutter reads
abbrev pub bound_of : Cutter → ℕ
bound_of cutter = cutter.bound

-- what it has decoded
abbrev pub decoder_of : Cutter → Decoder
decoder_of cutter = cutter.decoder

-- how many bytes it was fed
abbrev pub fed_by : Cutter → ℕ
fed_by cutter = bytes_fed cutter.decoder

-- how many messages it has read
abbrev pub read_by : Cutter → ℕ
read_by cutter = messages_read cutter.decoder

-- it reads under this bound, and was fed nothing
pub record StartsCutting {M : Type 0} (format : Format M) (bound : ℕ) (cutter : Cutter) : Type 0 where
  pub bound_is : bound_of cutter ≡ bound
  pub decoded : HasDecoded format [] [] (decoder_of cutter)

-- A cutter that was fed a stream becomes that of the stream with a piece appended. The rows are those of the messages that
-- the piece completes, from behind the messages before it on, and lie in the longer stream.
pub record IndexesMore {M : Type 0} (format : Format M) (round : M → Round) (row_of : ℕ → M → Row) (piece : List ℕ)
    (old new : Cutter) (rows : List Row) : Type 0 where
  pub bound_is : bound_of new ≡ bound_of old
  pub more : (stream : List ℕ) (messages : List M) → HasDecoded format stream messages (decoder_of old) →
      (further : List M) × HasDecoded format (stream ++ piece) (messages ++ further) (decoder_of new)
      × (rows ≡ rows_from row_of format.encoding (length (flat_map format.encoding messages)) further)
      × All (λ row. row.place + row.length ≤ length (stream ++ piece)) rows

-- where the stream that a cutter was fed stops being messages
abbrev pub EndsCutting : {M : Type 0} → Format M → Cutter → Option Fault → Type 0
EndsCutting {M} format cutter fault =
    (stream : List ℕ) (messages : List M) → HasDecoded format stream messages (decoder_of cutter) →
    IsFault format.reading (length (flat_map format.encoding messages)) (undecoded (decoder_of cutter)) fault

-- ---- parts

-- parts and further ones, joined class by class
abbrev pub joined : List (List ℕ) → List (List ℕ) → List (List ℕ)
joined [] further = []
joined (part ∷ parts) [] = []
joined (part ∷ parts) (next ∷ further) = (part ++ next) ∷ joined parts further

module _ {M : Type 0} (format : Format M) (round : M → Round) (class : Round → ℕ) (classes : ℕ) where
  -- a cutter was fed a stream, and these are the parts of the stream's messages so far
  pub record HasSplit (stream : List ℕ) (cutter : Cutter) (parts : List (List ℕ)) : Type 0 where
    pub messages : List M
    pub decoded : HasDecoded format stream messages (decoder_of cutter)
    pub parts_are : AreParts format round class classes messages parts

  -- A cutter that was fed a stream becomes that of the stream with a piece appended. The parts are those of the messages that
  -- the piece completes.
  pub record SplitsMore (piece : List ℕ) (old new : Cutter) (parts : List (List ℕ)) : Type 0 where
    pub bound_is : bound_of new ≡ bound_of old
    pub more : (stream : List ℕ) (messages : List M) → HasDecoded format stream messages (decoder_of old) →
        (further : List M) × HasDecoded format (stream ++ piece) (messages ++ further) (decoder_of new)
        × AreParts format round class classes further parts

  -- The parts of a piece, joined class by class to those of the pieces before it, are those of the stream so far. These are the
  -- parts into which the stream is cut as a whole.
  pub record JoinsParts (piece : List ℕ) (old new : Cutter) (parts : List (List ℕ)) : Type 0 where
    pub more : (stream : List ℕ) (before : List (List ℕ)) → HasSplit stream old before →
        HasSplit (stream ++ piece) new (joined before parts)
    pub whole : (stream : List ℕ) (all : List (List ℕ)) (shards : Shards) → HasSplit stream new all →
        IsSplit format round class classes stream shards → (bytes_of shards ≡ all) × (shards.read ≡ read_by new)
