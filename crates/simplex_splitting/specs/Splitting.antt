-- An input that is cut into parts by the classes of its messages' rounds.
use Rattle.std.specs.Prelude.{◌≡◌, ◌⊎◌, ◌++◌, ℕ, IsTrue, List, [], length}
use Rattle.std.specs.List.{flat_map}
use Rattle.std.specs.Io.KnownBytes.{Appends}
use Rattle.simplex_base.specs.Format.{Format}
use Rattle.simplex_base.specs.Positions.{Round}
use Rattle.simplex_shards.specs.Pieces.{bound_of, decoder_of}
use Rattle.simplex_shards.specs.Split.{of_class}
use Rattle.simplex_shards.specs.declared.pieces.Cutter.{Cutter}
use Rattle.simplex_splitting.specs.Parts.{Contents}
use Rattle.simplex_splitting.specs.declared.splitting.Totals.{Totals}
use Rattle.simplex_stream.specs.Decoder.{HasDecoded, decoding_over}
use Rattle.simplex_stream.specs.Fault.{IsFault}
use Rattle.simplex_stream.specs.Messages.{AreMessages}
use Rattle.simplex_stream.specs.Text.{AppendsBeginning}

-- An input has so many messages, up to its end or first fault.
pub record IsReadAs {M : Type 0} (format : Format M) (input : List ℕ) (totals : Totals) : Type 0 where
  pub messages : List M
  pub rest : List ℕ
  pub are_messages : AreMessages format input messages rest
  pub read_is : totals.read ≡ length messages
  pub fault_is : IsFault format.reading (length (flat_map format.encoding messages)) rest totals.fault

module _ {M : Type 0} (format : Format M) (round : M → Round) (class : Round → ℕ) where
  -- the bytes of the messages of one class, in their order
  abbrev pub class_bytes : ℕ → List M → List ℕ
  class_bytes i messages = flat_map format.encoding (of_class round class i messages)

  -- The input was read to its end or first fault, and to the part of each class exactly its messages were appended.
  pub record IsCutInto (input : List ℕ) (totals : Totals) (old new : Contents) : Type 0 where
    pub read : IsReadAs format input totals
    pub parts : (i : ℕ) → Appends (old i) (new i) (class_bytes i read.messages)

  -- to each part a prefix of its messages' bytes was appended, perhaps nothing or all
  abbrev pub BeginsCut : List ℕ → Contents → Contents → Type 0
  BeginsCut input old new =
      (messages : List M) (rest : List ℕ) → AreMessages format input messages rest →
      (i : ℕ) → AppendsBeginning (old i) (new i) (class_bytes i messages)

  -- ---- inside

  -- An input was cut so far, or a front of it behind which nothing can be read.
  pub record IsCutSoFar (bound : ℕ) (cutter : Cutter) (input : List ℕ) (old new : Contents) : Type 0 where
    pub bound_is : bound_of cutter ≡ bound
    pub front : List ℕ
    pub behind : List ℕ
    pub split : input ≡ front ++ behind
    pub unread : (behind ≡ []) ⊎ IsTrue (decoding_over (decoder_of cutter))
    pub messages : List M
    pub decoded : HasDecoded format front messages (decoder_of cutter)
    pub parts : (i : ℕ) → Appends (old i) (new i) (class_bytes i messages)
