-- What a decoder has decoded of a stream that comes in pieces.
use Rattle.std.specs.Prelude.{◌≡◌, ℕ, Bool, IsTrue, List, ◌++◌, length}
use Rattle.simplex_base.specs.Format.{Format}
use Rattle.simplex_stream.specs.Messages.{AreMessages, IsOver}
use Rattle.simplex_stream.specs.Tail.{Awaits, bytes_held}
use Rattle.simplex_stream.specs.declared.decoder.Decoder.{Decoder}
use Rattle.simplex_stream.specs.declared.tail.Tail.{Tail}

-- how many bytes it was fed
abbrev pub bytes_fed : Decoder → ℕ
bytes_fed decoder = decoder.fed

-- how many messages it has decoded
abbrev pub messages_read : Decoder → ℕ
messages_read decoder = decoder.read

-- its tail, the undecoded one
abbrev pub tail_of : Decoder → Tail
tail_of decoder = decoder.tail

-- the bytes of its tail
abbrev pub undecoded : Decoder → List ℕ
undecoded decoder = bytes_held (tail_of decoder)

-- whether nothing that follows can be decoded
abbrev pub decoding_over : Decoder → Bool
decoding_over decoder = decoder.over

-- The decoder was fed exactly the stream and has decoded its messages. Its tail awaits the next.
pub record HasDecoded {M : Type 0} (format : Format M) (stream : List ℕ) (messages : List M) (decoder : Decoder) : Type 0 where
  pub are_messages : AreMessages format stream messages (undecoded decoder)
  pub read_is : messages_read decoder ≡ length messages
  pub fed_is : bytes_fed decoder ≡ length stream
  pub awaits : Awaits format (tail_of decoder)
  pub over : IsTrue (decoding_over decoder) → IsOver format.reading (undecoded decoder)

-- the decoder of a stream becomes that of the stream with a piece appended, and the messages that the piece completes are
-- recorded
abbrev pub DecodesMore : {M : Type 0} → Format M → (List M → Type 0) → List ℕ → Decoder → Decoder → Type 0
DecodesMore {M} format Recorded piece old new =
    (stream : List ℕ) (messages : List M) → HasDecoded format stream messages old →
    (more : List M) × HasDecoded format (stream ++ piece) (messages ++ more) new × Recorded more
