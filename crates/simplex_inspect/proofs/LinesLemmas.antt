-- The lines of one message, and of all that were read.
use Rattle.std.proofs.Common.{◌≡◌, ℕ, ◌+◌, List, [], ◌∷◌, ◌++◌, length, Option, sym, ap, ◌∙◌, arith, append-nil, length-append, string_bytes}
use Rattle.std.specs.List.{flat_map}
use Rattle.simplex_base.specs.declared.codec.error.Error.{Error}
use Rattle.simplex_stream.specs.PlaceLaws.{place_behind_one}
use Rattle.simplex_stream.specs.Progress.{IsProgress}
use Rattle.simplex_inspect.specs.Inspected.{Lines, AreShown, lines_from}
use Rattle.simplex_inspect.specs.Writing.{WritesLines}
use Rattle.simplex_inspect.specs.declared.reading.LineWriter.{LineWriter}

module _ {M : Type 0} (lines : Lines M) where
  -- one line was written
  pub writes_one : (m : M) (size : ℕ) (one : List ℕ) (a b : LineWriter) → size ≡ length (lines.format.encoding m) →
      one ≡ lines.line a.offset size m → string_bytes b.text ≡ string_bytes a.text ++ one → b.offset ≡ a.offset + size →
      WritesLines lines (m ∷ []) a b
  writes_one m size one a b len is grown moved =
      let here : List ℕ → List ℕ = λ t. string_bytes a.text ++ t in
      let placed = ap (λ (n : ℕ). lines.line a.offset n m) len in
      record {
        text_is = grown ∙ ap here (is ∙ (placed ∙ sym (append-nil _)));
        offset_is = place_behind_one lines.format.encoding a.offset b.offset size m len moved;
      }

  -- what was read is shown
  pub shown_all : (old new : LineWriter) (bytes rest : List ℕ) (read : ℕ) (stop : Option Error) → string_bytes old.text ≡ [] →
      IsProgress lines.format (λ ms. WritesLines lines ms old new) bytes rest read stop →
      AreShown lines bytes rest old.offset new.offset stop (string_bytes new.text)
  shown_all old new bytes rest read stop empty p = record {
    messages = p.messages;
    are_messages = p.are_messages;
    stop_is = p.stop_is;
    behind_is = p.recorded.offset_is;
    text_is = p.recorded.text_is ∙
        ap (λ (t : List ℕ). t ++ lines_from lines.line lines.format.encoding old.offset p.messages) empty;
  }

  -- the bytes behind the messages follow them
  pub shown_whole : (old new : LineWriter) (bytes rest : List ℕ) (read : ℕ) (stop : Option Error) →
      IsProgress lines.format (λ ms. WritesLines lines ms old new) bytes rest read stop →
      new.offset + length rest ≡ old.offset + length bytes
  shown_whole old new bytes rest read stop p =
      let moved = p.recorded.offset_is in
      let whole = ap length p.are_messages.whole in
      omega (arith, moved, whole, length-append (flat_map lines.format.encoding p.messages) rest)
