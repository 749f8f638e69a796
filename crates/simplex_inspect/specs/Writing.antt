-- What a writer of lines does with messages.
use Rattle.std.specs.Prelude.{◌≡◌, ◌+◌, ◌++◌, List, length, string_bytes}
use Rattle.std.specs.List.{flat_map}
use Rattle.simplex_inspect.specs.Inspected.{Lines, lines_from}
use Rattle.simplex_inspect.specs.declared.reading.LineWriter.{LineWriter}

-- the lines of these messages were appended, the first of which begins at the offset
pub record WritesLines {M : Type 0} (lines : Lines M) (messages : List M) (old new : LineWriter) : Type 0 where
  pub text_is : string_bytes new.text ≡
      string_bytes old.text ++ lines_from lines.line lines.format.encoding old.offset messages
  pub offset_is : new.offset ≡ old.offset + length (flat_map lines.format.encoding messages)
