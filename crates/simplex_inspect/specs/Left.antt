-- What is left of a stream when the lines of its first messages were written.
use Rattle.std.specs.Prelude.{ℕ, ◌+◌, List, Option, IsTrue, length}
use Rattle.simplex_stream.specs.Messages.{IsOver}
use Rattle.simplex_stream.specs.Tail.{bytes_held}
use Rattle.simplex_inspect.specs.Inspected.{Lines, IsWritten}
use Rattle.simplex_inspect.specs.declared.left.Left.{Left}

-- how many bytes of the stream were seen: those of its first messages, and what is left
abbrev pub bytes_seen : Left → ℕ
bytes_seen left = left.offset + length (bytes_held left.tail)

-- It is what is left of the input, and the lines of the messages before it were written. If it says so, reading it is refused
-- whatever follows.
pub record IsLeft {M : Type 0} (lines : Lines M) (left : Left) (input : List ℕ) (old new : Option (List ℕ)) : Type 0 where
  pub written : IsWritten lines input left.offset (bytes_held left.tail) old new
  pub over : IsTrue left.over → IsOver lines.format.reading (bytes_held left.tail)
