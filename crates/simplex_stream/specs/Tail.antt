-- The undecoded tail of a stream that comes in pieces.
use Rattle.std.specs.Prelude.{ℕ, List}
use Rattle.simplex_base.specs.Format.{Format}
use Rattle.simplex_base.specs.LeastSize.{NoneShorter}
use Rattle.simplex_stream.specs.declared.tail.Tail.{Tail}

-- its bytes
abbrev pub bytes_held : Tail → List ℕ
bytes_held tail = tail.held.items

-- how many of them there have to be before a message may be read there
abbrev pub due_of : Tail → ℕ
due_of tail = tail.due

-- no message begins with its bytes that is shorter than the number of bytes with which it is due
abbrev pub Awaits : {M : Type 0} → Format M → Tail → Type 0
Awaits format tail = NoneShorter format.is_value format.encoding (bytes_held tail) (due_of tail)
