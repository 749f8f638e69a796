-- What is appended to the parts of classes.
use Rattle.std.specs.Prelude.{ℕ, List, [], Option, get_or}
use Rattle.std.specs.Io.KnownBytes.{Appends}
use Rattle.simplex_stream.specs.Text.{AppendsBeginning}

-- what the part of each class has, if that is known
abbrev pub Contents : Type 0
Contents = ℕ → Option (List ℕ)

-- to the part of each class the bytes at its place were appended, if there is such a place
abbrev pub AppendEach : Contents → Contents → List (List ℕ) → Type 0
AppendEach old new more = (i : ℕ) → Appends (old i) (new i) (get_or more i [])

-- to each a prefix of them, perhaps nothing or all
abbrev pub BeginEach : Contents → Contents → List (List ℕ) → Type 0
BeginEach old new more = (i : ℕ) → AppendsBeginning (old i) (new i) (get_or more i [])
