-- A scheme that counts what it verifies signs nothing.
use Rattle.std.specs.Prelude.{ℕ, Option, None}

-- the participant that signs here: none
abbrev pub nobody : Option ℕ
nobody = None
