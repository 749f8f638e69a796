-- What is said of an auditor, said of the one that a handle owns.
use Rattle.std.specs.Prelude.{Some}
use Rattle.simplex_handle.specs.Held.{Held}
use Rattle.simplex_handle.specs.Roster.{Bases, Roster}
use Rattle.simplex_handle.specs.Standing.{Between, Relation}

-- it is said of what a handle owned before and after a call
abbrev pub InHandle : Bases → Relation → Roster → Held → Held → Type 0
InHandle bases R roster (Some old) (Some new) = Between bases R roster old new
InHandle bases R roster _ _ = ⊥
