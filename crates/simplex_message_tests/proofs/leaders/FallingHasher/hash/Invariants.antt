use Rattle.std.proofs.Common.{◌≡◌, take}
use Rattle.std.specs.List.{fold}
use Rattle.simplex_scheme.specs.Hashing.{joined}
use Rattle.simplex_message_tests.proofs.leaders.FallingHasher.hash.Given as goal

abbrev pub invariant-loop-part : goal.invariant-loop-part
invariant-loop-part l = l.last ≡ fold (λ _ byte. byte) 0 (joined (take l.part-index l.parts))
