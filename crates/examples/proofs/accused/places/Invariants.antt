use Rattle.std.proofs.Common.{◌≡◌, take}
use Rattle.std.specs.Prelude.{map}
use Rattle.examples.specs.Accused.{round_and_signer}
use Rattle.examples.proofs.accused.places.Given as goal

-- the rounds and the signers so far
abbrev pub invariant-loop-one : goal.invariant-loop-one
invariant-loop-one l = l.places.items ≡ map round_and_signer (take l.one-index l.evidence)
