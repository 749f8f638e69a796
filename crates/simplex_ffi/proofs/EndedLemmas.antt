-- The statuses of streams.
use Rattle.std.proofs.Common.{◌≤◌, Option, Some, None, arith}
use Rattle.simplex_stream.specs.declared.fault.Fault.{Fault}
use Rattle.simplex_border.specs.Answer.{ended_of}

-- a stream was read whole, or has a fault
pub ended_below : (fault : Option Fault) → ended_of fault ≤ 1
ended_below None = omega arith
ended_below (Some fault) = omega arith
