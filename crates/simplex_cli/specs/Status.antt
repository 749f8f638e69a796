-- How a program ends.
use Rattle.std.specs.Prelude.{ℕ, Bool, true, false}
use Rattle.simplex_stream.specs.declared.run_error.RunError.{RunError}
use Rattle.simplex_stream.specs.declared.run_error.RunError.TheVariants as errors
use Rattle.simplex_cli.specs.declared.status.Status.{Status}
use Rattle.simplex_cli.specs.declared.status.Status.TheVariants as statuses
use Rattle.simplex_cli.specs.declared.status.Failure.{Failure}
use Rattle.simplex_cli.specs.declared.status.Failure.TheVariants.{Usage, Read, Write, OutOfMemory}

-- the number that the process ends with: 0 where the whole stream was read, 1 where there is a fault in it, 2 where
-- the arguments are no namespace and keys, 3 where a read, a write or an allocation failed
abbrev pub number_of : Status → ℕ
number_of statuses.Whole = 0
number_of statuses.Fault = 1
number_of statuses.Usage = 2
number_of statuses.Failed = 3

-- the status after a failure
abbrev pub status_after : Failure → Status
status_after Usage = statuses.Usage
status_after Read = statuses.Failed
status_after Write = statuses.Failed
status_after OutOfMemory = statuses.Failed

-- the failure of a run's error: input of more than 2^64 - 1 bytes cannot be read
abbrev pub failure_of : RunError → Failure
failure_of errors.Read = Read
failure_of errors.TooLong = Read
failure_of errors.Write = Write
failure_of errors.OutOfMemory = OutOfMemory

-- whether two statuses are the same
abbrev pub same_status : Status → Status → Bool
same_status statuses.Whole statuses.Whole = true
same_status statuses.Fault statuses.Fault = true
same_status statuses.Usage statuses.Usage = true
same_status statuses.Failed statuses.Failed = true
same_status _ _ = false

-- whether two failures are the same
abbrev pub same_failure : Failure → Failure → Bool
same_failure Usage Usage = true
same_failure Read Read = true
same_failure Write Write = true
same_failure OutOfMemory OutOfMemory = true
same_failure _ _ = false
