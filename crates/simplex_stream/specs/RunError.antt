-- Whether two failures are the same.
use Rattle.std.specs.Prelude.{Bool, true, false}
use Rattle.simplex_stream.specs.declared.run_error.RunError.{RunError}
use Rattle.simplex_stream.specs.declared.run_error.RunError.TheVariants.{Read, Write, OutOfMemory, TooLong}

-- whether two failures of a run are the same
abbrev pub same_run_error : RunError → RunError → Bool
same_run_error Read Read = true
same_run_error Write Write = true
same_run_error OutOfMemory OutOfMemory = true
same_run_error TooLong TooLong = true
same_run_error _ _ = false
