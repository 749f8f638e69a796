-- Whether two pieces were fed in the same way.
use Rattle.std.specs.Prelude.{Bool, true, false}
use Rattle.simplex_tracker.specs.declared.live.Fed.{Fed}
use Rattle.simplex_tracker.specs.declared.live.Fed.TheVariants.{Taken, Over, Long, OutOfMemory}

-- whether both were fed, or both dropped for the same reason
abbrev pub same_fed : Fed → Fed → Bool
same_fed Taken Taken = true
same_fed Over Over = true
same_fed Long Long = true
same_fed OutOfMemory OutOfMemory = true
same_fed _ _ = false
