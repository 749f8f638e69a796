-- What a program says as it ends.
use Rattle.std.specs.Prelude.{ℕ, List, [], ◌++◌, Some, None, Ok, Err, codes, decimal}
use Rattle.simplex_cli.specs.Answer.{Ending}
use Rattle.simplex_cli.specs.Program.{name_of, usage_of}
use Rattle.simplex_cli.specs.declared.program.Program.{Program}
use Rattle.simplex_cli.specs.declared.status.Failure.{Failure}
use Rattle.simplex_cli.specs.declared.status.Failure.TheVariants.{Usage, Read, Write, OutOfMemory}

-- what is said of a failure
abbrev pub complaint_of : Program → Failure → List ℕ
complaint_of program Usage = codes "usage: " ++ (name_of program ++ usage_of program)
complaint_of program Read = name_of program ++ codes ": read failed\n"
complaint_of program Write = name_of program ++ codes ": write failed\n"
complaint_of program OutOfMemory = name_of program ++ codes ": out of memory\n"

-- what is said of a fault at a byte of the stream
abbrev pub complaint_at : Program → ℕ → List ℕ
complaint_at program place = name_of program ++ (codes ": fault at byte " ++ (decimal place ++ codes "\n"))

-- what is said on standard error after an ending
abbrev pub said_of : Program → Ending → List ℕ
said_of program (Ok None) = []
said_of program (Ok (Some fault)) = complaint_at program fault.place
said_of program (Err failure) = complaint_of program failure
