-- How the runs of each program end.
use Rattle.std.specs.Prelude.{ℕ, List}
use Rattle.simplex_audit.specs.Outcome.{ReaderUse, WriterUse}
use Rattle.simplex_cli.specs.Answer.{Bases, Ending, Ends}
use Rattle.simplex_cli.specs.Arguments.{AreNoArguments}
use Rattle.simplex_cli.specs.Compacting.{CompactEnds, NameNoFloor}
use Rattle.simplex_cli.specs.Inspecting.{GiveNothing, LinesUnder, InspectEnds}
use Rattle.simplex_cli.specs.declared.program.Program.{Program}
use Rattle.simplex_cli.specs.declared.program.Program.TheVariants.{Audit, Compact, Inspect}

-- the words are no arguments of the program
abbrev pub AreRefused : Program → List (List ℕ) → Type 0
AreRefused (Audit verification) words = AreNoArguments words
AreRefused Compact words = NameNoFloor words
AreRefused Inspect words = GiveNothing words

-- what holds of the arguments, of the reader and of the writer after an ending of the program
abbrev pub EndsAs : Bases → LinesUnder → Program → List (List ℕ) → ReaderUse → WriterUse → Ending → Type 0
EndsAs basis lines (Audit verification) words reader writer ending = Ends basis words reader writer ending
EndsAs basis lines Compact words reader writer ending = CompactEnds basis words reader writer ending
EndsAs basis lines Inspect words reader writer ending = InspectEnds lines words reader writer ending
