use Rattle.std.proofs.Common.{◌+◌, ◌-◌, ◌≤◌, take, length}
use Rattle.std.specs.Io.KnownBytes.{Appends}
use Rattle.simplex_stream.specs.Watched.{inner_of}
use Rattle.simplex_cli.proofs.command.say.Given as goal

abbrev pub invariant-parts : goal.invariant-parts
invariant-parts g l =
    (l.count ≤ length l.text)
    × Appends (g.E.Write.contents (inner_of l.fn.errors)) (g.E.Write.contents (inner_of l.errors)) (take l.count l.text)

-- a write takes a byte at least, or uses up one of those that are made again
abbrev pub decreases-parts : goal.decreases-parts
decreases-parts g l = (length l.text - l.count) + l.again
