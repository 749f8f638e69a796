use Rattle.std.proofs.Common.{◌+◌, ◌-◌, ◌^◌, ◌≡◌, ◌<◌, ℕ, List, false, length}
use Rattle.std.specs.Io.KnownBytes.{Consumes}
use Rattle.simplex_stream.specs.Watched.{inner_of, has_failed}
use Rattle.simplex_inspect.proofs.input.drop_rest.Given as given

abbrev pub invariant-drops : given.invariant-drops
invariant-drops g l = (has_failed l.reader ≡ false) × (0 < length l.piece)
    × ((more : List ℕ) × Consumes (g.R.Read.remaining (inner_of l.fn.reader)) (g.R.Read.remaining (inner_of l.reader)) more
    × (l.count ≡ l.seen + length more))

-- how many bytes may still be seen
abbrev pub decreases-drops : given.decreases-drops
decreases-drops g l = 2 ^ 64 - 1 - l.count
