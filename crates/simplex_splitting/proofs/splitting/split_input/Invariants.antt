use Rattle.std.proofs.Common.{◌-◌, ◌^◌, ◌≡◌, ◌<◌, ◌≤◌, ℕ, List, length, false, vec_len}
use Rattle.std.specs.Io.KnownBytes.{Consumes}
use Rattle.simplex_base.specs.Format.{Format}
use Rattle.simplex_shards.specs.Cut.{class_under}
use Rattle.simplex_shards.specs.Pieces.{fed_by}
use Rattle.simplex_splitting.specs.Splitting.{IsCutSoFar}
use Rattle.simplex_stream.specs.Watched.{inner_of, has_failed}
use Rattle.simplex_splitting.proofs.splitting.split_input.Given as goal

-- the format of messages under a bound
abbrev pub format : (g : goal.Over) → ℕ → Format g.row.M.Denot
format g bound = record {
  is_value = g.M.Read.fits bound;
  encoding = g.M.Encoding.encoding;
  reading = g.M.Read.reading bound;
}

abbrev pub invariant-pieces : goal.invariant-pieces
invariant-pieces g l = (has_failed l.reader ≡ false) × (g.P.Parts.has_failed l.parts ≡ false) × (0 < vec_len l.piece)
    × (fed_by l.cutter ≤ l.seen)
    × ((input : List ℕ) × Consumes (g.R.Read.remaining (inner_of l.fn.reader)) (g.R.Read.remaining (inner_of l.reader)) input
    × (l.seen ≡ length input)
    × IsCutSoFar (format g l.bound) g.M.Roundable.round_of (class_under l.cut) l.bound l.cutter input
    (g.P.Parts.contents l.fn.parts) (g.P.Parts.contents l.parts))

-- how many bytes may still come
abbrev pub decreases-pieces : goal.decreases-pieces
decreases-pieces g l = 2 ^ 64 - 1 - l.seen
