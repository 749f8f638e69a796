use Rattle.std.proofs.Common.{◌≡◌, ℕ, false, map, string_bytes}
use Rattle.std.specs.Int.NonZero.{non_zero_u32_get}
use Rattle.simplex_audit.specs.Outcome.{writer_use}
use Rattle.simplex_base.specs.Format.{Format}
use Rattle.simplex_splitting.specs.Ending.{AreCutBefore, any_fault}
use Rattle.simplex_splitting.specs.Splitting.{IsReadAs}
use Rattle.simplex_stream.specs.Watched.{has_failed}
use Rattle.simplex_splitting.proofs.cutting.cut_files.Given as goal

-- the format of messages under a bound
abbrev pub format : (g : goal.Over) → ℕ → Format g.row.M.Denot
format g bound = record {
  is_value = g.M.Read.fits bound;
  encoding = g.M.Encoding.encoding;
  reading = g.M.Read.reading bound;
}

abbrev pub invariant-files : goal.invariant-files
invariant-files g l = (has_failed l.output ≡ false) × (l.place ≡ l.name-index) × (g.P.Parts.has_failed l.parts ≡ false)
    × ((cut : AreCutBefore (IsReadAs (format g (non_zero_u32_get l.options.division.bound))) (map string_bytes l.names)
    (writer_use g.W.Write.contents l.fn.output l.output) l.place) × (l.faulted ≡ any_fault cut.all))
