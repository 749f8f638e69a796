use Rattle.std.proofs.Common.{List, get_or, subst, sym, take}
use Rattle.std.proofs.lemmas.List.{take_all, take_more}
use Rattle.simplex_shards.specs.Cut.{class_under}
use Rattle.simplex_shards.specs.Ranges.{AreRanges}
use Rattle.simplex_shards.specs.declared.index.Row.{Row}
use Rattle.simplex_shards.proofs.RangeLemmas.{ranges_more}
use Rattle.simplex_shards.proofs.ranges.ranges.Goals as goal

pub rows-preserved : goal.rows-preserved
rows-preserved c =
    let rows = c.args.rows.now in
    let first : Row = record { epoch = 0; view = 0; place = 0; length = 0; attestations = 0; kind = 0 } in
    let row = get_or rows c.rows.row-index first in
    subst (λ (xs : List Row). AreRanges (class_under c.args.cut.now) c.args.class xs c.push_row.new.ranges.items)
    (sym (take_more rows c.rows.row-index first c.rows-test.true))
    (ranges_more (class_under c.args.cut.now) c.args.class (take c.rows.row-index rows) row c.rows.ranges.items _
    c.rows.invariant c.in_ok-push_row.ensures)

pub returns : goal.returns
returns c =
    subst (λ (xs : List Row). AreRanges (class_under c.args.cut.now) c.args.class xs c.rows.ranges.items)
    (take_all c.rows.row-index c.args.rows.now c.rows-test.false) c.rows.invariant
