use Rattle.std.proofs.Common.{◌+◌, ◌≤◌, drop, get_or, subst, sym, arith, rules}
use Rattle.std.proofs.lemmas.List.{drop_more}
use Rattle.simplex_shards.specs.Ranges.{end_of_range}
use Rattle.simplex_shards.specs.declared.ranges.Range.{Range}
use Rattle.simplex_ffi.proofs.WithinLemmas.{Fit, fit_more}
use Rattle.simplex_ffi.proofs.within.are_within.Goals as goal

pub each-preserved : goal.each-preserved
each-preserved c =
    let none : Range = record { place = 0; length = 0 } in
    let ranges = c.args.ranges.now in
    let i = c.each.range-index in
    let r = get_or ranges i none in
    let more = drop_more ranges i none c.each-test.true in
    let here : end_of_range r ≤ c.args.size = search rules in
    let step = fit_more c.args.size c.each.room r (drop (i + 1) ranges) here (omega (arith, c.if-range-room.false)) in (
      λ fit. c.each.invariant.0 (subst (Fit c.args.size c.each.room) (sym more) (step.1 fit)),
      λ within. step.0 (subst (Fit c.args.size c.each.room) more (c.each.invariant.1 within)),
    )
