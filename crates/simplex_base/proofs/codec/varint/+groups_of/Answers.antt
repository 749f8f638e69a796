use Rattle.std.proofs.Common.{arith, ◌<◌}
use Rattle.simplex_base.specs.VarintLaws.{step_of_power, some_of_power}
use Rattle.simplex_base.proofs.codec.varint.+groups_of.Goals as goal

pub groups_of-requires : goal.groups_of-requires
groups_of-requires t c =
    let p : 0 < c.args.more = omega arith in
    let e = step_of_power c.args.top c.args.more p in
    (omega arith, omega arith)

pub overflow_mul-result : goal.overflow_mul-result
overflow_mul-result t c =
    let p : 0 < c.args.more = omega arith in
    let e = step_of_power c.args.top c.args.more p in omega (arith, c.in_ok-high-in-len1-up.ensures.range)

pub overflow_add-result : goal.overflow_add-result
overflow_add-result t c =
    let p : 0 < c.args.more = omega arith in
    let e = step_of_power c.args.top c.args.more p in omega (arith, c.in_ok-high-in-len1-up.ensures.range)

pub returns-then-group-gt0-2-clause-range : goal.returns-then-group-gt0-2-clause-range
returns-then-group-gt0-2-clause-range t c =
    let p : 0 < c.args.more = omega arith in
    let e = some_of_power c.args.top c.args.more p c.requires.some in omega arith

pub returns-in_ok-high-in-len1-up-clause-range : goal.returns-in_ok-high-in-len1-up-clause-range
returns-in_ok-high-in-len1-up-clause-range t c =
    let p : 0 < c.args.more = omega arith in
    let e = step_of_power c.args.top c.args.more p in omega (arith, c.in_ok-high-in-len1-up.ensures.range)
