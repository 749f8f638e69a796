use Rattle.std.proofs.Common.{arith}
use Rattle.simplex_base.specs.VarintLaws.{step_of_power, some_of_power}
use Rattle.simplex_base.proofs.codec.varint.read_number.Goals as goal

pub overflow_mul-result : goal.overflow_mul-result
overflow_mul-result c =
    let e = step_of_power c.args.top c.args.more c.requires.some.0 in omega (arith, c.in_ok-high-in-len1-up.ensures.range)

pub overflow_add-result : goal.overflow_add-result
overflow_add-result c =
    let e = step_of_power c.args.top c.args.more c.requires.some.0 in omega (arith, c.in_ok-high-in-len1-up.ensures.range)

pub returns-then-group-lt128-clause-range : goal.returns-then-group-lt128-clause-range
returns-then-group-lt128-clause-range c =
    let e = some_of_power c.args.top c.args.more c.requires.some.0 c.requires.some.1 in omega arith

pub returns-in_ok-high-in-len1-up-clause-range : goal.returns-in_ok-high-in-len1-up-clause-range
returns-in_ok-high-in-len1-up-clause-range c =
    let e = step_of_power c.args.top c.args.more c.requires.some.0 in omega (arith, c.in_ok-high-in-len1-up.ensures.range)
