use Rattle.simplex_base.specs.VarintLaws.{many_groups_at}
use Rattle.simplex_base.proofs.codec.varint.short_groups.Goals as goal

pub returns-then-high-ge128-clause-long_wide : goal.returns-then-high-ge128-clause-long_wide
returns-then-high-ge128-clause-long_wide c = λ _. many_groups_at 5 2 c.args.bytes.now c.in-len1-up.len_at_least
    c.if-low-lt128.false c.in-len1-up-rest.len_at_least c.if-middle-lt128.false c.in-len1-up-rest-2.len_at_least
    c.if-high-ge128.true

pub returns-then-high-ge128-clause-long_narrow : goal.returns-then-high-ge128-clause-long_narrow
returns-then-high-ge128-clause-long_narrow c = λ _. many_groups_at 0 16 c.args.bytes.now c.in-len1-up.len_at_least
    c.if-low-lt128.false c.in-len1-up-rest.len_at_least c.if-middle-lt128.false c.in-len1-up-rest-2.len_at_least
    c.if-high-ge128.true
