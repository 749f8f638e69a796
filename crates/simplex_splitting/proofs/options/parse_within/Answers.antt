use Rattle.std.proofs.Common.{rules, arith, ◌≡◌, ◌<◌, ◌^◌}
use Rattle.simplex_splitting.proofs.OptionLemmas.{no_other}
use Rattle.simplex_splitting.proofs.options.parse_within.Goals as goal

pub returns-then-number-from-clause-usage : goal.returns-then-number-from-clause-usage
returns-then-number-from-clause-usage c = λ number low high is.
    let parsed : c.in_ok-number.number < 2 ^ 64 = search rules in
    let most = c.ranges.most.fits in
    let same = no_other c.args.text.now c.in_ok-number.number number parsed (omega (arith, high, most))
    c.in_ok-number.ensures.number is in
    let more = c.if-number-from.true in
    let from = c.from.ensures in
    omega (arith, same, high, more, from)

pub returns-in-None-clause-usage : goal.returns-in-None-clause-usage
returns-in-None-clause-usage c = λ number low high is.
    let parsed : c.in_ok-number.number < 2 ^ 64 = search rules in
    let most = c.ranges.most.fits in
    let same = no_other c.args.text.now c.in_ok-number.number number parsed (omega (arith, high, most))
    c.in_ok-number.ensures.number is in
    let none : c.in_ok-number.number ≡ 0 = search rules in
    omega (arith, same, low, none)
