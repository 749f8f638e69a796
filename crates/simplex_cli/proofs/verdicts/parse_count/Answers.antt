use Rattle.std.proofs.Common.{rules, ◌<◌, ◌^◌}
use Rattle.simplex_cli.proofs.VerdictLemmas.{same_count}
use Rattle.simplex_cli.proofs.verdicts.parse_count.Goals as goal

pub returns-then-not-is_committee_size-clause-usage : goal.returns-then-not-is_committee_size-clause-usage
returns-then-not-is_committee_size-clause-usage c = λ count size named.
    let small : c.in_ok-number.number < 2 ^ 64 = search rules in
    let is = same_count c.args.text.now c.in_ok-number.number count small c.in_ok-number.ensures.number size named in
    cc (c.if-not-is_committee_size.ensures.1 is)
