use Rattle.std.proofs.Common.{◌<◌, ◌-◌, length, arith, ◌∙◌, sym}
use Rattle.simplex_cli.proofs.GroupLemmas.{above_last, last_below, lt_told}
use Rattle.simplex_cli.proofs.groups.is_above.Goals as goal

pub returns-in-Some : goal.returns-in-Some
returns-in-Some g c =
    let some : length c.args.pairs.now - 1 < length c.args.pairs.now = omega (arith, c.in-Some.ensures.item.3.0) in
    let is = c.in-Some.ensures.item.3.1 c.in-Some.last.now in
    let told = lt_told c.in-Some.last.now.0 c.args.epoch in (
      λ yes. above_last c.args.pairs.now c.in-Some.last.now c.args.epoch c.requires some is (told.0 (sym c.lt.ensures ∙ yes)),
      λ all. c.lt.ensures ∙ told.1 (last_below c.args.pairs.now c.in-Some.last.now c.args.epoch some is all),
    )
