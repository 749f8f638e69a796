use Rattle.std.proofs.Common.{arith, ap, ◌∙◌}
use Rattle.simplex_ballots.specs.Firsts.{held_from}
use Rattle.simplex_ballots.proofs.TableLemmas.{grown}
use Rattle.simplex_ballots.proofs.firsts.fill_places.Goals as goal

pub returns-in_ok-resize-clause-votes : goal.returns-in_ok-resize-clause-votes
returns-in_ok-resize-clause-votes c =
    ap (held_from 0) c.in_ok-resize.ensures.items
    ∙ grown c.args.places.now.items c.args.participants _ (omega (arith, c.if-len-participants.true, c.len.ensures))
