use Rattle.std.proofs.Common.{arith}
use Rattle.std.proofs.lemmas.Bool.{ltb-true}
use Rattle.simplex_evidence.proofs.GapLemmas.{below}
use Rattle.simplex_evidence.proofs.sorted.is_below.Goals as goal

pub returns : goal.returns
returns g c h i d le lt =
    let less = ltb-true _ _ h in
    below g.T.Keyed.key_of c.args.items.now c.requires.ordered c.args.place c.args.key c.index-items-place.result
    (omega arith) c.index-items-place.is (omega (arith, less, c.key.ensures)) i d le lt
