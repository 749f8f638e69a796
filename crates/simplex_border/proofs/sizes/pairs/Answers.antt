use Rattle.std.proofs.Common.{◌<◌, length, arith}
use Rattle.simplex_border.proofs.SizeLemmas.{pairs_more, pairs_whole}
use Rattle.simplex_border.proofs.sizes.pairs.Goals as goal

pub epochs-preserved : goal.epochs-preserved
epochs-preserved g c =
    let within : c.epochs.i < length c.args.sizes.now = omega (arith, c.requires.same, c.epochs-test.true) in
    let more = pairs_more c.args.epochs.now c.args.sizes.now c.epochs.i c.epochs.pairs.items _ c.epochs-test.true within
    c.epochs.invariant in
    rw (c.in_ok-push.ensures.items, c.new.ensures, c.in_ok-new.ensures) more

pub returns : goal.returns
returns g c =
    pairs_whole c.args.epochs.now c.args.sizes.now c.epochs.i c.epochs.pairs.items _ c.epochs-test.false c.epochs.invariant
