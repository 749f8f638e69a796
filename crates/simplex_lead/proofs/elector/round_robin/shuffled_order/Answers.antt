use Rattle.std.proofs.Common.{◌∙◌, ap, arith, length}
use Rattle.std.proofs.lemmas.List.FromFn.{length-range_with_len}
use Rattle.std.proofs.lemmas.List.Sorted.{length_permutation}
use Rattle.simplex_lead.proofs.Orders.{order_made}
use Rattle.simplex_lead.proofs.elector.round_robin.shuffled_order.Goals as goal

pub returns : goal.returns
returns g c =
    rw c.of.ensures (order_made g.H.Digest.Ord.cmp g.met.H.Digest.Ord.total g.H.Hasher.digest_of c.args.seed.now _ _ _
    c.in_ok-order.ensures c.in_ok-shuffle.ensures.permutation c.in_ok-shuffle.ensures.sorted)

pub of-requires : goal.of-requires
of-requires g c =
    let long = length_permutation _ _ c.in_ok-shuffle.ensures.permutation ∙ ap length c.in_ok-order.ensures
    ∙ length-range_with_len 0 c.args.n in
    omega (arith, long, c.ranges.n.fits)
