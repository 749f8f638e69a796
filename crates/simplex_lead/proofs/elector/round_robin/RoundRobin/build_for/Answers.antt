use Rattle.std.proofs.Common.{◌≡◌, ◌∙◌, ap, arith}
use Rattle.std.specs.Option.{option_copied}
use Rattle.simplex_lead.proofs.Orders.{order_arranged, arranged_long, each_leads_once}
use Rattle.simplex_lead.specs.OrderLaws.{one_order}
use Rattle.simplex_lead.specs.Rotation.{IsArrangement, IsOrder}
use Rattle.simplex_lead.proofs.elector.round_robin.RoundRobin.build_for.Goals as goal

pub invariant_of-result : goal.invariant_of-result
invariant_of-result g c =
    let arranged : IsArrangement c.args.participants c.in_ok-order.order =
    order_arranged g.H.Digest.Ord.cmp g.met.H.Digest.Ord.total g.H.Hasher.digest_of _ _ _ c.in_ok-order.ensures.order in
    let long = arranged_long _ _ arranged in
    (rw long arranged, omega (arith, long, c.requires))

pub returns-clause-participants : goal.returns-clause-participants
returns-clause-participants g c =
    let arranged : IsArrangement c.args.participants c.in_ok-order.order =
    order_arranged g.H.Digest.Ord.cmp g.met.H.Digest.Ord.total g.H.Hasher.digest_of _ _ _ c.in_ok-order.ensures.order in
    arranged_long _ _ arranged

pub returns-clause-single : goal.returns-clause-single
returns-clause-single g c other is =
    let seed : option_copied c.as_deref.result ≡ c.args.self.seed =
    c.as_deref.ensures.value ∙ ap (λ s. s.seed) c.self.view_is in
    let same : IsOrder g.H.Digest.Ord.cmp g.H.Hasher.digest_of (option_copied c.as_deref.result) c.args.participants other =
    rw seed is in
    one_order g.H.Digest.Ord.cmp g.met.H.Digest.Ord.total g.H.Hasher.digest_of _ _ _ _ c.in_ok-order.ensures.order same

pub returns-clause-once : goal.returns-clause-once
returns-clause-once g c epoch first fits =
    let arranged : IsArrangement c.args.participants c.in_ok-order.order =
    order_arranged g.H.Digest.Ord.cmp g.met.H.Digest.Ord.total g.H.Hasher.digest_of _ _ _ c.in_ok-order.ensures.order in
    let long = arranged_long _ _ arranged in
    each_leads_once _ epoch first (rw long arranged) (omega (arith, long, c.requires)) (omega (arith, long, fits))
