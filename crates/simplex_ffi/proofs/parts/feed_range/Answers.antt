use Rattle.std.proofs.Common.{◌≡◌, ◌+◌, ◌-◌, ◌++◌, ℕ, List, take, drop, ap, arith}
use Rattle.std.proofs.lemmas.Result.{IfOk-weaker}
use Rattle.simplex_rules.specs.Independence.{first_round}
use Rattle.simplex_ffi.proofs.FeedLemmas.{stands_for_same}
use Rattle.simplex_ffi.proofs.parts.feed_range.Goals as goal

pub returns-clause-stands : goal.returns-clause-stands
returns-clause-stands g c =
    let range = c.args.range.now in
    let behind = drop range.place c.args.stream.now in
    let same : take (range.place + range.length - range.place) behind ≡ take range.length behind =
    ap (λ (n : ℕ). take n behind) (omega arith) in
    IfOk-weaker c.feed.result _ _ (λ next stands committees bytes before.
    stands_for_same _ committees next _ _ (ap (λ (piece : List ℕ). bytes ++ piece) same)
    (stands first_round committees bytes before)) c.feed.ensures.stands
