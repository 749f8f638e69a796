use Rattle.std.proofs.Common.{arith, ◌≡◌}
use Rattle.simplex_schemes.proofs.MarkedLemmas.{numbered_ascend, numbered_more}
use Rattle.simplex_schemes.proofs.marked.numbered_keys.Goals as goal

pub loop-number-preserved : goal.loop-number-preserved
loop-number-preserved c = cc (numbered_more c.loop-number.number, c.in_ok-push.ensures.items)

-- each number below n is a key
pub ascending-requires : goal.ascending-requires
ascending-requires c =
    let all : c.loop-number.number ≡ c.args.n = omega arith in
    rw (c.loop-number.invariant, all) (numbered_ascend c.args.n (omega arith))
