use Rattle.std.proofs.Common.{arith}
use Rattle.simplex_schemes.proofs.MarkedLemmas.{length_numbered}
use Rattle.simplex_schemes.proofs.marked.Marked.new.Goals as goal

pub invariant_of-result : goal.invariant_of-result
invariant_of-result c =
    rw (c.in_ok-numbered_keys.ensures, length_numbered c.args.n) (c.requires.some, omega arith, c.requires.member)
