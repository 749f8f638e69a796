use Rattle.std.proofs.Common.{sym, ◌∙◌}
use Rattle.simplex_scheme.proofs.CommitteeLemmas.{not_le, rising_next}
use Rattle.simplex_scheme.proofs.committees.are_rising.Goals as goal

pub pairs-preserved : goal.pairs-preserved
pairs-preserved g c =
    rising_next c.args.pairs.now c.pairs.i c.pairs.invariant c.pairs.auto.i c.pairs-test.true c.index-pairs-i.result
    c.index-pairs-i-in-pairs.result (not_le _ _ (sym c.le.ensures ∙ c.if-le.false))
