use Rattle.std.proofs.Common.{ℕ, List, sym, subst}
use Rattle.sha2.specs.Hashers.{Holds256}
use Rattle.simplex_scheme.proofs.HashingLemmas.{joined_more}
use Rattle.simplex_scheme.proofs.hash.Sha256Hasher.hash.Goals as goal

pub loop-part-preserved : goal.loop-part-preserved
loop-part-preserved c =
    subst (λ (t : List ℕ). Holds256 c.update.new.self t)
    (sym (joined_more c.args.parts.now c.loop-part.part-index _ c.loop-part-test.true))
    (c.update.ensures _ c.loop-part.invariant)
