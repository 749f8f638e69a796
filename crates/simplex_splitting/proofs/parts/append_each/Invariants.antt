use Rattle.std.proofs.Common.{◌≡◌, false, map}
use Rattle.simplex_splitting.proofs.PartLemmas.{AreAppended}
use Rattle.simplex_splitting.proofs.parts.append_each.Given as goal

abbrev pub invariant-parts : goal.invariant-parts
invariant-parts g l = (l.class ≡ l.bytes-index) × (g.P.Parts.has_failed l.parts ≡ false)
    × AreAppended l.class (g.P.Parts.contents l.fn.parts) (g.P.Parts.contents l.parts) (map (λ part. part.items) l.more)
