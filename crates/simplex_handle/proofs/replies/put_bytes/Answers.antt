use Rattle.std.proofs.Common.{refl, inl, inr}
use Rattle.simplex_handle.proofs.replies.put_bytes.Goals as goal

pub returns-then-put-clause-put : goal.returns-then-put-clause-put
returns-then-put-clause-put c =
    inl (c.put.ensures.fits c.if-put.true, refl, c.put.ensures.there c.if-put.true)

pub returns-else-put-clause-put : goal.returns-else-put-clause-put
returns-else-put-clause-put c =
    inr (c.put.ensures.short c.if-put.false, refl, c.put.ensures.kept c.if-put.false)
