use Rattle.std.proofs.Common.{◌≡◌, ◌<◌, ◌≤◌, ◌++◌, ℕ, List, length, drop, refl, subst, arith, inl, inr}
use Rattle.simplex_border.proofs.EndedLemmas.{ended_below}
use Rattle.simplex_border.proofs.answer.write_report.Goals as goal

pub returns-then-put-clause-text : goal.returns-then-put-clause-text
returns-then-put-clause-text g c = inl (
  subst (λ (t : List ℕ). length t ≤ length c.args.buffer.now) c.requires (c.put.ensures.fits c.if-put.true),
  c.ended.ensures,
  subst (λ (t : List ℕ). c.put.new.buffer ≡ t ++ drop (length t) c.args.buffer.now) c.requires
      (c.put.ensures.there c.if-put.true),
)

pub returns-else-put-clause-text : goal.returns-else-put-clause-text
returns-else-put-clause-text g c = inr (
  subst (λ (t : List ℕ). length c.args.buffer.now < length t) c.requires (c.put.ensures.short c.if-put.false),
  refl,
  c.put.ensures.kept c.if-put.false,
)

pub returns-then-put-clause-status : goal.returns-then-put-clause-status
returns-then-put-clause-status g c =
    let low = ended_below c.args.report.now.fault in
    (λ is. omega (arith, is, c.ended.ensures, low), λ is. omega (arith, is, c.ended.ensures, low))
