use Rattle.std.proofs.Common.{arith}
use Rattle.std.proofs.lemmas.Grind.{common_steps}
use Rattle.simplex_live.proofs.StateLemmas.{mark_parts}
use Rattle.simplex_live.proofs.state.mark_of.Goals as goal

-- src/state.rt:135:1
pub returns : goal.returns
returns c fits = grind (
  arith,
  common_steps,
  c.number_at.ensures,
  c.round_at.ensures,
  c.round_at-2.ensures,
  c.round_at-3.ensures,
  mark_parts c.args.body.now,
)
