use Rattle.std.proofs.Common.{ℕ, arith, refl, sym}
use Rattle.simplex_base.specs.Format.{Format}
use Rattle.simplex_shards.proofs.PeekLemmas.{peeked_read, peeked_size}
use Rattle.simplex_shards.proofs.peek.peek_or_read.Given as given
use Rattle.simplex_shards.proofs.peek.peek_or_read.Goals as goal

-- the format of messages under a bound
abbrev format : (g : given.Over) → ℕ → Format g.row.M.Denot
format g bound = record {
  is_value = g.M.Read.fits bound;
  encoding = g.M.Encoding.encoding;
  reading = g.M.Read.reading bound;
}

pub overflow_sub-result : goal.overflow_sub-result
overflow_sub-result g c =
    let size = peeked_size (format g c.args.bound) (g.met.M.Read.lawful c.args.bound) c.args.bytes.now
    c.read_cfg.new.input.now (λ i. omega (arith, c.type_inv.bytes i)) c.in-Ok.message c.in-Ok.ensures in
    omega (arith, size)

pub returns-in-Ok : goal.returns-in-Ok
returns-in-Ok g c =
    peeked_read (format g c.args.bound) (g.met.M.Read.lawful c.args.bound) c.args.bytes.now c.read_cfg.new.input.now
    (λ i. omega (arith, c.type_inv.bytes i)) c.in-Ok.message c.in-Ok.ensures g.M.Roundable.round_of _ (sym c.round.ensures) refl
