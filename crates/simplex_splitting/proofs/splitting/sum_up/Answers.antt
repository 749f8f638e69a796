use Rattle.std.proofs.Common.{ℕ, subst}
use Rattle.simplex_base.specs.Format.{Format}
use Rattle.simplex_shards.specs.Pieces.{EndsCutting}
use Rattle.simplex_splitting.proofs.CutLemmas.{ended}
use Rattle.simplex_splitting.proofs.splitting.sum_up.Given as given
use Rattle.simplex_splitting.proofs.splitting.sum_up.Goals as goal

-- the format of messages under a bound
abbrev format : (g : given.Over) → ℕ → Format g.row.M.Denot
format g bound = record {
  is_value = g.M.Read.fits bound;
  encoding = g.M.Encoding.encoding;
  reading = g.M.Read.reading bound;
}

pub returns : goal.returns
returns g c = λ class bound input start now h.
    ended (format g bound) g.M.Roundable.round_of class bound c.args.cutter.now input start now h
    (g.met.M.Read.lawful bound) _ c.read.ensures
    (subst (λ (n : ℕ). EndsCutting (format g n) c.args.cutter.now c.in_ok-fault.field-0) h.bound_is c.in_ok-fault.ensures)
