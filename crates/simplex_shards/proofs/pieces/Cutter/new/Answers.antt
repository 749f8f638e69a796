use Rattle.std.proofs.Common.{[]}
use Rattle.simplex_shards.proofs.PieceLemmas.{no_parts}
use Rattle.simplex_shards.proofs.pieces.Cutter.new.Goals as goal

pub returns-clause-parts : goal.returns-clause-parts
returns-clause-parts g c round class classes = record {
  messages = [];
  decoded = c.new.ensures.decoded c.args.bound;
  parts_are = no_parts _ round class classes g.met.M.Message.never_empty;
}
