use Rattle.std.proofs.Common.{ℕ, List, ◌++◌, ap, ◌∙◌}
use Rattle.simplex_shards.proofs.CanonicalLemmas.{collects_one}
use Rattle.simplex_shards.proofs.canonical.CollectorVisitor.take.Goals as goal

pub returns : goal.returns
returns g c =
    collects_one g.M.Encoding.encoding c.args.message.now c.args.self.now _ c.write.new.buf c.in_ok-insert.ensures.keys
    (c.in_ok-write.ensures.ok ∙ ap (λ (t : List ℕ). t ++ g.M.Encoding.encoding c.args.message.now) c.in_ok-bytes.ensures.items)
