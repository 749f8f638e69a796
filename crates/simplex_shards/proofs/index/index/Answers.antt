use Rattle.std.proofs.Common.{length, ◌-◌, arith, refl}
use Rattle.simplex_stream.specs.StreamLaws.{fault_is}
use Rattle.simplex_shards.proofs.IndexLemmas.{index_all}
use Rattle.simplex_shards.proofs.index.index.Goals as goal

pub returns : goal.returns
returns g c =
    let p = c.in_ok-progress in
    index_all _ g.M.Roundable.round_of g.M.Tabular.row_of g.met.M.Tabular.row_is c.args.stream.now p.progress.rest.now
    p.progress.read p.progress.stop _ c.for_each_message.new.visitor _ c.new.ensures.items refl p.ensures.progress refl
    (fault_is _ c.args.stream.now p.progress.rest.now p.ensures.progress.messages
    (length c.args.stream.now - length p.progress.rest.now) p.progress.stop _ p.ensures.progress.are_messages
    (omega (arith, p.ensures.room)) p.ensures.progress.stop_is c.fault_at.ensures)
