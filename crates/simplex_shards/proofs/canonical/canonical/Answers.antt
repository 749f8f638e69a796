use Rattle.std.proofs.Common.{length, ◌-◌, arith, refl}
use Rattle.simplex_stream.specs.StreamLaws.{fault_is}
use Rattle.simplex_shards.proofs.CanonicalLemmas.{canonical_all, same_form}
use Rattle.simplex_shards.proofs.canonical.canonical.Goals as goal

pub returns-clause-canonical : goal.returns-clause-canonical
returns-clause-canonical g c =
    let p = c.in_ok-progress in
    canonical_all _ (g.met.M.Read.lawful c.args.bound) c.args.stream.now p.progress.rest.now p.progress.read p.progress.stop _
    c.for_each_message.new.visitor _ g.met.M.Message.never_empty c.new.ensures.empty p.ensures.progress refl
    c.join.ensures.ordered c.in_ok-bytes.ensures.joined
    (fault_is _ c.args.stream.now p.progress.rest.now p.ensures.progress.messages
    (length c.args.stream.now - length p.progress.rest.now) p.progress.stop _ p.ensures.progress.are_messages
    (omega (arith, p.ensures.room)) p.ensures.progress.stop_is c.fault_at.ensures)

pub returns-clause-same : goal.returns-clause-same
returns-clause-same g c other its same form =
    same_form _ (g.met.M.Read.lawful c.args.bound) c.args.stream.now other _ its (returns-clause-canonical g c) same form
