use Rattle.std.proofs.Common.{[]}
use Rattle.simplex_evidence.specs.ActivityLaws.{activity_lawful}
use Rattle.simplex_stream.specs.StreamLaws.{messages_once}
use Rattle.simplex_monitor.specs.Sieving.{sieved}
use Rattle.simplex_monitor.proofs.sieve.messages_from.Goals as goal

pub returns : goal.returns
returns g c messages are =
    let p = c.in_ok-for_each_message.ensures.progress in
    let same = messages_once _ (activity_lawful g.D.PartialEq.eq _ _ _ g.met.D.Fixed.lawful (g.met.S.Certificate.Read.lawful _)
    g.met.S.Signature.Fixed.lawful) c.args.bytes.now _ [] p.messages messages p.are_messages are in
    sieved _ p.messages messages _ _ p.recorded same.0 c.new.ensures.items
