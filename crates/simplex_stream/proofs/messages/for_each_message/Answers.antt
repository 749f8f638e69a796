use Rattle.std.proofs.Common.{[]}
use Rattle.std.proofs.lemmas.Result.{IfOk-weaker}
use Rattle.simplex_stream.proofs.messages.for_each_message.Goals as goal

pub returns-clause-progress : goal.returns-clause-progress
returns-clause-progress g c =
    IfOk-weaker c.read_on.result _ _ (λ p done. record {
      messages = done.messages;
      are_messages = done.are_messages;
      read_is = done.read_is;
      stop_is = done.stop_is;
      recorded = done.recorded _ [] (g.met.V.Visitor.none c.args.context.now c.args.visitor.now);
    }) c.read_on.ensures.progress
