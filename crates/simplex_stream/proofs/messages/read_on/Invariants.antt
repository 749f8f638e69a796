use Rattle.std.proofs.Common.{length}
use Rattle.simplex_stream.specs.Progress.{FollowsOn, LeavesRoom}
use Rattle.simplex_stream.proofs.StreamLemmas.{SoFar}
use Rattle.simplex_stream.proofs.messages.read_on.Given as goal

abbrev pub invariant-messages : goal.invariant-messages
invariant-messages g l =
    SoFar (record {
      is_value = g.M.Read.fits l.fn.bound;
      encoding = g.M.Encoding.encoding;
      reading = g.M.Read.reading l.fn.bound;
    }) (λ messages. FollowsOn (g.V.Visitor.follows l.fn.context) messages l.fn.visitor l.visitor) l.fn.bytes l.rest l.read ×
    LeavesRoom g.V.Visitor.has_room (length l.fn.bytes) (length l.rest) l.fn.visitor l.visitor

abbrev pub decreases-messages : goal.decreases-messages
decreases-messages g l = length l.rest
