use Rattle.std.proofs.Common.{◌∙◌}
use Rattle.simplex_stream.specs.StreamLaws.{messages_once}
use Rattle.simplex_audit.proofs.auditor.Auditor.rest.Goals as goal

pub returns : goal.returns
returns g c = λ floor committees stream messages rest stands are.
    c.rest.ensures ∙ (messages_once _ stands.readable stream _ rest _ messages stands.decoded.are_messages are).1
