use Rattle.std.proofs.Common.{◌∙◌, sym, subst}
use Rattle.simplex_stream.specs.Messages.{IsOver}
use Rattle.simplex_stream.specs.StreamLaws.{messages_once, over_messages}
use Rattle.simplex_audit.proofs.auditor.Auditor.is_over.Goals as goal

pub returns-clause-same : goal.returns-clause-same
returns-clause-same g c t floor committees stream more messages rest stands are =
    let same = (messages_once _ stands.readable stream _ rest _ messages stands.decoded.are_messages are).1 in
    over_messages _ stands.readable stream rest more messages are
    (subst (IsOver _) same (stands.decoded.over (sym c.is_over.ensures ∙ t)))
