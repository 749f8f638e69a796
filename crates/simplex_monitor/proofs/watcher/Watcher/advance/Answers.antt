use Rattle.std.proofs.Common.{ap, sym, ◌∙◌}
use Rattle.simplex_evidence.specs.Contents.{contents_certificate, contents_round, contents_value}
use Rattle.simplex_scheme.specs.Subject.{subject_value}
use Rattle.simplex_monitor.proofs.AdvancingLemmas.{advances_by, advances_none, advances_not}
use Rattle.simplex_monitor.proofs.watcher.Watcher.advance.Goals as goal

pub returns-in-Vote : goal.returns-in-Vote
returns-in-Vote g c =
    advances_none _ c.args.message.now c.args.self.now
    (ap contents_certificate (sym c.contents-contents.ensures.value ∙ ap contents_value c.in-Vote.is))

pub returns-in-Evidence : goal.returns-in-Evidence
returns-in-Evidence g c =
    advances_none _ c.args.message.now c.args.self.now
    (ap contents_certificate (sym c.contents-contents.ensures.value ∙ ap contents_value c.in-Evidence.is))

pub returns-then-has_certified : goal.returns-then-has_certified
returns-then-has_certified g c =
    advances_by _ c.args.message.now (subject_value c.in-Certificate.subject) c.in-Certificate.field-1.now
    (sym c.contents-contents.ensures.value ∙ ap contents_value c.in-Certificate.is) c.round-round.result c.kind-kind.result
    (c.round-round.ensures ∙ ap (λ held. contents_round (contents_value held)) c.in-Certificate.is) c.kind-kind.ensures
    c.args.self.now c.has_certified.result c.has_certified.ensures c.move_by.new.self c.if-has_certified.true
    (record { moves = c.move_by.ensures.moves; again = c.move_by.ensures.again }) c.move_by.ensures.counts
    (c.move_by.ensures.holds c.args.committees.now)

pub returns-else-has_certified : goal.returns-else-has_certified
returns-else-has_certified g c =
    advances_not _ c.args.message.now (subject_value c.in-Certificate.subject) c.in-Certificate.field-1.now
    (sym c.contents-contents.ensures.value ∙ ap contents_value c.in-Certificate.is) c.round-round.result c.kind-kind.result
    (c.round-round.ensures ∙ ap (λ held. contents_round (contents_value held)) c.in-Certificate.is) c.kind-kind.ensures
    c.args.self.now c.has_certified.result c.has_certified.ensures c.if-has_certified.false
