use Rattle.std.proofs.Common.{◌∙◌, Some, ap, length, sym, take}
use Rattle.std.proofs.lemmas.List.{take_at}
use Rattle.simplex_tracker.proofs.LiveLemmas.{falls_back, has_ended, is_long, stays_held, stays_with, takes_piece}
use Rattle.simplex_tracker.proofs.live.LiveAuditor.feed_tracked.Goals as goal

-- nothing is known of the stream
pub returns-in_default-clause-kept : goal.returns-in_default-clause-kept
returns-in_default-clause-kept g c = λ _.
    stays_with _ c.args.self.now c.take.new.self (c.take.ensures.after ∙ c.in_default.ensures.value)

-- the piece is dropped
pub returns-in-Some-drops-clause-kept : goal.returns-in-Some-drops-clause-kept
returns-in-Some-drops-clause-kept g c = λ _.
    stays_with _ c.args.self.now (Some c.in-Some.tracker) c.in-Some.ensures.value

pub returns-in-Some-drops-clause-over : goal.returns-in-Some-drops-clause-over
returns-in-Some-drops-clause-over g c = λ is.
    has_ended _ c.args.self.now c.in-Some.tracker (sym c.in-Some.ensures.value)
    (c.drops.ensures.over (c.in-Some-drops.is ∙ ap Some is))

pub returns-in-Some-drops-clause-long : goal.returns-in-Some-drops-clause-long
returns-in-Some-drops-clause-long g c = λ is.
    is_long _ c.args.self.now c.in-Some.tracker (length c.args.piece.now) (sym c.in-Some.ensures.value)
    (c.drops.ensures.long (c.in-Some-drops.is ∙ ap Some is))

-- what is held did not grow
pub returns-in_default-extend_from_slice-clause-kept : goal.returns-in_default-extend_from_slice-clause-kept
returns-in_default-extend_from_slice-clause-kept g c = λ _.
    stays_held _ c.args.self.now c.extend_from_slice.new.self c.in-Some.tracker c.in_default-extend_from_slice.ensures.items
    (sym c.in-Some.ensures.value)

-- the piece was fed
pub returns-in-Ok-advance-clause-taken : goal.returns-in-Ok-advance-clause-taken
returns-in-Ok-advance-clause-taken g c = λ _.
    takes_piece _ c.args.self.now c.in-Some.tracker c.in-Ok-advance.next c.extend_from_slice.new.self c.advance.new.waiting
    c.args.piece.now (λ floor committees. c.same_state_suffices.ensures.joined _ g.met.D.Eq.laws) (sym
    c.in-Some.ensures.value) c.in-Ok.ensures.items
    c.in-Ok-advance.ensures.advances

-- the tracker was lost
pub returns-in-Err-clause-kept : goal.returns-in-Err-clause-kept
returns-in-Err-clause-kept g c = λ _.
    falls_back _ c.args.self.now c.truncate.new.self c.advance.new.waiting c.take.new.self c.take.ensures.after
    (c.truncate.ensures.items ∙ ap (take c.len-held.result) c.in-Ok.ensures.items ∙ take_at _ _ _
    (sym c.args.self.now.log.ok.0 ∙ sym c.len-held.ensures))
    c.in-Err.ensures.failed
