use Rattle.std.proofs.Common.{refl, inr, subst, arith}
use Rattle.simplex_tracker.specs.Tracking.{EndsWhole}
use Rattle.simplex_handle.proofs.RepliesLemmas.{not_two, stays}
use Rattle.simplex_handle.proofs.replies.unverified.Goals as goal

pub returns-in_default-clause-defers : goal.returns-in_default-clause-defers
returns-in_default-clause-defers g c = λ floor committees stream h. record {
  stays = stays _ c.args.live.now c.is_whole.new.self c.is_whole.ensures.news floor committees stream
      (c.is_whole.ensures.follows floor committees stream h);
  given = λ _ not. absurd (not refl);
  refused = λ is. absurd (omega (arith, is));
  keyed = λ none. absurd (c.requires none);
}

pub returns-then-begins-clause-defers : goal.returns-then-begins-clause-defers
returns-then-begins-clause-defers g c = λ floor committees stream h.
    let follows = c.is_whole.ensures.follows floor committees stream h in
    record {
      stays = stays _ c.args.live.now c.is_whole.new.self c.is_whole.ensures.news floor committees stream follows;
      given = λ _ not. c.list_piece.ensures.given not floor committees stream follows
          (subst (EndsWhole _ stream) c.if-begins.true (c.in-Ok.ensures.whole floor committees stream h));
      refused = λ is. absurd (not_two c.list_piece.result c.list_piece.ensures.status is);
      keyed = λ none. absurd (c.requires none);
    }

pub returns-else-begins-clause-defers : goal.returns-else-begins-clause-defers
returns-else-begins-clause-defers g c = λ floor committees stream h. record {
  stays = stays _ c.args.live.now c.is_whole.new.self c.is_whole.ensures.news floor committees stream
      (c.is_whole.ensures.follows floor committees stream h);
  given = λ not. absurd (not refl);
  refused = λ _. inr (subst (EndsWhole _ stream) c.if-begins.false (c.in-Ok.ensures.whole floor committees stream h));
  keyed = λ none. absurd (c.requires none);
}
