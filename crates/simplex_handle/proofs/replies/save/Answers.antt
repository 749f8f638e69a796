use Rattle.std.proofs.Common.{refl, subst, sym}
use Rattle.simplex_tracker.specs.Live.{IsShort}
use Rattle.simplex_handle.proofs.RepliesLemmas.{stays}
use Rattle.simplex_handle.proofs.replies.save.Goals as goal

pub returns-in-Ok-clause-saves : goal.returns-in-Ok-clause-saves
returns-in-Ok-clause-saves g c = λ floor committees stream h.
    let follows = c.condense.ensures.follows floor committees stream h in
    record {
      stays = stays _ c.args.live.now c.condense.new.self c.condense.ensures.news floor committees stream follows;
      saved = λ _. record {
        bytes = c.held.result.now;
        stands = c.held.ensures.stands floor committees stream follows;
        short = subst (IsShort _) (sym c.held.ensures.bytes) (c.in-Ok.ensures.short floor committees stream h);
        size_is = c.put_bytes.ensures.size;
        bytes_are = c.put_bytes.ensures.put;
      };
    }

pub returns-in-Err-clause-saves : goal.returns-in-Err-clause-saves
returns-in-Err-clause-saves g c = λ floor committees stream h. record {
  stays = stays _ c.args.live.now c.condense.new.self c.condense.ensures.news floor committees stream
      (c.condense.ensures.follows floor committees stream h);
  saved = λ not. absurd (not refl);
}
