use Rattle.std.proofs.Common.{arith}
use Rattle.simplex_handle.proofs.RepliesLemmas.{stays}
use Rattle.simplex_handle.proofs.replies.votes.Goals as goal

pub returns-in-Ok-clause-counts : goal.returns-in-Ok-clause-counts
returns-in-Ok-clause-counts g c = λ floor committees stream h. record {
  stays = stays _ c.args.live.now c.votes.new.self c.votes.ensures.news floor committees stream
      (c.votes.ensures.follows floor committees stream h);
  counted = λ _. c.in-Ok.ensures.votes floor committees stream h;
}

pub returns-in-Err-clause-counts : goal.returns-in-Err-clause-counts
returns-in-Err-clause-counts g c = λ floor committees stream h. record {
  stays = stays _ c.args.live.now c.votes.new.self c.votes.ensures.news floor committees stream
      (c.votes.ensures.follows floor committees stream h);
  counted = λ is. absurd (omega (arith, is));
}
