use Rattle.simplex_handle.proofs.RepliesLemmas.{waits}
use Rattle.simplex_handle.proofs.replies.prune.Goals as goal

pub returns : goal.returns
returns g c = λ floor committees stream h. record {
  follows = c.prune.ensures.follows floor committees stream h;
  waits = waits c.args.live.now.news c.prune.new.self.news c.prune.ensures.news;
}
