use Rattle.simplex_tracker.proofs.LiveLemmas.{advances_by}
use Rattle.simplex_tracker.proofs.live.advance.Goals as goal

pub returns-clause-advances : goal.returns-clause-advances
returns-clause-advances g c floor stream known =
    let committees = c.args.committees.now in
    advances_by floor _ stream c.args.piece.now c.args.tracker c.in_ok-next.next _ c.news.result c.args.waiting.now _
    (c.in_ok-next.ensures.tracks floor) (c.news.ensures.tracks floor committees) c.news.ensures.quiet
    c.in_ok-append_news.ensures.evidence c.in_ok-append_news.ensures.splits known
