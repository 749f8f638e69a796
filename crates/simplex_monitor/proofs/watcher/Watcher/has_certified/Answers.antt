use Rattle.std.proofs.Common.{[], ◌∷◌, ◌++◌, inl}
use Rattle.simplex_rules.specs.declared.judging.Judging.TheVariants.{From}
use Rattle.simplex_monitor.specs.Window.{floor_of}
use Rattle.simplex_monitor.proofs.WatchingLemmas.{tells_certified}
use Rattle.simplex_monitor.proofs.watcher.Watcher.has_certified.Goals as goal

pub returns-in-Some : goal.returns-in-Some
returns-in-Some g c taken holds =
    let floor = floor_of c.args.self.now.window in
    let committees = c.args.committees.now in
    inl (tells_certified _ _ c.args.self.now.detector c.args.round c.args.kind c.has_certified.result c.in-Some.certified
    (c.floors_rise.ensures.judged committees floor) c.in-Some.is (c.has_certified.ensures (From floor) committees)
    (taken ++ c.args.message.now ∷ []) holds)
