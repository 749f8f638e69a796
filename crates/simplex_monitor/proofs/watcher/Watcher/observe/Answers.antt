use Rattle.simplex_monitor.proofs.WatchingLemmas.{above_by, below_by, taken_by}
use Rattle.simplex_monitor.proofs.watcher.Watcher.observe.Goals as goal

pub returns : goal.returns
returns g c =
    taken_by _ c.args.message.now c.args.self.now c.round-round.result c.admits_certificate.result c.round-round.ensures
    c.admits_certificate.ensures.admitted c.takes.result c.takes.ensures c.if-not-admits_certificate.false
    c.record.new.self c.advance.new.self c.if-not-takes.false c.in_ok-record.ensures c.advance.ensures

pub returns-then-not-admits_certificate : goal.returns-then-not-admits_certificate
returns-then-not-admits_certificate g c =
    below_by _ c.args.message.now c.args.self.now c.round-round.result c.admits_certificate.result c.round-round.ensures
    c.admits_certificate.ensures.admitted c.saturating_add-self.result c.if-not-admits_certificate.true
    c.saturating_add-self.ensures

pub returns-then-not-takes : goal.returns-then-not-takes
returns-then-not-takes g c =
    above_by _ c.args.message.now c.args.self.now c.round-round.result c.admits_certificate.result c.round-round.ensures
    c.admits_certificate.ensures.admitted c.takes.result c.takes.ensures c.if-not-admits_certificate.false
    c.saturating_add-self-then-not-takes.result c.if-not-takes.true c.saturating_add-self-then-not-takes.ensures
