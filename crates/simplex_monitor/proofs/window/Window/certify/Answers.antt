use Rattle.std.proofs.Common.{◌≡◌, ◌<◌, refl, rules}
use Rattle.simplex_monitor.proofs.RoundOrder.{at_most_itself}
use Rattle.simplex_monitor.proofs.WindowLemmas.{again_earlier, again_here, answer_earlier, answer_here, answer_later, ended_at_most, floor_rises, never_later}
use Rattle.simplex_monitor.proofs.window.Window.certify.Goals as goal

pub returns-then-lt-clause-moves : goal.returns-then-lt-clause-moves
returns-then-lt-clause-moves c start certified finalized ordered is =
    let lt : c.args.round.epoch < c.args.self.now.current.epoch = search rules in
    answer_earlier start certified finalized c.args.round c.args.self.now c.max-self.result is c.max-self.ensures lt

pub returns-then-lt-clause-again : goal.returns-then-lt-clause-again
returns-then-lt-clause-again c start certified finalized is among =
    let lt : c.args.round.epoch < c.args.self.now.current.epoch = search rules in
    again_earlier start certified finalized c.args.round c.args.self.now c.max-self.result is c.max-self.ensures lt among

pub returns-then-gt-clause-moves : goal.returns-then-gt-clause-moves
returns-then-gt-clause-moves c start certified finalized ordered is =
    let gt : c.args.self.now.current.epoch < c.args.round.epoch = search rules in
    answer_later start certified finalized c.args.round c.args.self.now ordered is gt

pub returns-then-gt-clause-again : goal.returns-then-gt-clause-again
returns-then-gt-clause-again c start certified finalized is among =
    let gt : c.args.self.now.current.epoch < c.args.round.epoch = search rules in
    absurd (never_later start certified finalized c.args.round c.args.self.now is among gt)

pub returns-then-gt-clause-rises : goal.returns-then-gt-clause-rises
returns-then-gt-clause-rises c start certified finalized ordered is =
    floor_rises c.args.self.now
    (record c.args.self.now { ended = c.args.self.now.current; current = c.args.round })
    (at_most_itself c.args.self.now.finalized)
    (ended_at_most start certified finalized c.args.round c.args.self.now ordered is) refl

pub returns-clause-moves : goal.returns-clause-moves
returns-clause-moves c start certified finalized ordered is =
    let same : c.args.self.now.current.epoch ≡ c.args.round.epoch = search rules in
    answer_here start certified finalized c.args.round c.args.self.now c.max-self-2.result is c.max-self-2.ensures same

pub returns-clause-again : goal.returns-clause-again
returns-clause-again c start certified finalized is among =
    again_here start certified finalized c.args.round c.args.self.now c.max-self-2.result is c.max-self-2.ensures among
