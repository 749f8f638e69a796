use Rattle.simplex_monitor.proofs.WindowLemmas.{again_finalized, answer_finalized}
use Rattle.simplex_monitor.proofs.window.Window.finalize.Goals as goal

pub returns-clause-moves : goal.returns-clause-moves
returns-clause-moves c start certified finalized is =
    answer_finalized start certified finalized c.args.round c.args.self.now c.max-self.result is c.max-self.ensures

pub returns-clause-again : goal.returns-clause-again
returns-clause-again c start certified finalized is among =
    again_finalized start certified finalized c.args.round c.args.self.now c.max-self.result is c.max-self.ensures among
