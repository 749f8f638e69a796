use Rattle.std.proofs.Common.{◌∙◌}
use Rattle.simplex_monitor.proofs.monitor.Monitor.read.Goals as goal

pub returns : goal.returns
returns g c start committees told stream listens = c.read.ensures ∙ listens.decoded.read_is
