use Rattle.simplex_base.specs.Positions.{round_format}
use Rattle.simplex_scheme.proofs.MessageLemmas.{not_whole}
use Rattle.simplex_scheme.proofs.message.is_round.Goals as goal

pub returns-in-None : goal.returns-in-None
returns-in-None c = not_whole c.args.bytes.now (round_format.encoding c.args.round) c.in-None.ensures
