use Rattle.simplex_base.specs.FormatLaws.{gave}
use Rattle.simplex_base.proofs.codec.read_value.Goals as goal

pub returns-clause-taken : goal.returns-clause-taken
returns-clause-taken g c =
    gave g.T.Read.takes_memory (g.met.T.Read.lawful tt) c.args.input.now.now c.read_cfg.new.input.now
    c.known_bytes.ensures.range c.read_cfg.result c.read_cfg.ensures
