use Rattle.std.proofs.Common.{arith}
use Rattle.simplex_base.specs.FormatLaws.{all_of_again, gave_all, one_encoding}
use Rattle.simplex_base.proofs.codec.decode_cfg.Goals as goal

pub returns-clause-taken : goal.returns-clause-taken
returns-clause-taken g c =
    gave_all g.T.Read.takes_memory (g.met.T.Read.lawful c.args.cfg.now) c.args.bytes.now
    (λ i. omega (arith, c.type_inv.bytes i)) c.read_all.result c.read_all.ensures

pub returns-clause-again : goal.returns-clause-again
returns-clause-again g c x v e =
    rw (all_of_again (g.met.T.Read.lawful c.args.cfg.now) c.args.bytes.now x v e) at c.read_all.ensures

pub returns-clause-one : goal.returns-clause-one
returns-clause-one g c x y rest more fx fy e = one_encoding (g.met.T.Read.lawful c.args.cfg.now) x y rest more fx fy e
