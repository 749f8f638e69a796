use Rattle.std.proofs.Common.{arith}
use Rattle.simplex_base.specs.VarintLaws.{reads_number}
use Rattle.simplex_base.proofs.codec.varint.read_u32.Goals as goal

pub returns-in-Ok-clause-reads : goal.returns-in-Ok-clause-reads
returns-in-Ok-clause-reads c = reads_number 3 16 (omega arith) (omega arith) _ _ _ c.in-Ok.ensures.bytes c.in-Ok.ensures.gives

pub returns-in-Err-clause-reads : goal.returns-in-Err-clause-reads
returns-in-Err-clause-reads c =
    reads_number 3 16 (omega arith) (omega arith) _ _ _ c.in-Err.ensures.bytes c.in-Err.ensures.gives
