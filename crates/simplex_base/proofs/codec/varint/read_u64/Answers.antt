use Rattle.std.proofs.Common.{arith}
use Rattle.simplex_base.specs.VarintLaws.{reads_number}
use Rattle.simplex_base.proofs.codec.varint.read_u64.Goals as goal

pub returns-clause-reads : goal.returns-clause-reads
returns-clause-reads c =
    reads_number 8 2 (omega arith) (omega arith) _ _ _ c.read_number.ensures.bytes c.read_number.ensures.gives
