use Rattle.std.proofs.Common.{string_bytes, arith}
use Rattle.simplex_inspect.specs.Inspected.{fault_json}
use Rattle.simplex_inspect.proofs.LineLemmas.{from_nothing, ends_line, ends_json}
use Rattle.simplex_inspect.proofs.fault.fault_line.Goals as goal

pub returns-clause-line : goal.returns-clause-line
returns-clause-line c =
    ends_line string_bytes _ (fault_json c.args.fault.now c.args.rest.now)
    (from_nothing c.new-writer.ensures.tokens c.in_ok-write_fault.ensures) c.end_line.result c.end_line.ensures.line

pub returns-clause-json : goal.returns-clause-json
returns-clause-json c =
    ends_json string_bytes _ (fault_json c.args.fault.now c.args.rest.now)
    (from_nothing c.new-writer.ensures.tokens c.in_ok-write_fault.ensures) c.end_line.result c.end_line.ensures.reads
    (omega arith) c.end_line.ensures.line
