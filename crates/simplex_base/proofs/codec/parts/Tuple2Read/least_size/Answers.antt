use Rattle.std.proofs.Common.{length, ap, ◌∙◌, sym, subst, arith, length-append}
use Rattle.simplex_base.specs.Reading.{IsBytes}
use Rattle.simplex_base.proofs.LeastSizeLemmas.{both_none_shorter}
use Rattle.simplex_base.proofs.codec.parts.Tuple2Read.least_size.Goals as goal

pub overflow_sub-first : goal.overflow_sub-first
overflow_sub-first g c =
    let read = (g.met.A.Read.lawful tt).takes c.known_bytes-rest.result.now c.in-Ok.field-0 c.read_cfg.new.input.now
    (subst IsBytes (sym c.known_bytes-rest.ensures.same) c.known_bytes-rest.ensures.range) c.in-Ok.ensures in
    let size = ap length (sym c.known_bytes-rest.ensures.same ∙ read.parts) in
    omega (arith, length-append (g.A.Encoding.encoding c.in-Ok.field-0) c.read_cfg.new.input.now)

pub returns : goal.returns
returns g c =
    let read = (g.met.A.Read.lawful tt).takes c.known_bytes-rest.result.now c.in-Ok.field-0 c.read_cfg.new.input.now
    (subst IsBytes (sym c.known_bytes-rest.ensures.same) c.known_bytes-rest.ensures.range) c.in-Ok.ensures in
    let parts = sym c.known_bytes-rest.ensures.same ∙ read.parts in
    let size = ap length parts in
    both_none_shorter (g.met.A.Read.lawful tt) c.args.bytes.now c.read_cfg.new.input.now c.in-Ok.field-0
    c.least_size.result c.saturating_add.result read.value parts c.least_size.ensures
    (omega (arith, c.saturating_add.ensures, length-append (g.A.Encoding.encoding c.in-Ok.field-0) c.read_cfg.new.input.now))
