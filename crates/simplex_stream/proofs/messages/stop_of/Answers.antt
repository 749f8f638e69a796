use Rattle.std.proofs.Common.{sym, subst, ◌∙◌}
use Rattle.simplex_base.specs.Reading.{IsBytes}
use Rattle.simplex_stream.proofs.messages.stop_of.Goals as goal

pub returns-in_default : goal.returns-in_default
returns-in_default g c = λ stuck.
    let same = c.known_bytes-rest.ensures.same in
    let read = (g.met.M.Read.lawful c.args.bound).takes c.known_bytes-rest.result.now c.in_default.field-0
    c.read_cfg.new.input.now (subst IsBytes (sym same) c.known_bytes-rest.ensures.range) c.in_default.ensures in
    absurd (stuck c.in_default.field-0 c.read_cfg.new.input.now read.value (sym same ∙ read.parts))
