use Rattle.std.proofs.Common.{ap, subst, ◌≡◌, ◌+◌, ◌-◌, ℕ, length, arith}
use Rattle.simplex_base.specs.Format.{Format}
use Rattle.simplex_stream.proofs.StreamLemmas.{was_read}
use Rattle.simplex_stream.proofs.messages.show_front.Given as given
use Rattle.simplex_stream.proofs.messages.show_front.Goals as goal

-- the format of messages under a bound
abbrev format : (g : given.Over) → ℕ → Format g.row.M.Denot
format g bound = record {
  is_value = g.M.Read.fits bound;
  encoding = g.M.Encoding.encoding;
  reading = g.M.Read.reading bound;
}

pub overflow_sub-bytes : goal.overflow_sub-bytes
overflow_sub-bytes g c =
    let one = was_read (format g c.args.bound) c.args.input.now.now c.args.rest.now c.args.message.now
    (g.met.M.Read.lawful c.args.bound) c.known_bytes-bytes.ensures.range c.requires.read in
    let size = one.size in
    let same = ap length c.known_bytes-bytes.ensures.same in
    omega arith

pub take-requires-clause-size : goal.take-requires-clause-size
take-requires-clause-size g c =
    let one = was_read (format g c.args.bound) c.args.input.now.now c.args.rest.now c.args.message.now
    (g.met.M.Read.lawful c.args.bound) c.known_bytes-bytes.ensures.range c.requires.read in
    let size = one.size in
    let same = ap length c.known_bytes-bytes.ensures.same in
    omega arith

pub take-requires-clause-room : goal.take-requires-clause-room
take-requires-clause-room g c =
    let left = length c.args.rest.now in
    let one = was_read (format g c.args.bound) c.args.input.now.now c.args.rest.now c.args.message.now
    (g.met.M.Read.lawful c.args.bound) c.known_bytes-bytes.ensures.range c.requires.read in
    let size = one.size in
    let same = ap length c.known_bytes-bytes.ensures.same in
    let whole : length c.args.input.now.now ≡ (length c.known_bytes-bytes.result.now - left) + left = omega arith in
    g.met.V.Visitor.less c.args.visitor.now (length c.known_bytes-bytes.result.now - left) left
    (subst (g.V.Visitor.has_room c.args.visitor.now) whole c.requires.room)
