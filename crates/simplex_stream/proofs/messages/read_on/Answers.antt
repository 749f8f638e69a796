use Rattle.std.proofs.Common.{◌≡◌, ◌+◌, ℕ, length, subst, arith}
use Rattle.simplex_base.specs.Format.{Format}
use Rattle.simplex_stream.proofs.StreamLemmas.{follows_next, so_far_next, was_shown}
use Rattle.simplex_stream.proofs.messages.read_on.Given as given
use Rattle.simplex_stream.proofs.messages.read_on.Goals as goal

-- the format of messages under a bound
abbrev format : (g : given.Over) → ℕ → Format g.row.M.Denot
format g bound = record {
  is_value = g.M.Read.fits bound;
  encoding = g.M.Encoding.encoding;
  reading = g.M.Read.reading bound;
}

pub show_next-requires : goal.show_next-requires
show_next-requires g c =
    let none : length c.args.bytes.now ≡ length c.args.bytes.now + 0 = omega arith in
    let same : length c.messages.rest.now + 0 ≡ length c.messages.rest.now = omega arith in
    subst (g.V.Visitor.has_room c.messages.visitor) same
    (c.messages.invariant.1 0 (subst (g.V.Visitor.has_room c.args.visitor.now) none c.requires))

pub messages-smaller : goal.messages-smaller
messages-smaller g c =
    let one = was_shown (format g c.args.bound) (g.V.Visitor.follows c.args.context.now) c.args.bytes.now
    c.messages.rest.now c.show_next.new.input.now c.messages.read c.messages.visitor c.show_next.new.visitor
    (g.met.M.Read.lawful c.args.bound) (λ i. omega (arith, c.type_inv.bytes i)) c.messages.invariant.0 c.in-None.is
    c.in_ok-stop.ensures.shown in
    let size = one.read.size in
    let some = g.met.M.Message.never_empty one.message in
    omega arith

pub messages-preserved : goal.messages-preserved
messages-preserved g c =
    let one = was_shown (format g c.args.bound) (g.V.Visitor.follows c.args.context.now) c.args.bytes.now
    c.messages.rest.now c.show_next.new.input.now c.messages.read c.messages.visitor c.show_next.new.visitor
    (g.met.M.Read.lawful c.args.bound) (λ i. omega (arith, c.type_inv.bytes i)) c.messages.invariant.0 c.in-None.is
    c.in_ok-stop.ensures.shown in
    let size = one.read.size in (
      so_far_next (format g c.args.bound) _ _ c.args.bytes.now c.messages.rest.now c.show_next.new.input.now
          c.messages.read one.message g.met.M.Message.never_empty c.messages.invariant.0 one.read
          (λ ms on. follows_next (g.V.Visitor.follows c.args.context.now) (g.met.V.Visitor.more c.args.context.now)
          ms one.message _ _ _ on one.taken),
      λ more room. g.met.V.Visitor.left c.args.context.now one.message _ _
          (length c.show_next.new.input.now + more) one.taken
          (subst (g.V.Visitor.has_room c.messages.visitor) (omega (arith, size)) (c.messages.invariant.1 more room)),
    )
