use Rattle.std.proofs.Common.{ℕ, length, refl, sym, ap, ◌∙◌, arith, append-nil}
use Rattle.simplex_base.specs.Format.{Format}
use Rattle.simplex_stream.specs.StreamLaws.{front_dropped}
use Rattle.simplex_stream.proofs.DecoderLemmas.{decodes_more, decodes_none}
use Rattle.simplex_stream.proofs.decoder.Decoder.append.Given as given
use Rattle.simplex_stream.proofs.decoder.Decoder.append.Goals as goal

-- the format of messages under a bound
abbrev format : (g : given.Over) → ℕ → Format g.row.M.Denot
format g bound = record {
  is_value = g.M.Read.fits bound;
  encoding = g.M.Encoding.encoding;
  reading = g.M.Read.reading bound;
}

pub returns-then-waits-clause-decoded : goal.returns-then-waits-clause-decoded
returns-then-waits-clause-decoded g c =
    decodes_none (format g c.args.bound) (g.met.M.Read.lawful c.args.bound) _ c.args.self.now _ c.args.piece.now refl refl refl
    c.in_ok-push.ensures.held c.in_ok-push.ensures.due (c.waits-waits.ensures c.if-waits.true)
    (λ first before led. rw append-nil led)

pub returns-clause-decoded : goal.returns-clause-decoded
returns-clause-decoded g c =
    let p = c.in_ok-progress.progress in
    let done = c.in_ok-progress.ensures.progress in
    let counts = c.in_ok-progress.ensures.counts in
    let same = ap length c.bytes-bytes.ensures in
    let left = c.advance.ensures.held ∙ front_dropped _ p.rest.now _ _
    (sym c.bytes-bytes.ensures ∙ done.are_messages.whole) (omega arith) in
    decodes_more (format g c.args.bound) _ c.args.self.now _ c.args.piece.now c.bytes-bytes.result.now p.rest.now done.messages
    p.read refl refl done.read_is left (c.bytes-bytes.ensures ∙ c.in_ok-push.ensures.held) done.are_messages
    c.advance.ensures.awaits (λ t. c.is_over-self.ensures t c.args.bound p.rest.now done.stop_is) done.recorded
