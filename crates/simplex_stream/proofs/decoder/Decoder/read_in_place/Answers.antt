use Rattle.std.proofs.lemmas.Grind.{common_steps}
use Rattle.std.proofs.Common.{ℕ, length, refl, ap, ◌∙◌, arith, length-append}
use Rattle.simplex_base.specs.Format.{Format}
use Rattle.simplex_stream.specs.Decoder.{undecoded}
use Rattle.simplex_stream.proofs.DecoderLemmas.{decodes_more}
use Rattle.simplex_stream.proofs.decoder.Decoder.read_in_place.Given as given
use Rattle.simplex_stream.proofs.decoder.Decoder.read_in_place.Goals as goal

-- the format of messages under a bound
abbrev format : (g : given.Over) → ℕ → Format g.row.M.Denot
format g bound = record {
  is_value = g.M.Read.fits bound;
  encoding = g.M.Encoding.encoding;
  reading = g.M.Read.reading bound;
}

pub returns-clause-decoded : goal.returns-clause-decoded
returns-clause-decoded g c piece parts =
    let p = c.in_ok-progress.progress in
    let done = c.in_ok-progress.ensures.progress in
    let size = ap length c.bytes.ensures in
    let len = ap length parts ∙ length-append (undecoded c.args.self.now) piece in
    decodes_more (format g c.args.bound) _ c.args.self.now _ piece c.args.bytes.now p.rest.now done.messages p.read
    (omega arith) refl done.read_is (grind (arith, common_steps)) parts done.are_messages
    c.advance.ensures.awaits (λ t. c.is_over-self.ensures t c.args.bound p.rest.now done.stop_is) done.recorded
