use Rattle.std.proofs.Common.{◌∙◌, ap, length}
use Rattle.std.specs.Prelude.{◌==◌}
use Rattle.simplex_stream.specs.Decoder.{undecoded}
use Rattle.simplex_tracker.proofs.tracker.Tracker.is_whole.Goals as goal

pub returns : goal.returns
returns g c = λ floor committees told stream h. record {
  messages = h.messages;
  rest = undecoded c.args.self.now.decoder;
  are_messages = h.decoded.are_messages;
  whole_is = c.is_empty.ensures ∙ ap (λ xs. length xs == 0) c.rest.ensures;
}
