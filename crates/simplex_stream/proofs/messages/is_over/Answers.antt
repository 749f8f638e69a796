use Rattle.std.proofs.Common.{subst, sym, ◌∙◌}
use Rattle.simplex_stream.proofs.DecoderLemmas.{refused_for_good}
use Rattle.simplex_stream.specs.Messages.{IsStop}
use Rattle.simplex_stream.proofs.messages.is_over.Goals as goal

pub returns-then-not-ends_early : goal.returns-then-not-ends_early
returns-then-not-ends_early g c = λ t bound rest h.
    let stop = subst (IsStop (g.M.Read.reading bound) rest) c.in-Some.is h in
    refused_for_good (g.M.Read.reading bound) (c.refusals_are_final.ensures.settled t bound) rest stop.0 c.in-Some.error
    (sym c.ends_early.ensures ∙ c.if-not-ends_early.true) stop.1
