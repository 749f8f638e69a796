use Rattle.std.proofs.Common.{refl, ◌∙◌}
use Rattle.simplex_inspect.proofs.LinesLemmas.{writes_one}
use Rattle.simplex_inspect.proofs.reading.LineWriterVisitorActivity.take.Goals as goal

pub returns : goal.returns
returns g c =
    writes_one _ c.args.message.now c.args.size c.as_str.result.now c.args.self.now _ c.requires.size
    (c.as_str.ensures.value ∙ c.in_ok-one.ensures.line) c.in_ok-push_str.ensures.bytes refl
