use Rattle.std.proofs.Common.{◌++◌, ◌∙◌, map, subst}
use Rattle.simplex_rules.specs.Line.{line_of}
use Rattle.simplex_rules.specs.Splits.{split_line}
use Rattle.simplex_rules.specs.Values.{evidence_value}
use Rattle.simplex_stream.specs.Text.{AppendsBeginning}
use Rattle.simplex_stream.specs.Watched.{inner_of}
use Rattle.simplex_audit.specs.Run.{text_of}
use Rattle.simplex_monitor.proofs.HearingLemmas.{on_err}
use Rattle.simplex_monitor.proofs.input.tell.Goals as goal

pub returns-clause-begun : goal.returns-clause-begun
returns-clause-begun g c =
    on_err c.write_text.result _ (subst (AppendsBeginning (g.W.Write.contents (inner_of c.args.writer.now))
    (g.W.Write.contents (inner_of c.write_text.new.writer)))
    (c.as_bytes.ensures.value ∙ c.in_ok-text.ensures
    ∙ (λ i. text_of (line_of g.D.Fixed.bytes_of) (map evidence_value (c.as_slice.ensures.value i))
    ++ text_of split_line (c.as_slice-2.ensures.value i))) c.write_text.ensures.beginning)
