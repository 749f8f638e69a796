use Rattle.std.proofs.Common.{map, string_bytes}
use Rattle.simplex_audit.specs.Outcome.{reader_use, writer_use}
use Rattle.simplex_cli.specs.Verdicts.{AreCountsGiven}
use Rattle.simplex_cli.proofs.InspectLemmas.{not_parsed, parsed_ends}
use Rattle.simplex_cli.proofs.inspecting.show_counts.Goals as goal

pub returns-clause-ends : goal.returns-clause-ends
returns-clause-ends g c =
    parsed_ends _ (AreCountsGiven (map string_bytes c.args.arguments.now))
    (reader_use g.R.Read.remaining c.args.input.now c.show.new.input)
    (writer_use g.W.Write.contents c.args.output.now c.show.new.output) c.show.result c.parse_counts-given.result
    c.parse_counts-given.ensures.given c.parse_counts-given.ensures.usage c.show.ensures.usage c.show.ensures.ends

pub returns-clause-untouched : goal.returns-clause-untouched
returns-clause-untouched g c = λ none.
    not_parsed (AreCountsGiven (map string_bytes c.args.arguments.now)) c.parse_counts-given.result
    c.parse_counts-given.ensures.given none c.show.ensures.untouched
