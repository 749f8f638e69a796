use Rattle.std.proofs.Common.{rules, ap, map, string_bytes}
use Rattle.simplex_live.specs.Ending.{IsQuestion}
use Rattle.simplex_live.proofs.ListenLemmas.{on_err}
use Rattle.simplex_live.proofs.live.asked.Goals as goal

pub returns-in_err-answer-clause-failed : goal.returns-in_err-answer-clause-failed
returns-in_err-answer-clause-failed g c =
    let question : IsQuestion (string_bytes c.in-Some.first.now) = search rules in
    on_err c.from_residual.result _ (
      string_bytes c.in-Some.first.now,
      map string_bytes c.in-Some.behind.now,
      ap (map string_bytes) c.in-Some.ensures.cases.0,
      question,
    )

pub returns-clause-asks : goal.returns-clause-asks
returns-clause-asks g c =
    let question : IsQuestion (string_bytes c.in-Some.first.now) = search rules in (
      string_bytes c.in-Some.first.now,
      map string_bytes c.in-Some.behind.now,
      ap (map string_bytes) c.in-Some.ensures.cases.0,
      question,
    )
