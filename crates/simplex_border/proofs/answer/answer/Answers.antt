use Rattle.simplex_border.proofs.answer.answer.Goals as goal

pub returns-clause-memory : goal.returns-clause-memory
returns-clause-memory g c = λ is. absurd (c.write_report.ensures.status.1 is)
