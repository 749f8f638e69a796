use Rattle.simplex_cli.proofs.inspecting.show_verdicts.Goals as goal

pub returns-in-Bytes48-clause-ends : goal.returns-in-Bytes48-clause-ends
returns-in-Bytes48-clause-ends g c = rw c.in-Bytes48.is c.show_counts.ensures.ends

pub returns-in-Bytes64-clause-ends : goal.returns-in-Bytes64-clause-ends
returns-in-Bytes64-clause-ends g c = rw c.in-Bytes64.is c.show_counts-in-Bytes64.ensures.ends

pub returns-in-Bytes96-clause-ends : goal.returns-in-Bytes96-clause-ends
returns-in-Bytes96-clause-ends g c = rw c.in-Bytes96.is c.show_counts-in-Bytes96.ensures.ends
