use Rattle.simplex_cli.proofs.command.process.Goals as goal

pub returns-in-Audit-clause-ends : goal.returns-in-Audit-clause-ends
returns-in-Audit-clause-ends g c = rw c.in-Audit.is c.audit_input.ensures.ends

pub returns-in-Audit-clause-untouched : goal.returns-in-Audit-clause-untouched
returns-in-Audit-clause-untouched g c = rw c.in-Audit.is c.audit_input.ensures.untouched

pub returns-in-Inspect-clause-ends : goal.returns-in-Inspect-clause-ends
returns-in-Inspect-clause-ends g c = rw c.in-Inspect.is c.show_input.ensures.ends

pub returns-in-Inspect-clause-untouched : goal.returns-in-Inspect-clause-untouched
returns-in-Inspect-clause-untouched g c = rw c.in-Inspect.is c.show_input.ensures.untouched
