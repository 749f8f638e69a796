use Rattle.simplex_audit_tests.proofs.recorded.recorded.Goals as goal

pub returns : goal.returns
returns g c = λ committees stream messages rest stands are.
    c.votes.ensures.exact c.within.ensures committees stream messages rest stands are
