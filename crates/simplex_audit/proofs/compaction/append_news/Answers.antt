use Rattle.simplex_audit.proofs.compaction.append_news.Goals as goal

pub returns-in-Votes-clause-written : goal.returns-in-Votes-clause-written
returns-in-Votes-clause-written g c =
    rw c.in-Votes.is (rw c.as_slice.ensures.value at c.append_all.ensures.written)

pub returns-in-Votes-clause-values : goal.returns-in-Votes-clause-values
returns-in-Votes-clause-values g c =
    rw c.in-Votes.is (rw c.as_slice.ensures.value at c.append_all.ensures.values)
