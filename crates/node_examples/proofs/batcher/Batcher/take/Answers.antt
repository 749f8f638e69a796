use Rattle.std.proofs.Common.{◌∷◌, ◌++◌, [], inl}
use Rattle.node_examples.specs.Batch.{HasTaken}
use Rattle.node_examples.proofs.BatchLemmas.{either_way}
use Rattle.node_examples.proofs.batcher.Batcher.take.Goals as goal

pub returns-in-Ok-clause-answers : goal.returns-in-Ok-clause-answers
returns-in-Ok-clause-answers g c came taken =
    c.notarization.ensures.answers (came ++ c.args.vote ∷ []) (c.in-Ok.ensures.taken came taken)

pub returns-in-Err-clause-taken : goal.returns-in-Err-clause-taken
returns-in-Err-clause-taken g c came taken = inl (c.in-Err.ensures.taken came taken)

pub returns-in-Ok-clause-taken : goal.returns-in-Ok-clause-taken
returns-in-Ok-clause-taken g c came taken =
    either_way c.notarization.result (HasTaken g.D.PartialEq.eq g.S.CertificateScheme.keys g.S.Scheme.good
    c.record_vote.new.self came) _ (c.in-Ok.ensures.taken came taken)
