use Rattle.std.proofs.Common.{◌≡◌, ◌++◌, ◌∷◌, [], length, true, sym, ap, subst, ◌∙◌}
use Rattle.std.specs.List.{filter}
use Rattle.simplex_evidence.specs.VoteMap.{IsFirsts}
use Rattle.simplex_scheme.specs.Subject.{Notarizes}
use Rattle.node_examples.specs.Batch.{Batch, HasTaken, is_wanted, signer_of}
use Rattle.node_examples.proofs.BatchLemmas.{stands_after, one_more_passes, answered}
use Rattle.node_examples.proofs.batcher.Batcher.record_vote.Goals as goal

pub invariant_of-self : goal.invariant_of-self
invariant_of-self g c =
    let inside = c.self.inside in
    let good = g.S.Scheme.good in
    let vote = c.args.vote in
    let same : vote.proposal ≡ inside.proposal =
    c.is_wanted.ensures.proposal c.if-is_wanted.true ∙ sym (ap (λ b. b.proposal) c.self.view_is) in
    let valid : good inside.scheme.now (Notarizes vote.proposal) vote.attestation.signer vote.attestation.signature ≡ true =
    subst (λ b. good b.scheme (Notarizes vote.proposal) vote.attestation.signer vote.attestation.signature ≡ true)
    (sym c.self.view_is) (c.is_wanted.ensures.valid c.if-is_wanted.true) in (
      c.insert.ensures.participants ∙ c.self.invariant.0,
      stands_after (good inside.scheme.now) inside.proposal inside.votes.items c.insert.new.self.items vote c.insert.result
          c.in_ok-insert.field-0 c.in_ok-insert.was c.self.invariant.1 same valid c.insert.ensures.more c.insert.ensures.kept,
    )

pub returns-in_ok-insert-clause-taken : goal.returns-in_ok-insert-clause-taken
returns-in_ok-insert-clause-taken g c came taken =
    let inside = c.self.inside in
    let eq = g.D.PartialEq.eq in
    let keys = g.S.CertificateScheme.keys in
    let good = g.S.Scheme.good in
    let n = length (keys inside.scheme.now) in
    let vote = c.args.vote in
    let new = c.insert.new.self.items in
    let batch : Batch g.row.S.Denot g.row.D.Denot g.row.S-PublicKey.Denot g.row.S-Signature.Denot =
    record { scheme = inside.scheme.now; proposal = inside.proposal; votes = inside.votes.items } in
    let before = subst (λ b. HasTaken eq keys good b came) (sym c.self.view_is) taken in
    let passes : is_wanted eq keys good batch vote ≡ true = subst (λ b. is_wanted eq keys good b vote ≡ true)
    (sym c.self.view_is) (sym c.is_wanted.ensures.value ∙ c.if-is_wanted.true) in
    let wanted = filter (is_wanted eq keys good batch) came in
    let now : c.insert.new.self.participants ≡ n = c.insert.ensures.participants ∙ c.self.invariant.0 in
    let got = answered _ _ c.insert.result c.in_ok-insert.field-0 c.in_ok-insert.was (c.insert.ensures.firsts wanted
    (subst (λ k. IsFirsts signer_of k wanted inside.votes.items) (sym c.self.invariant.0) before)) in
    subst (λ votes. IsFirsts signer_of n votes new) (sym (one_more_passes (is_wanted eq keys good batch) came vote passes))
    (subst (λ k. IsFirsts signer_of k (wanted ++ vote ∷ []) new) now got)
