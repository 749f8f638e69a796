use Rattle.std.proofs.Common.{◌≡◌, ◌<◌, ◌≤◌, refl, length, map, true, sym, ap, subst, ◌∙◌, arith}
use Rattle.std.specs.Prelude.{All}
use Rattle.std.proofs.lemmas.Bool.{false≢true}
use Rattle.simplex_scheme.specs.Committee.{quorum_of}
use Rattle.simplex_scheme.specs.Subject.{Notarizes}
use Rattle.simplex_votes.specs.Assembly.{StandInOrder}
use Rattle.simplex_evidence.specs.VoteMap.{AreParticipants}
use Rattle.node_examples.specs.Batch.{HasQuorum, signer_of, signers_in}
use Rattle.node_examples.proofs.BatchLemmas.{in_order, one_proposal}
use Rattle.node_examples.proofs.batcher.Batcher.notarization.Goals as goal
use Rattle.node_examples.proofs.batcher.Batcher.notarization.Goals.{then-count-quorum-via-then-count-quorum, then-count-quorum-via-else-count-quorum+then-not-can_assemble}

pub returns-then-count-quorum-clause-answers : goal.returns-then-count-quorum-clause-answers
returns-then-count-quorum-clause-answers g c came taken =
    let inside = c.self.inside in
    let keys = g.S.CertificateScheme.keys in
    let votes = inside.votes.items in
    let counted : c.count.result ≡ length votes = c.count.ensures.votes ∙ sym (ap (λ b. length b.votes) c.self.view_is) in
    let quorum_is : c.quorum-quorum.result ≡ quorum_of (length (keys inside.scheme.now)) =
    c.quorum-quorum.ensures.value ∙ ap quorum_of (c.len.ensures ∙ ap length c.participants.ensures.keys) in
    let few : HasQuorum g.D.PartialEq.eq keys g.S.Scheme.good c.args.self.now came → ⊥ = elim c.then-count-quorum.branch [
      | then-count-quorum-via-then-count-quorum w ↦
          let too_few : signers_in g.D.PartialEq.eq keys g.S.Scheme.good c.args.self.now came
          < quorum_of (length (keys inside.scheme.now)) =
          omega (arith, quorum_is, w.if-count-quorum.true, c.count.ensures.signers came taken) in
          subst
          (λ b. quorum_of (length (keys b.scheme)) ≤ signers_in g.D.PartialEq.eq keys g.S.Scheme.good c.args.self.now came → ⊥)
          c.self.view_is (λ many. absurd (omega arith))
      | then-count-quorum-via-else-count-quorum+then-not-can_assemble w ↦
          let some : 1 ≤ length votes = omega (arith, counted, w.if-count-quorum.false, c.quorum-quorum.ensures.some) in
          let is = c.as_slice-votes.ensures.items in
          let ordered = w.can_assemble.ensures.ordered
          (subst (StandInOrder (λ v. v.proposal) (λ v. v.attestation) (length (keys inside.scheme.now))) (sym is)
          (in_order (g.S.Scheme.good inside.scheme.now) inside.proposal (length (keys inside.scheme.now)) votes some
          c.self.invariant.1 c.as_slice-votes.ensures.ordered
          (subst (λ n. AreParticipants signer_of n votes) c.self.invariant.0 c.as_slice-votes.ensures.within))) in
          λ many. absurd (false≢true (sym w.if-not-can_assemble.true ∙ ordered))
    ] in
    (λ never. absurd (false≢true never), λ many. absurd (few many))

pub returns-in-Ok-clause-answers : goal.returns-in-Ok-clause-answers
returns-in-Ok-clause-answers g c came taken =
    let inside = c.self.inside in
    let keys = g.S.CertificateScheme.keys in
    let quorum_is : c.quorum-quorum.result ≡ quorum_of (length (keys inside.scheme.now)) =
    c.quorum-quorum.ensures.value ∙ ap quorum_of (c.len.ensures ∙ ap length c.participants.ensures.keys) in
    let enough : quorum_of (length (keys inside.scheme.now)) ≤ c.count.result =
    omega (arith, quorum_is, c.if-count-quorum.false) in (
      λ _. subst (λ b. quorum_of (length (keys b.scheme))
          ≤ signers_in g.D.PartialEq.eq keys g.S.Scheme.good c.args.self.now came) c.self.view_is
          (subst (λ k. quorum_of (length (keys inside.scheme.now)) ≤ k) (c.count.ensures.signers came taken) enough),
      λ _. refl,
    )

pub returns-in-Ok-clause-certifies : goal.returns-in-Ok-clause-certifies
returns-in-Ok-clause-certifies g c =
    let inside = c.self.inside in
    let stands = c.self.invariant.1 in
    let is = c.as_slice-votes.ensures.items in
    let good = g.S.Scheme.good inside.scheme.now in
    let some : 1 ≤ length inside.votes.items = omega (
      arith,
      c.count.ensures.votes,
      ap (λ b. length b.votes) c.self.view_is,
      c.if-count-quorum.false,
      c.quorum-quorum.ensures.some,
    ) in (
      one_proposal inside.votes.items c.in-Ok.notarization.proposal inside.proposal some
          (subst (All (λ v. v.proposal ≡ c.in-Ok.notarization.proposal)) is c.in-Ok.ensures.proposal) stands.same
          ∙ ap (λ b. b.proposal) c.self.view_is,
      subst (λ b. g.S.CertificateVerifier.certified b.scheme (Notarizes c.in-Ok.notarization.proposal)
          c.in-Ok.notarization.certificate ≡ true) c.self.view_is
          (c.in-Ok.ensures.certified (subst (All
          (λ v. good (Notarizes v.proposal) v.attestation.signer v.attestation.signature ≡ true)) (sym is) stands.each_valid)),
    )

pub returns-in-Ok-clause-made : goal.returns-in-Ok-clause-made
returns-in-Ok-clause-made g c =
    let certificate = c.in-Ok.notarization.certificate in
    subst (λ b. g.S.Scheme.made_of (map (λ v. v.attestation) b.votes) certificate) c.self.view_is
    (subst (λ votes. g.S.Scheme.made_of (map (λ v. v.attestation) votes) certificate) c.as_slice-votes.ensures.items
    c.in-Ok.ensures.made)
