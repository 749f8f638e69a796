use Rattle.std.proofs.Common.{◌≡◌, ◌+◌, [], ◌∷◌, ◌++◌, take, map, sym, ap, ◌∙◌}
use Rattle.std.proofs.lemmas.List.{take_more, map-append}
use Rattle.simplex_votes.proofs.types.assembly.attestations.Goals as goal

-- one attestation more
pub votes-preserved : goal.votes-preserved
votes-preserved g c =
    let attestation = g.V.Attested.attestation_of in
    let votes = c.args.votes.now in
    let i = c.votes.vote-index in
    let vote = c.vote-item.result in
    let one_more : take i votes ++ vote ∷ [] ≡ take (i + 1) votes =
    ap (λ v. take i votes ++ v ∷ []) c.vote-item.is ∙ sym (take_more votes i vote c.votes-test.true) in
    c.in_ok-push.ensures.items ∙ (λ j. c.votes.invariant j ++ (c.attestation-attestation.ensures j) ∷ []) ∙
    sym (map-append attestation (take i votes) (vote ∷ [])) ∙ ap (map attestation) one_more
