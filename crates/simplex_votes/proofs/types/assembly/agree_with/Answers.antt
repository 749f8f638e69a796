use Rattle.std.proofs.Common.{◌≡◌, ◌+◌, [], ◌∷◌, ◌++◌, take, sym, ap, subst, ◌∙◌}
use Rattle.std.specs.Prelude.{All}
use Rattle.std.proofs.lemmas.List.{take_more}
use Rattle.std.proofs.lemmas.List.Elements.{All-push}
use Rattle.simplex_votes.proofs.types.assembly.agree_with.Goals as goal

-- one vote more
pub votes-preserved : goal.votes-preserved
votes-preserved g c =
    let subject = g.V.Attested.subject_of in
    let votes = c.args.votes.now in
    let first = c.args.first.now in
    let i = c.votes.vote-index in
    let vote = c.vote-item.result in
    let one_more : take i votes ++ vote ∷ [] ≡ take (i + 1) votes =
    ap (λ v. take i votes ++ v ∷ []) c.vote-item.is ∙ sym (take_more votes i vote c.votes-test.true) in
    subst (All (λ v. subject v ≡ subject first)) one_more
    (All-push (λ v. subject v ≡ subject first) (take i votes) vote c.votes.invariant
    (c.agrees_with.ensures.0 c.if-not-agrees_with.false))
