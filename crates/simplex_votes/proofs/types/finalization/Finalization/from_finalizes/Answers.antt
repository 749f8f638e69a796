use Rattle.std.proofs.Common.{get_or}
use Rattle.simplex_scheme.specs.Subject.{Finalizes}
use Rattle.simplex_votes.proofs.AssemblyLemmas.{all_for_first, good_for}
use Rattle.simplex_votes.proofs.types.finalization.Finalization.from_finalizes.Goals as goal

-- all are for the first one's proposal
pub returns-in-Ok-clause-proposal : goal.returns-in-Ok-clause-proposal
returns-in-Ok-clause-proposal g c = all_for_first (λ v. v.proposal) c.args.votes.now c.index-votes-0.result c.requires.same

-- valid votes are valid for it
pub returns-in-Ok-clause-certified : goal.returns-in-Ok-clause-certified
returns-in-Ok-clause-certified g c each =
    let votes = c.args.votes.now in
    let first = c.index-votes-0.result in
    let p = (get_or votes 0 first).proposal in
    c.in-Ok.ensures.certified (Finalizes p)
    (good_for (g.S.Scheme.good c.args.scheme.now) Finalizes (λ v. v.proposal) (λ v. v.attestation) votes p
    (all_for_first (λ v. v.proposal) votes first c.requires.same) each)
