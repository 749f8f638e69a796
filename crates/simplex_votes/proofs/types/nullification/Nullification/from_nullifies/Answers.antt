use Rattle.std.proofs.Common.{get_or}
use Rattle.simplex_scheme.specs.Subject.{Nullifies}
use Rattle.simplex_votes.proofs.AssemblyLemmas.{all_for_first, good_for}
use Rattle.simplex_votes.proofs.types.nullification.Nullification.from_nullifies.Goals as goal

-- all are for the first one's round
pub returns-in-Ok-clause-round : goal.returns-in-Ok-clause-round
returns-in-Ok-clause-round g c = all_for_first (λ v. v.round) c.args.votes.now c.index-votes-0.result c.requires.same

-- valid votes are valid for it
pub returns-in-Ok-clause-certified : goal.returns-in-Ok-clause-certified
returns-in-Ok-clause-certified g c each =
    let votes = c.args.votes.now in
    let first = c.index-votes-0.result in
    let r = (get_or votes 0 first).round in
    c.in-Ok.ensures.certified (Nullifies r)
    (good_for (g.S.Scheme.good c.args.scheme.now) Nullifies (λ v. v.round) (λ v. v.attestation) votes r
    (all_for_first (λ v. v.round) votes first c.requires.same) each)
