use Rattle.std.proofs.Common.{◌≡◌, ◌<◌, map, nat_eq, sym, ap, subst, ◌∙◌}
use Rattle.std.specs.List.{IsDistinct}
use Rattle.std.specs.Prelude.{All}
use Rattle.std.proofs.lemmas.Bool.{false≢true}
use Rattle.simplex_votes.proofs.AssemblyLemmas.{all_for_first, can_assemble_from, distinct_from_can}
use Rattle.simplex_votes.proofs.types.assembly.stand_together.Goals as goal

-- all are for the first one's subject
pub returns-then-agree_with : goal.returns-then-agree_with
returns-then-agree_with g c =
    let subject = g.V.Attested.subject_of in
    let attestation = g.V.Attested.attestation_of in
    let votes = c.args.votes.now in
    let n = c.args.participants in
    let signers : g.V.Attributable.signer_of ≡ (λ v. (attestation v).signer) = λ j v. g.met.V.Attested.attests v j in (
      λ apart. can_assemble_from subject attestation n votes (subject c.in-Some.first.now) c.in-Some.ensures.item.3.0
          (c.agree_with.ensures.0 c.if-agree_with.true)
          (subst (λ number. IsDistinct nat_eq (map number votes) × All (λ v. number v < n) votes) signers
          (c.are_distinct.ensures.0 apart)),
      λ can. c.are_distinct.ensures.1 (subst (λ number. IsDistinct nat_eq (map number votes) × All (λ v. number v < n) votes)
          (sym signers) (distinct_from_can subject attestation n votes can)),
    )

-- some vote is for another one
pub returns-else-agree_with : goal.returns-else-agree_with
returns-else-agree_with g c =
    let subject = g.V.Attested.subject_of in
    let votes = c.args.votes.now in
    let first = c.in-Some.first.now in (
      λ same. absurd (false≢true (sym c.if-agree_with.false ∙ same)),
      λ can. c.agree_with.ensures.1 (subst (λ x. All (λ v. subject v ≡ x) votes)
          (ap subject (sym (c.in-Some.ensures.item.3.1 first))) (all_for_first subject votes first can.same)),
    )
