use Rattle.simplex_rules.proofs.Prelude.{All-contains, AreSplits, IsEvidence, [], contains, map, round_cmp, round_of, signer_cmp, subst, suspect_of, true, valid_votes, ◌≡◌, Scheme, scheme_of}
use Rattle.simplex_rules.proofs.Lists.{Contains-map}
use Rattle.simplex_laws.proofs.SuspectLemmas.{claims_are_claimed, claims_are_suspect, nothing_claimed, suspects_are_among, suspects_in, suspects_determine_reports}
use Rattle.simplex_laws.proofs.laws.suspects_determine_reports.Given as given
use Rattle.simplex_laws.proofs.laws.suspects_determine_reports.Goals as goal

-- the scheme
abbrev scheme : (g : given.Over) →
    Scheme g.row.S.Denot g.row.D.Denot g.row.S-Certificate.Denot g.row.S-PublicKey.Denot g.row.S-Signature.Denot
scheme g =
    scheme_of g.D.PartialEq.eq g.S.CertificateScheme.keys g.S.Scheme.good g.S.CertificateVerifier.certified g.S.Listing.listed

pub returns-clause-claims : goal.returns-clause-claims
returns-clause-claims g c schedule = claims_are_claimed (scheme g) schedule

pub returns-clause-nobody : goal.returns-clause-nobody
returns-clause-nobody g c schedule messages splits l is are =
    let same = claims_are_claimed (scheme g) schedule in
    nothing_claimed _ l messages splits (subst (λ judged. IsEvidence g.D.PartialEq.eq (valid_votes judged messages) []) same is)
    (subst (λ judged. AreSplits judged messages splits) same are)

pub returns-clause-suspects : goal.returns-clause-suspects
returns-clause-suspects g c schedule messages claims suspects l is has_rounds has_signers es splits es_are splits_are =
    let s = suspects_in (scheme g) schedule suspects in
    let same = suspects_are_among (scheme g) schedule suspects in
    let suspect = claims_are_suspect _ l messages claims s
    (subst (λ judged. IsEvidence g.D.PartialEq.eq (valid_votes judged messages) claims)
    (claims_are_claimed (scheme g) schedule) is)
    (λ e e_in. (
      All-contains (λ suspect. contains signer_cmp suspects.signers suspect ≡ true) (map suspect_of claims) (suspect_of e)
          has_signers (Contains-map suspect_of claims e e_in),
      All-contains (λ round. contains round_cmp suspects.rounds round ≡ true) (map (λ e. round_of e.first.subject) claims)
          (round_of e.first.subject) has_rounds (Contains-map (λ e. round_of e.first.subject) claims e e_in),
    )) in
    let determined = suspects_determine_reports _ l messages s suspect in (
      (determined.evidence es).0 (subst (λ judged. IsEvidence g.D.PartialEq.eq (valid_votes judged messages) es) same es_are),
      (determined.splits splits).0 (subst (λ judged. AreSplits judged messages splits) same splits_are),
    )
