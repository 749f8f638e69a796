use Rattle.std.proofs.Common.{inl, inr, refl, sym, ◌∙◌}
use Rattle.simplex_rules.specs.Scheme.{rules_of, scheme_of}
use Rattle.simplex_ffi.specs.Proof.{IsMessageJudged, are_valid, equivocation_of}
use Rattle.simplex_ffi.proofs.ProofLemmas.{accusation_found, none_found}
use Rattle.simplex_ffi.proofs.proof.judge_message.Goals as goal

pub returns-in-Some-clause-judged : goal.returns-in-Some-clause-judged
unfolding IsMessageJudged
returns-in-Some-clause-judged g c =
    let rules = rules_of (scheme_of g.D.PartialEq.eq g.S.CertificateScheme.keys g.S.Scheme.good
    g.S.CertificateVerifier.certified g.S.Listing.listed) c.args.committees.now in
    let found = accusation_found (equivocation_of c.args.message.now) c.in-Some.found c.is_proved.result (are_valid rules)
    (sym c.in-Some.is ∙ c.accusation_of.ensures) c.is_proved.ensures in
    inl (found.0, found.1, found.2, refl)

pub returns-in-None-clause-judged : goal.returns-in-None-clause-judged
unfolding IsMessageJudged
returns-in-None-clause-judged g c =
    inr (
      none_found (equivocation_of c.args.message.now) c.is_proved.result (sym c.in-None.is ∙ c.accusation_of.ensures),
      refl,
      refl,
    )
