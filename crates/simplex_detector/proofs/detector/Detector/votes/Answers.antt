use Rattle.simplex_detector.specs.RoundMap.{IsOrdered}
use Rattle.simplex_rules.proofs.Prelude.{ap, arith, round_cmp, rules as std_rules, rules_under, scheme_of}
use Rattle.simplex_detector.proofs.CountLemmas.{rounds_count, counted_votes}
use Rattle.simplex_detector.proofs.detector.Detector.votes.Goals as goal

pub returns : goal.returns
returns g c judging schedule messages holds =
    let ordered : IsOrdered round_cmp c.args.self.now.rounds = search std_rules in
    let all =
    counted_votes (rules_under (scheme_of g.D.PartialEq.eq g.S.CertificateScheme.keys g.S.Scheme.good
    g.S.CertificateVerifier.certified g.S.Listing.listed) judging schedule) messages c.args.self.now ordered holds
    g.met.D.Eq.laws in
    let walked = c.rounds.invariant.1 in
    let done = ap rounds_count c.in-None.ensures.steps.0 in
    omega (arith, all, walked, done)
