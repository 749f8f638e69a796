use Rattle.simplex_rules.proofs.Prelude.{AllByRecursion, AreSplits, Rules, Schedule, ap, append-nil, filter_map, map, recursion_from_All, round_cmp, rules as std_rules, rules_under, split_of, subst, sym, ◌++◌, ◌∙◌, scheme_of}
use Rattle.simplex_rules.specs.declared.judging.Judging.{Judging}
use Rattle.simplex_detector.specs.RoundMap.{IsOrdered}
use Rattle.simplex_detector.specs.Detector.{RecallsRound}
use Rattle.simplex_detector.proofs.CountLemmas.{splits_of_detector, splits_next}
use Rattle.simplex_detector.proofs.ReportLemmas.{recalls_listed}
use Rattle.simplex_detector.proofs.detector.Detector.splits.Given as given
use Rattle.simplex_detector.proofs.detector.Detector.splits.Goals as goal

abbrev rules : (g : given.Over) → Judging → Schedule g.row.S.Denot →
    Rules g.row.S.Denot g.row.D.Denot g.row.S-Certificate.Denot g.row.S-PublicKey.Denot g.row.S-Signature.Denot
rules g =
    rules_under (scheme_of g.D.PartialEq.eq g.S.CertificateScheme.keys g.S.Scheme.good
    g.S.CertificateVerifier.certified g.S.Listing.listed)

pub rounds-init : goal.rounds-init
rounds-init g c judging messages l held =
    let all = c.into_iter-round-iterator.ensures.into_iter_gives.0 in (
      subst (AllByRecursion (λ e. RecallsRound (rules g judging c.args.committees.now) messages e.0 e.1)) (sym all) held,
      (λ i. c.new-splits.ensures.items i
          ++ filter_map (split_of (rules g judging c.args.committees.now) messages) (map (λ e. e.0) (all i))),
    )

-- the split of one more round
pub rounds-preserved : goal.rounds-preserved
rounds-preserved g c judging messages l held =
    let (left, so_far) = c.rounds.invariant judging messages l held in
    let here = subst (AllByRecursion (λ e. RecallsRound (rules g judging c.args.committees.now) messages e.0 e.1))
    c.in-Some.ensures.steps left in
    let split = c.split.ensures judging messages l here.0 in (
      here.1,
      splits_next (split_of (rules g judging c.args.committees.now) messages) c.rounds.splits.items
          c.push_split.new.splits.items _ c.in-Some.round.now (map (λ e. e.0) c.next.new.self) _ c.in_ok-push_split.ensures
          split (ap (λ es. c.rounds.splits.items ++ filter_map (split_of (rules g judging c.args.committees.now) messages)
          (map (λ e. e.0) es)) (sym c.in-Some.ensures.steps) ∙ so_far),
    )

-- the splits of all rounds
pub returns : goal.returns
returns g c judging messages l holds =
    let ordered : IsOrdered round_cmp c.args.self.now.rounds = search std_rules in
    let (left, all) = c.rounds.invariant judging messages l
    (recursion_from_All _ _ (recalls_listed (rules g judging c.args.committees.now) messages c.args.self.now ordered holds)) in
    subst (AreSplits (rules g judging c.args.committees.now) messages)
    (sym (sym (append-nil c.rounds.splits.items) ∙ ap (λ es. c.rounds.splits.items ++ filter_map
    (split_of (rules g judging c.args.committees.now) messages) (map (λ e. e.0) es)) (sym c.in-None.ensures.steps.0) ∙ all))
    (splits_of_detector (rules g judging c.args.committees.now) messages c.args.self.now ordered holds)
