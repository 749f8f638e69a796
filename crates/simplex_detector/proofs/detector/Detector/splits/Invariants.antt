use Rattle.simplex_rules.proofs.Prelude.{Activity, AllByRecursion, HaveCommittees, List, filter_map, map, rules_under, split_of, ◌++◌, ◌≡◌, scheme_of}
use Rattle.simplex_rules.specs.declared.judging.Judging.{Judging}
use Rattle.simplex_detector.specs.Detector.{RecallsRound}
use Rattle.simplex_detector.proofs.detector.Detector.splits.Given as goal

-- the splits so far, and those of the rounds that are left
abbrev pub invariant-rounds : goal.invariant-rounds
invariant-rounds g l =
    (judging : Judging) →
    let rules = rules_under (scheme_of g.D.PartialEq.eq g.S.CertificateScheme.keys g.S.Scheme.good
    g.S.CertificateVerifier.certified g.S.Listing.listed) judging l.committees in
    (messages : List
    (Activity g.row.S.Denot g.row.D.Denot g.row.S-Certificate.Denot g.row.S-PublicKey.Denot g.row.S-Signature.Denot)) →
    HaveCommittees rules → AllByRecursion (λ e. RecallsRound rules messages e.0 e.1) l.self.rounds →
    AllByRecursion (λ e. RecallsRound rules messages e.0 e.1) l.round-iterator ×
    (l.splits.items ++ filter_map (split_of rules messages) (map (λ e. e.0) l.round-iterator)
    ≡ filter_map (split_of rules messages) (map (λ e. e.0) l.self.rounds))
