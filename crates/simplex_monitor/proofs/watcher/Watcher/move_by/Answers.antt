use Rattle.std.proofs.Common.{◌≡◌, [], ◌∷◌, ◌++◌, cond, subst, sym, ◌∙◌}
use Rattle.simplex_rules.specs.Independence.{is_from}
use Rattle.simplex_monitor.specs.Taken.{certified_rounds, finalized_rounds}
use Rattle.simplex_monitor.specs.Window.{window_after}
use Rattle.simplex_monitor.proofs.WatchingLemmas.{keeps_pruned, keeps_same}
use Rattle.simplex_scheme.specs.Committees.{Schedule}
use Rattle.simplex_rules.specs.Rules.{Rules}
use Rattle.simplex_rules.specs.Scheme.{rules_of, scheme_of}
use Rattle.simplex_monitor.proofs.watcher.Watcher.move_by.Given as given
use Rattle.simplex_monitor.proofs.watcher.Watcher.move_by.Goals as goal

-- the rules by which committees judge
abbrev rules : (g : given.Over) → Schedule g.row.S.Denot → Rules g.row.S.Denot g.row.D.Denot g.row.S-Certificate.Denot
    g.row.S-PublicKey.Denot g.row.S-Signature.Denot
rules g committees =
    rules_of (scheme_of g.D.PartialEq.eq g.S.CertificateScheme.keys g.S.Scheme.good g.S.CertificateVerifier.certified
    g.S.Listing.listed) committees

pub returns-then-is_at_least-clause-holds : goal.returns-then-is_at_least-clause-holds
returns-then-is_at_least-clause-holds g c committees =
    keeps_same _ c.args.self.now c.advance.new.self
    (λ start before ordered began. c.advance.ensures.rises start (certified_rounds (rules g committees) before)
    (finalized_rounds (rules g committees) before) ordered began)
    ((λ i. is_from (sym c.floor-floor.ensures i) (sym c.floor-before.ensures i)) ∙ sym c.is_at_least.ensures
    ∙ c.if-is_at_least.true)

pub returns-clause-moves : goal.returns-clause-moves
returns-clause-moves g c start certified finalized ordered is =
    c.prune.ensures.window
    ∙ subst (λ b. c.advance.new.self ≡ window_after start (certified ++ c.args.round ∷ [])
    (finalized ++ cond b (c.args.round ∷ []) [])) c.finalizes.ensures
    (c.advance.ensures.moves start certified finalized ordered is)

pub returns-clause-counts : goal.returns-clause-counts
returns-clause-counts g c =
    let kept = c.prune.ensures.counts in
    record { below = kept.below; above = kept.above; holding = kept.holding }

pub returns-clause-holds : goal.returns-clause-holds
returns-clause-holds g c committees =
    keeps_pruned _ c.args.self.now c.prune.new.self c.advance.new.self c.floor-floor.result c.prune.ensures.window
    (c.prune.ensures.holds committees) c.floor-floor.ensures
    (λ start before ordered began. c.advance.ensures.rises start (certified_rounds (rules g committees) before)
    (finalized_rounds (rules g committees) before) ordered began)
