use Rattle.std.proofs.Common.{subst}
use Rattle.std.specs.Prelude.{All}
use Rattle.std.proofs.lemmas.List.{take_all}
use Rattle.std.proofs.lemmas.List.Elements.{All-more, All-weaker}
use Rattle.simplex_rules.specs.Values.{evidence_value}
use Rattle.simplex_places.specs.FirstPlaces.{AreSought, IsSought}
use Rattle.simplex_places.proofs.first_places.sought.Goals as goal

pub evidence-preserved : goal.evidence-preserved
evidence-preserved g c =
    let cmp = g.K.Ord.cmp in
    let key_of = g.K.Key.key_of in
    let after = c.seek-in-evidence.new.places in
    let kept : (key : g.row.K.Denot) → IsSought cmp c.evidence.places key → IsSought cmp after key = λ key was.
    c.in_ok-seek-2.ensures.others key (c.in_ok-seek.ensures.others key was) in
    let first =
    subst (IsSought cmp after) c.first.ensures (c.in_ok-seek-2.ensures.others c.first.result c.in_ok-seek.ensures.sought) in
    let second = subst (IsSought cmp after) c.second.ensures c.in_ok-seek-2.ensures.sought in
    All-more (λ e. AreSought cmp key_of after (evidence_value e)) c.args.evidence.now c.evidence.item-index c.item-item.result
    c.evidence-test.true
    (All-weaker (λ e. AreSought cmp key_of c.evidence.places (evidence_value e)) (λ e. AreSought cmp key_of after
    (evidence_value e)) (λ e was. (kept (key_of (evidence_value e).first) was.0, kept (key_of (evidence_value e).second) was.1))
    _ c.evidence.invariant)
    (subst (λ e. AreSought cmp key_of after (evidence_value e)) c.item-item.is (first, second))

pub returns : goal.returns
returns g c =
    subst (All (λ e. AreSought g.K.Ord.cmp g.K.Key.key_of c.evidence.places (evidence_value e)))
    (take_all c.evidence.item-index c.args.evidence.now c.evidence-test.false) c.evidence.invariant
