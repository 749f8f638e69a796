-- The state of messages one after another.
use Rattle.std.proofs.Common.{List, [], ◌++◌, sym, subst, append_assoc, append-nil}
use Rattle.simplex_evidence.specs.declared.types.activity.Activity.{Activity}
use Rattle.simplex_detector.specs.Detector.{Recalls, RecallsMore}
use Rattle.simplex_rules.specs.Rules.{Rules}
use Rattle.simplex_detector.specs.declared.detector.Detector.{Detector}

-- no message more
pub recalls_none : {S D C P G : Type 0} (rules : Rules S D C P G) (detector : Detector S D P G) →
    RecallsMore rules [] detector detector
recalls_none rules detector before held = subst (λ ms. Recalls rules ms detector) (sym (append-nil before)) held

-- some messages more, and then some
pub recalls_on : {S D C P G : Type 0} (rules : Rules S D C P G) (ms ks : List (Activity S D C P G))
    (old mid new : Detector S D P G) → RecallsMore rules ms old mid → RecallsMore rules ks mid new →
    RecallsMore rules (ms ++ ks) old new
recalls_on rules ms ks old mid new keep next before held =
    subst (λ xs. Recalls rules xs new) (append_assoc before ms ks) (next (before ++ ms) (keep before held))
