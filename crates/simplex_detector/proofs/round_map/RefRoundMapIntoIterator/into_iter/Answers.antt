use Rattle.std.proofs.Common.{ap, subst, sym, ◌∙◌}
use Rattle.std.specs.List.Sorted.{IsStrictlySortedBy}
use Rattle.slab.specs.Slab as slab
use Rattle.simplex_rules.specs.Accusation.{round_cmp}
use Rattle.simplex_detector.specs.RoundMap.{IsOrdered, placed}
use Rattle.simplex_detector.proofs.RoundMapLemmas.{placed_keys}
use Rattle.simplex_detector.proofs.round_map.RefRoundMapIntoIterator.into_iter.Goals as goal

pub returns : goal.returns
returns g c =
    let at = slab.get c.self.inside.values in
    record {
      into_iter_gives = (
        ap (placed at) c.iter.ensures.rest ∙ c.self.view_is,
        subst (IsOrdered round_cmp) c.self.view_is (subst (IsStrictlySortedBy round_cmp)
            (sym (placed_keys at c.self.inside.places.entries c.self.invariant.are_placed)) c.iter.ensures.ordered),
      );
    }
