use Rattle.std.proofs.Common.{ap, sym, ◌∙◌}
use Rattle.slab.specs.Slab as slab
use Rattle.simplex_rules.specs.Independence.{is_from}
use Rattle.simplex_detector.specs.RoundMap.{placed}
use Rattle.simplex_detector.proofs.RoundMapLemmas.{placed_filter, removed, removed_sound}
use Rattle.simplex_detector.proofs.round_map.RoundMap.prune.Goals as goal

pub below-preserved : goal.below-preserved
below-preserved g c =
    let inside = c.below.self-inside in
    let sound = c.below.invariant.sound in
    record {
      sound = removed_sound inside sound c.in-Some.field-0-0 c.in-Some.place c.pop_below.new.rounds c.in-Some.ensures.taken
          c.remove.new.self c.remove.ensures.updates;
      above = c.below.invariant.above ∙ removed inside sound c.in-Some.field-0-0 c.in-Some.place c.pop_below.new.rounds
          c.in-Some.ensures.taken c.remove.new.self c.remove.ensures.updates (is_from c.args.floor) c.in-Some.ensures.below;
    }

-- no round is left below the floor
pub returns : goal.returns
returns g c =
    let inside = c.below.self-inside in
    sym (c.below.invariant.above
    ∙ placed_filter (slab.get inside.values) (is_from c.args.floor) inside.places.entries c.below.invariant.sound.are_placed
    ∙ ap (placed (slab.get inside.values)) (c.in_default.ensures.all_stay ∙ sym c.in_default.ensures.none))
