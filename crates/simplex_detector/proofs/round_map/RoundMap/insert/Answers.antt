use Rattle.std.proofs.Common.{Some, ap, refl, subst, sym, ◌∙◌}
use Rattle.slab.specs.Slab as slab
use Rattle.simplex_detector.specs.RoundMap.{IsSound, Updates, placed}
use Rattle.simplex_detector.proofs.RoundMapLemmas.{inserted, inserted_sound, reserved_sound}
use Rattle.simplex_detector.proofs.round_map.RoundMap.insert.Given as given
use Rattle.simplex_detector.proofs.round_map.RoundMap.insert.Goals as goal

pub invariant_of-self : goal.invariant_of-self
invariant_of-self g c =
    reserved_sound c.self.inside c.self.invariant c.reserve.new.self c.reserve.ensures.rest_kept c.self.inside.places refl

pub invariant_of-self-in_err-insert : goal.invariant_of-self-in_err-insert
invariant_of-self-in_err-insert g c =
    reserved_sound c.self.inside c.self.invariant c.reserve.new.self c.reserve.ensures.rest_kept c.insert.new.self
    c.in_err-insert.ensures.err

-- the map is sound once room is made
reserved : (g : given.Over) (c : goal.After-self-1 g) →
    IsSound c.self.inside.places c.reserve.new.self c.self.inside.last
reserved g c =
    reserved_sound c.self.inside c.self.invariant c.reserve.new.self c.reserve.ensures.rest_kept c.self.inside.places refl

-- the value is stored at the place that was vacant
stored : (g : given.Over) (c : goal.After-self-1 g) →
    slab.Updates c.reserve.new.self c.insert_reserved.new.self c.vacant_key-place.result (Some c.args.value)
stored g c =
    subst (λ place. slab.Updates c.reserve.new.self c.insert_reserved.new.self place (Some c.args.value))
    (c.insert_reserved.ensures.key ∙ sym c.vacant_key-place.ensures.value) c.insert_reserved.ensures.updates

pub invariant_of-self-2 : goal.invariant_of-self-2
invariant_of-self-2 g c =
    inserted_sound (record c.self.inside { values = c.reserve.new.self }) (reserved g c) c.args.round
    c.vacant_key-place.result c.args.value c.insert.new.self c.insert_reserved.new.self
    c.vacant_key-place.ensures.vacant (stored g c) c.in_ok-insert.ensures.updates c.in_ok-insert.ensures.entries

pub returns-clause-inserted : goal.returns-clause-inserted
returns-clause-inserted g c =
    subst (λ old. Updates old (placed (slab.get c.insert_reserved.new.self) c.insert.new.self.entries) c.args.round
    (Some c.args.value))
    (ap (λ (values : slab.Slab g.row.V.Denot). placed (slab.get values) c.self.inside.places.entries)
    c.reserve.ensures.rest_kept ∙ c.self.view_is)
    (inserted (record c.self.inside { values = c.reserve.new.self }) (reserved g c) c.args.round
    c.vacant_key-place.result c.args.value c.insert.new.self c.insert_reserved.new.self
    c.vacant_key-place.ensures.vacant (stored g c) c.in_ok-insert.ensures.updates c.in_ok-insert.ensures.entries)
