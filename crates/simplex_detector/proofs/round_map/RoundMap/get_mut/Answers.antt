use borrow.Follows.Closed.{read_of}
use Rattle.std.proofs.Common.{ap, None, Some, refl, sym, ◌∙◌}
use Rattle.std.specs.BTreeMap.{is_at}
use Rattle.std.specs.Map.{set_value}
use Rattle.std.specs.Option.{ghost_name_of, option_copied_mut}
use Rattle.simplex_rules.specs.Accusation.{round_cmp}
use Rattle.simplex_detector.proofs.RoundMapLemmas.{found_sound, lent_sound, lent_value, read}
use Rattle.simplex_detector.proofs.round_map.RoundMap.get_mut.Goals as goal

pub returns-in_err-place : goal.returns-in_err-place
returns-in_err-place g c = (
  rw (c.from_residual.ensures, ← c.self.view_is) refl,
  record {
    writes_back = tt;
    value = ap option_copied_mut c.from_residual.ensures ∙ read c.self.inside c.self.invariant c.args.round None
        (sym c.in_err-place.was ∙ c.place_of.ensures) c.args.self.now c.self.view_is;
  },
)

pub invariant_of-self-lent : goal.invariant_of-self-lent
invariant_of-self-lent g c = λ _.
    let found = sym c.place_of.ensures ∙ c.in_ok-place.was in (
      lent_sound c.self.inside c.self.invariant c.args.round c.in_ok-place.place found,
      found_sound c.self.inside c.self.invariant c.args.round c.in_ok-place.place found,
    )

-- the map is as it was, with what is written as the round's value
pub returns : goal.returns
returns g c =
    let lent = lent_value c.self.inside c.self.invariant c.args.round c.in_ok-place.place
    (sym c.place_of.ensures ∙ c.in_ok-place.was) in (
      λ i. read_of (ghost_name_of c.get_mut.result) (λ (w : g.row.V.Denot).
          (lent w ∙ ap (λ entries. set_value (is_at (round_cmp c.args.round)) entries w) c.self.view_is) i) (c.self.view_is i),
      record {
        writes_back = tt;
        value = c.get_mut.ensures.value ∙ read c.self.inside c.self.invariant c.args.round (Some c.in_ok-place.place)
            (sym c.in_ok-place.was ∙ c.place_of.ensures) c.args.self.now c.self.view_is;
      },
    )
