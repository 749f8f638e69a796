use Rattle.std.proofs.Common.{ap, None, Some, option_copied, sym, ◌∙◌}
use Rattle.simplex_detector.proofs.RoundMapLemmas.{read}
use Rattle.simplex_detector.proofs.round_map.RoundMap.get.Goals as goal

pub returns-in_err-place : goal.returns-in_err-place
returns-in_err-place g c = record {
  value = ap option_copied c.from_residual.ensures ∙ read c.self.inside c.self.invariant c.args.round None
      (sym c.in_err-place.was ∙ c.place_of.ensures) c.args.self.now c.self.view_is;
}

pub returns : goal.returns
returns g c = record {
  value = c.get.ensures ∙ read c.self.inside c.self.invariant c.args.round (Some c.in_ok-place.place)
      (sym c.in_ok-place.was ∙ c.place_of.ensures) c.args.self.now c.self.view_is;
}
