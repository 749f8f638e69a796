use Rattle.std.proofs.Common.{ap, sym, ◌∙◌, Some}
use Rattle.simplex_rules.proofs.Places.{same_round-true}
use Rattle.simplex_detector.proofs.round_map.place_of.Goals as goal

pub returns-then-eq : goal.returns-then-eq
returns-then-eq c =
    let same = same_round-true c.in-Some.last c.args.round (sym c.eq.ensures ∙ c.if-eq.true) in
    sym (c.requires c.args.round c.in-Some.place (c.in-Some.is ∙ ap (λ round. Some (round, c.in-Some.place)) same))
