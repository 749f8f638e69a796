use Rattle.simplex_rules.proofs.Prelude.{ap, is_from, is_key, round_cmp, ◌∙◌}
use Rattle.std.specs.Map.{lookup}
use Rattle.simplex_detector.proofs.PruneLemmas.{lookup-within, recalls_pruned}
use Rattle.simplex_detector.proofs.detector.Detector.prune.Goals as goal

pub returns : goal.returns
returns g c rules messages holds =
    let floor = c.args.floor in
    recalls_pruned rules (is_from floor) messages c.args.self.now.rounds c.prune.new.self
    (λ round. ap (lookup (is_key (round_cmp round))) c.prune.ensures
    ∙ lookup-within (is_from floor) round c.args.self.now.rounds) holds
