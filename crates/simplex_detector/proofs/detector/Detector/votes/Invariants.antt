use Rattle.simplex_rules.proofs.Prelude.{min, ◌+◌, ◌-◌, ◌<◌, ◌^◌, ◌≡◌}
use Rattle.simplex_detector.proofs.CountLemmas.{rounds_count}
use Rattle.simplex_detector.proofs.detector.Detector.votes.Given as goal

abbrev pub invariant-rounds : goal.invariant-rounds
invariant-rounds g l =
    (l.count < 2 ^ 64)
    × (min (l.count + rounds_count l.round_state-iterator) (2 ^ 64 - 1) ≡ min (rounds_count l.self.rounds) (2 ^ 64 - 1))
