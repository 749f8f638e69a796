-- Positions in the protocol, and how they are encoded. An epoch, a view and a participant are numbers.
use Rattle.std.proofs.Common.{ℕ}
use Rattle.std.specs.Prelude.{◌==◌, ◌&&◌, ◌≤◌, ◌^◌, ◌⊎◌, Bool}
use Rattle.simplex_base.specs.Format.{Format, both, made}
use Rattle.simplex_base.specs.Varint.{number_64}

-- a view of an epoch
pub record Round : Type 0 where
  pub epoch : ℕ
  pub view : ℕ

-- whether two rounds are one: the same view of the same epoch
abbrev pub same_round : Round → Round → Bool
same_round a b = (a.epoch == b.epoch) && (a.view == b.view)

-- an epoch, and then a view
abbrev pub round_format : Format Round
round_format = made (λ p. record { epoch = p.0; view = p.1 }) (λ r. (r.epoch, r.view)) (both number_64 number_64)

-- one of the round's numbers has more than four bytes
abbrev pub IsLongRound : Round → Type 0
IsLongRound round = (2 ^ 28 ≤ round.epoch) ⊎ (2 ^ 28 ≤ round.view)
