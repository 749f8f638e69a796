-- How proposals are encoded.
use Rattle.std.specs.Prelude.{ℕ, List, ◌≤◌, ◌^◌, ◌⊎◌}
use Rattle.std.specs.Borrow.{Bor}
use Rattle.simplex_base.specs.Format.{Format, both, made}
use Rattle.simplex_base.specs.Varint.{number_64}
use Rattle.simplex_base.specs.Positions.{round_format, IsLongRound}
use Rattle.simplex_base.specs.declared.positions.round.Round.{Round}
use Rattle.simplex_scheme.specs.declared.proposal.Proposal.{Proposal}

-- the round, the parent's view, the payload
abbrev pub proposal_format : {D : Type 0} → Format D → Format (Proposal D)
proposal_format payload =
    made (λ p. record { round = p.0; parent = p.1.0; payload = p.1.1 }) (λ p. (p.round, (p.parent, p.payload)))
    (both round_format (both number_64 payload))

-- the proposal of its round, its parent's view, and the bytes of its payload
abbrev pub proposal_of : {D : Type 0} → (List ℕ → D) → Round × ℕ × Bor (List ℕ) → Proposal D
proposal_of of_bytes parts = record { round = parts.0; parent = parts.1; payload = of_bytes parts.2.now }

-- one of the proposal's numbers has more than four bytes
abbrev pub IsLongProposal : {D : Type 0} → Proposal D → Type 0
IsLongProposal proposal = IsLongRound proposal.round ⊎ (2 ^ 28 ≤ proposal.parent)
