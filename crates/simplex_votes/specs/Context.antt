-- How contexts are encoded.
use Rattle.simplex_base.specs.Format.{Format, both, made}
use Rattle.simplex_base.specs.Varint.{number_64}
use Rattle.simplex_base.specs.Positions.{round_format}
use Rattle.simplex_votes.specs.declared.types.context.Context.{Context}

-- the round, the leader, the parent's view and its payload
abbrev pub context_format : {D P : Type 0} → Format D → Format P → Format (Context D P)
context_format payload key =
    made (λ p. record { round = p.0; leader = p.1.0; parent = p.1.1 }) (λ c. (c.round, (c.leader, c.parent)))
    (both round_format (both key (both number_64 payload)))
