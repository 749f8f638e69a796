-- The format of contexts is lawful, and how long their encodings are at most.
-- They stand beside the definitions because ghost members of impls cite them, and those see no proofs.
use Rattle.std.proofs.Common.{ℕ, ◌+◌, refl, arith}
use Rattle.simplex_base.specs.Format.{Format, IsLawful, both}
use Rattle.simplex_base.specs.FormatLaws.{both_lawful, made_lawful}
use Rattle.simplex_base.specs.Sizes.{IsWithin, Longest}
use Rattle.simplex_base.specs.SizeLaws.{both_within, both_longest, made_longest, same_longest, number_64_within, number_64_longest}
use Rattle.simplex_base.specs.Varint.{number_64}
use Rattle.simplex_base.specs.VarintLaws.{number_64_lawful}
use Rattle.simplex_base.specs.Positions.{round_format}
use Rattle.simplex_base.specs.PositionLaws.{round_lawful, round_within, longest_round}
use Rattle.simplex_votes.specs.Context.{context_format}

pub context_lawful : {D P : Type 0} (payload : Format D) (key : Format P) → IsLawful payload → IsLawful key →
    IsLawful (context_format payload key)
context_lawful payload key payloads keys =
    made_lawful _ _ (λ c. refl) (λ p. refl)
    (both_lawful round_lawful (both_lawful keys (both_lawful number_64_lawful payloads)))

-- ---- greatest sizes, with a payload of m bytes and a key of n bytes at most

pub context_within : {D P : Type 0} (payload : Format D) (key : Format P) (m n : ℕ) → IsWithin payload m → IsWithin key n →
    IsWithin (context_format payload key) (30 + n + m)
context_within payload key m n payloads keys c h =
    let most = both_within round_format (both key (both number_64 payload)) round_within
    (both_within key (both number_64 payload) keys (both_within number_64 payload number_64_within payloads))
    (c.round, (c.leader, c.parent)) h in
    omega (arith, most)

pub context_longest : {D P : Type 0} (payload : Format D) (key : Format P) (m n : ℕ) → Longest payload m → Longest key n →
    Longest (context_format payload key) (30 + n + m)
context_longest payload key m n payloads keys =
    same_longest (context_format payload key) (omega arith)
    (made_longest (both round_format (both key (both number_64 payload))) _ _ (λ p. refl)
    (both_longest round_format (both key (both number_64 payload)) longest_round
    (both_longest key (both number_64 payload) keys (both_longest number_64 payload number_64_longest payloads))))
