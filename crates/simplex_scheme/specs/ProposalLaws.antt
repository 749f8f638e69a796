-- The format of proposals is lawful, and how long their encodings are at most.
-- They stand beside the definitions because ghost members of impls cite them, and those see no proofs.
use Rattle.std.proofs.Common.{ℕ, ◌+◌, refl, arith}
use Rattle.simplex_base.specs.Format.{Format, IsLawful, both}
use Rattle.simplex_base.specs.FormatLaws.{both_lawful, made_lawful}
use Rattle.simplex_base.specs.Finality.{IsFinal}
use Rattle.simplex_base.specs.FinalityLaws.{both_final, made_final, final_within, number_64_final}
use Rattle.simplex_base.specs.Sizes.{IsWithin, Longest}
use Rattle.simplex_base.specs.SizeLaws.{both_within, both_longest, made_longest, same_longest, number_64_within, number_64_longest}
use Rattle.simplex_base.specs.Varint.{number_64}
use Rattle.simplex_base.specs.VarintLaws.{number_64_lawful}
use Rattle.simplex_base.specs.Positions.{round_format}
use Rattle.simplex_base.specs.PositionLaws.{round_lawful, round_within, longest_round, round_final}
use Rattle.simplex_scheme.specs.Proposal.{proposal_format}

pub proposal_lawful : {D : Type 0} (payload : Format D) → IsLawful payload → IsLawful (proposal_format payload)
proposal_lawful payload law =
    made_lawful _ _ (λ p. refl) (λ p. refl) (both_lawful round_lawful (both_lawful number_64_lawful law))

-- ---- greatest sizes, with a payload of n bytes at most

pub proposal_within : {D : Type 0} (payload : Format D) (n : ℕ) → IsWithin payload n →
    IsWithin (proposal_format payload) (30 + n)
proposal_within payload n within p h =
    let most =
    both_within round_format (both number_64 payload) round_within (both_within number_64 payload number_64_within within)
    (p.round, (p.parent, p.payload)) h in
    omega (arith, most)

pub proposal_longest : {D : Type 0} (payload : Format D) (n : ℕ) → Longest payload n →
    Longest (proposal_format payload) (30 + n)
proposal_longest payload n longest =
    same_longest (proposal_format payload) (omega arith)
    (made_longest (both round_format (both number_64 payload)) _ _ (λ p. refl)
    (both_longest round_format (both number_64 payload) longest_round
    (both_longest number_64 payload number_64_longest longest)))

pub proposal_final : {D : Type 0} (payload : Format D) {n : ℕ} → IsFinal payload.reading n →
    IsFinal (proposal_format payload).reading (30 + n)
proposal_final payload final =
    final_within (omega arith) (made_final _ (both_final round_final (both_final number_64_final final)))
