-- The format of rounds is lawful, and how long encodings of rounds are.
-- They stand beside the definitions because ghost members of impls cite them, and those see no proofs.
use Rattle.std.proofs.Common.{refl}
use Rattle.simplex_base.specs.Format.{IsLawful, both}
use Rattle.simplex_base.specs.FormatLaws.{both_lawful, made_lawful}
use Rattle.simplex_base.specs.Sizes.{IsWithin, Longest}
use Rattle.simplex_base.specs.SizeLaws.{both_within, both_longest, made_longest, number_64_within, number_64_longest}
use Rattle.simplex_base.specs.Finality.{IsFinal}
use Rattle.simplex_base.specs.FinalityLaws.{both_final, made_final, number_64_final}
use Rattle.simplex_base.specs.Varint.{number_64}
use Rattle.simplex_base.specs.VarintLaws.{number_64_lawful}
use Rattle.simplex_base.specs.Positions.{round_format}

pub round_lawful : IsLawful round_format
round_lawful = made_lawful _ _ (λ r. refl) (λ p. refl) (both_lawful number_64_lawful number_64_lawful)

pub round_within : IsWithin round_format 20
round_within r h = both_within number_64 number_64 number_64_within number_64_within (r.epoch, r.view) h

pub longest_round : Longest round_format 20
longest_round =
    made_longest (both number_64 number_64) _ _ (λ p. refl)
    (both_longest number_64 number_64 number_64_longest number_64_longest)

pub round_final : IsFinal round_format.reading 20
round_final = made_final _ (both_final number_64_final number_64_final)
