-- The format of attestations is lawful, and how long their encodings are at most.
-- They stand beside the definitions because ghost members of impls cite them, and those see no proofs.
use Rattle.std.proofs.Common.{ℕ, ◌+◌, refl}
use Rattle.simplex_base.specs.Format.{Format, IsLawful, both}
use Rattle.simplex_base.specs.FormatLaws.{both_lawful, made_lawful}
use Rattle.simplex_base.specs.Finality.{IsFinal}
use Rattle.simplex_base.specs.FinalityLaws.{both_final, made_final, number_32_final}
use Rattle.simplex_base.specs.Sizes.{IsWithin, Longest}
use Rattle.simplex_base.specs.SizeLaws.{both_within, both_longest, made_longest, number_32_within, number_32_longest}
use Rattle.simplex_base.specs.Varint.{number_32}
use Rattle.simplex_base.specs.VarintLaws.{number_32_lawful}
use Rattle.simplex_scheme.specs.Attestation.{attestation_format}

pub attestation_lawful : {S P G : Type 0} (signature : Format G) → IsLawful signature →
    IsLawful (attestation_format {S = S} {P = P} signature)
attestation_lawful signature law = made_lawful _ _ (λ a. refl) (λ p. refl) (both_lawful number_32_lawful law)

-- ---- greatest sizes, with a signature of n bytes at most

pub attestation_within : {S P G : Type 0} (signature : Format G) (n : ℕ) → IsWithin signature n →
    IsWithin (attestation_format {S = S} {P = P} signature) (5 + n)
attestation_within signature n within a h = both_within number_32 signature number_32_within within (a.signer, a.signature) h

pub attestation_longest : {S P G : Type 0} (signature : Format G) (n : ℕ) → Longest signature n →
    Longest (attestation_format {S = S} {P = P} signature) (5 + n)
attestation_longest signature n longest =
    made_longest (both number_32 signature) _ _ (λ p. refl) (both_longest number_32 signature number_32_longest longest)

pub attestation_final : {S P G : Type 0} (signature : Format G) {n : ℕ} → IsFinal signature.reading n →
    IsFinal (attestation_format {S = S} {P = P} signature).reading (5 + n)
attestation_final signature final = made_final _ (both_final number_32_final final)
