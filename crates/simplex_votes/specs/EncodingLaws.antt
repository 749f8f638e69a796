-- The formats of votes and certificate messages are lawful, and how long encodings of votes are at most.
-- They stand beside the definitions because ghost members of impls cite them, and those see no proofs.
use Rattle.std.proofs.Common.{ℕ, ◌+◌, refl, arith}
use Rattle.simplex_base.specs.Format.{Format, IsLawful, both}
use Rattle.simplex_base.specs.FormatLaws.{both_lawful, made_lawful}
use Rattle.simplex_base.specs.Positions.{round_format}
use Rattle.simplex_base.specs.PositionLaws.{round_lawful, round_within, longest_round, round_final}
use Rattle.simplex_base.specs.Finality.{IsFinal}
use Rattle.simplex_base.specs.FinalityLaws.{both_final, made_final, final_within}
use Rattle.simplex_base.specs.Sizes.{IsWithin, Longest}
use Rattle.simplex_base.specs.SizeLaws.{both_within, both_longest, made_longest, same_longest}
use Rattle.simplex_scheme.specs.Proposal.{proposal_format}
use Rattle.simplex_scheme.specs.ProposalLaws.{proposal_lawful, proposal_within, proposal_longest, proposal_final}
use Rattle.simplex_scheme.specs.Attestation.{attestation_format}
use Rattle.simplex_scheme.specs.AttestationLaws.{attestation_lawful, attestation_within, attestation_longest, attestation_final}
use Rattle.simplex_votes.specs.Encodings.{notarize_format, nullify_format, finalize_format, notarization_format, nullification_format, finalization_format}

-- ---- laws of the formats

pub notarize_lawful : {S D P G : Type 0} (payload : Format D) (signature : Format G) → IsLawful payload → IsLawful signature →
    IsLawful (notarize_format {S = S} {P = P} payload signature)
notarize_lawful payload signature payloads signatures =
    made_lawful _ _ (λ v. refl) (λ p. refl)
    (both_lawful (proposal_lawful payload payloads) (attestation_lawful signature signatures))

pub nullify_lawful : {S P G : Type 0} (signature : Format G) → IsLawful signature →
    IsLawful (nullify_format {S = S} {P = P} signature)
nullify_lawful signature signatures =
    made_lawful _ _ (λ v. refl) (λ p. refl) (both_lawful round_lawful (attestation_lawful signature signatures))

pub finalize_lawful : {S D P G : Type 0} (payload : Format D) (signature : Format G) → IsLawful payload → IsLawful signature →
    IsLawful (finalize_format {S = S} {P = P} payload signature)
finalize_lawful payload signature payloads signatures =
    made_lawful _ _ (λ v. refl) (λ p. refl)
    (both_lawful (proposal_lawful payload payloads) (attestation_lawful signature signatures))

pub notarization_lawful : {S D C P G : Type 0} (payload : Format D) (certificate : Format C) → IsLawful payload →
    IsLawful certificate →
    IsLawful (notarization_format {S = S} {P = P} {G = G} payload certificate)
notarization_lawful payload certificate payloads certificates =
    made_lawful _ _ (λ n. refl) (λ p. refl) (both_lawful (proposal_lawful payload payloads) certificates)

pub nullification_lawful : {S C P G : Type 0} (certificate : Format C) → IsLawful certificate →
    IsLawful (nullification_format {S = S} {P = P} {G = G} certificate)
nullification_lawful certificate certificates = made_lawful _ _ (λ n. refl) (λ p. refl) (both_lawful round_lawful certificates)

pub finalization_lawful : {S D C P G : Type 0} (payload : Format D) (certificate : Format C) → IsLawful payload →
    IsLawful certificate →
    IsLawful (finalization_format {S = S} {P = P} {G = G} payload certificate)
finalization_lawful payload certificate payloads certificates =
    made_lawful _ _ (λ n. refl) (λ p. refl) (both_lawful (proposal_lawful payload payloads) certificates)

-- ---- greatest sizes, with a payload of m bytes and a signature of n bytes at most

signed_within : {S D P G : Type 0} (payload : Format D) (signature : Format G) (m n : ℕ) → IsWithin payload m →
    IsWithin signature n →
    IsWithin (both (proposal_format payload) (attestation_format {S = S} {P = P} signature)) (35 + m + n)
signed_within payload signature m n payloads signatures p h =
    let most = both_within (proposal_format payload) (attestation_format signature) (proposal_within payload m payloads)
    (attestation_within signature n signatures) p h in
    omega (arith, most)

signed_longest : {S D P G : Type 0} (payload : Format D) (signature : Format G) (m n : ℕ) → Longest payload m →
    Longest signature n →
    Longest (both (proposal_format payload) (attestation_format {S = S} {P = P} signature)) (35 + m + n)
signed_longest payload signature m n payloads signatures =
    same_longest (both (proposal_format payload) (attestation_format signature)) (omega arith)
    (both_longest (proposal_format payload) (attestation_format signature) (proposal_longest payload m payloads)
    (attestation_longest signature n signatures))

pub notarize_within : {S D P G : Type 0} (payload : Format D) (signature : Format G) (m n : ℕ) → IsWithin payload m →
    IsWithin signature n →
    IsWithin (notarize_format {S = S} {P = P} payload signature) (35 + m + n)
notarize_within payload signature m n payloads signatures v h =
    signed_within payload signature m n payloads signatures (v.proposal, v.attestation) h

pub notarize_longest : {S D P G : Type 0} (payload : Format D) (signature : Format G) (m n : ℕ) → Longest payload m →
    Longest signature n →
    Longest (notarize_format {S = S} {P = P} payload signature) (35 + m + n)
notarize_longest {S} {D} {P} payload signature m n payloads signatures =
    made_longest (both (proposal_format payload) (attestation_format {S = S} {P = P} signature)) _ _ (λ p. refl)
    (signed_longest payload signature m n payloads signatures)

pub nullify_within : {S P G : Type 0} (signature : Format G) (n : ℕ) → IsWithin signature n →
    IsWithin (nullify_format {S = S} {P = P} signature) (25 + n)
nullify_within signature n signatures v h =
    let most = both_within round_format (attestation_format signature) round_within (attestation_within signature n signatures)
    (v.round, v.attestation) h in
    omega (arith, most)

pub nullify_longest : {S P G : Type 0} (signature : Format G) (n : ℕ) → Longest signature n →
    Longest (nullify_format {S = S} {P = P} signature) (25 + n)
nullify_longest {S} {P} signature n signatures =
    same_longest (nullify_format signature) (omega arith)
    (made_longest (both round_format (attestation_format {S = S} {P = P} signature)) _ _ (λ p. refl)
    (both_longest round_format (attestation_format signature) longest_round (attestation_longest signature n signatures)))

pub finalize_within : {S D P G : Type 0} (payload : Format D) (signature : Format G) (m n : ℕ) → IsWithin payload m →
    IsWithin signature n →
    IsWithin (finalize_format {S = S} {P = P} payload signature) (35 + m + n)
finalize_within payload signature m n payloads signatures v h =
    signed_within payload signature m n payloads signatures (v.proposal, v.attestation) h

pub finalize_longest : {S D P G : Type 0} (payload : Format D) (signature : Format G) (m n : ℕ) → Longest payload m →
    Longest signature n →
    Longest (finalize_format {S = S} {P = P} payload signature) (35 + m + n)
finalize_longest {S} {D} {P} payload signature m n payloads signatures =
    made_longest (both (proposal_format payload) (attestation_format {S = S} {P = P} signature)) _ _ (λ p. refl)
    (signed_longest payload signature m n payloads signatures)

-- ---- which refusals are final

pub notarize_final : {S D P G : Type 0} (payload : Format D) (signature : Format G) {m n : ℕ} → IsFinal payload.reading m →
    IsFinal signature.reading n → IsFinal (notarize_format {S = S} {P = P} payload signature).reading (35 + m + n)
notarize_final payload signature payloads signatures =
    final_within (omega arith)
    (made_final _ (both_final (proposal_final payload payloads) (attestation_final signature signatures)))

pub nullify_final : {S P G : Type 0} (signature : Format G) {n : ℕ} → IsFinal signature.reading n →
    IsFinal (nullify_format {S = S} {P = P} signature).reading (25 + n)
nullify_final signature signatures =
    final_within (omega arith) (made_final _ (both_final round_final (attestation_final signature signatures)))

pub finalize_final : {S D P G : Type 0} (payload : Format D) (signature : Format G) {m n : ℕ} → IsFinal payload.reading m →
    IsFinal signature.reading n → IsFinal (finalize_format {S = S} {P = P} payload signature).reading (35 + m + n)
finalize_final payload signature payloads signatures =
    final_within (omega arith)
    (made_final _ (both_final (proposal_final payload payloads) (attestation_final signature signatures)))

pub notarization_final : {S D C P G : Type 0} (payload : Format D) (certificate : Format C) {m n : ℕ} →
    IsFinal payload.reading m → IsFinal certificate.reading n →
    IsFinal (notarization_format {S = S} {P = P} {G = G} payload certificate).reading (30 + m + n)
notarization_final payload certificate payloads certificates =
    made_final _ (both_final (proposal_final payload payloads) certificates)

pub nullification_final : {S C P G : Type 0} (certificate : Format C) {n : ℕ} → IsFinal certificate.reading n →
    IsFinal (nullification_format {S = S} {P = P} {G = G} certificate).reading (20 + n)
nullification_final certificate certificates = made_final _ (both_final round_final certificates)

pub finalization_final : {S D C P G : Type 0} (payload : Format D) (certificate : Format C) {m n : ℕ} →
    IsFinal payload.reading m → IsFinal certificate.reading n →
    IsFinal (finalization_format {S = S} {P = P} {G = G} payload certificate).reading (30 + m + n)
finalization_final payload certificate payloads certificates =
    made_final _ (both_final (proposal_final payload payloads) certificates)
