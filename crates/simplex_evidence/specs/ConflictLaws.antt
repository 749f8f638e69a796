-- The formats of evidence are lawful.
-- They stand beside the definitions because ghost members of impls cite them, and those see no proofs.
use Rattle.std.proofs.Common.{ℕ, ◌+◌, ◌*◌, Bool, List, refl, arith}
use Rattle.simplex_base.specs.Finality.{IsFinal}
use Rattle.simplex_base.specs.FinalityLaws.{both_final, made_final, tested_final, final_within}
use Rattle.simplex_base.specs.Reading.{Refusal}
use Rattle.simplex_base.specs.Format.{Format, IsLawful}
use Rattle.simplex_base.specs.FormatLaws.{both_lawful, made_lawful, tested_lawful}
use Rattle.simplex_votes.specs.Encodings.{notarize_format, nullify_format, finalize_format}
use Rattle.simplex_votes.specs.EncodingLaws.{notarize_lawful, notarize_final, nullify_lawful, nullify_final, finalize_lawful, finalize_final}
use Rattle.simplex_evidence.specs.Conflict.{conflict_format, conflicting_notarize_format, conflicting_finalize_format, nullify_finalize_format}

conflict_lawful : {V W : Type 0} (contradict : V → W → Bool) (refusal : Refusal) (f : Format V) (g : Format W) → IsLawful f →
    IsLawful g →
    IsLawful (conflict_format contradict refusal f g)
conflict_lawful contradict refusal f g firsts seconds =
    tested_lawful (λ c. contradict c.first c.second) refusal
    (made_lawful _ _ (λ c. refl) (λ p. refl) (both_lawful firsts seconds))

-- ---- laws of the formats

pub conflicting_notarize_lawful : {S D P G : Type 0} (eq : D → D → Bool) (payload : Format D) (signature : Format G) →
    IsLawful payload →
    IsLawful signature → IsLawful (conflicting_notarize_format {S = S} {P = P} eq payload signature)
conflicting_notarize_lawful {S} {D} {P} eq payload signature payloads signatures =
    conflict_lawful _ _ (notarize_format {S = S} {P = P} payload signature) (notarize_format {S = S} {P = P} payload signature)
    (notarize_lawful payload signature payloads signatures) (notarize_lawful payload signature payloads signatures)

pub conflicting_finalize_lawful : {S D P G : Type 0} (eq : D → D → Bool) (payload : Format D) (signature : Format G) →
    IsLawful payload →
    IsLawful signature → IsLawful (conflicting_finalize_format {S = S} {P = P} eq payload signature)
conflicting_finalize_lawful {S} {D} {P} eq payload signature payloads signatures =
    conflict_lawful _ _ (finalize_format {S = S} {P = P} payload signature) (finalize_format {S = S} {P = P} payload signature)
    (finalize_lawful payload signature payloads signatures) (finalize_lawful payload signature payloads signatures)

pub nullify_finalize_lawful : {S D P G : Type 0} (eq : D → D → Bool) (payload : Format D) (signature : Format G) →
    IsLawful payload →
    IsLawful signature → IsLawful (nullify_finalize_format {S = S} {P = P} eq payload signature)
nullify_finalize_lawful {S} {D} {P} eq payload signature payloads signatures =
    conflict_lawful _ _ (nullify_format {S = S} {P = P} signature) (finalize_format {S = S} {P = P} payload signature)
    (nullify_lawful signature signatures) (finalize_lawful payload signature payloads signatures)

-- ---- which refusals are final

conflict_final : {V W : Type 0} (contradict : V → W → Bool) (refusal : Refusal) (f : Format V) (g : Format W) {m n : ℕ} →
    IsFinal f.reading m → IsFinal g.reading n → IsFinal (conflict_format contradict refusal f g).reading (m + n)
conflict_final contradict refusal f g firsts seconds =
    tested_final (λ c. contradict c.first c.second) refusal (made_final _ (both_final firsts seconds))

pub conflicting_notarize_final : {S D P G : Type 0} (eq : D → D → Bool) (payload : Format D) (signature : Format G) {m n : ℕ} →
    IsFinal payload.reading m → IsFinal signature.reading n →
    IsFinal (conflicting_notarize_format {S = S} {P = P} eq payload signature).reading (2 * (35 + m + n))
conflicting_notarize_final {S} {D} {P} eq payload signature payloads signatures =
    final_within (omega arith)
    (conflict_final _ _ (notarize_format {S = S} {P = P} payload signature) (notarize_format {S = S} {P = P} payload signature)
    (notarize_final payload signature payloads signatures) (notarize_final payload signature payloads signatures))

pub conflicting_finalize_final : {S D P G : Type 0} (eq : D → D → Bool) (payload : Format D) (signature : Format G) {m n : ℕ} →
    IsFinal payload.reading m → IsFinal signature.reading n →
    IsFinal (conflicting_finalize_format {S = S} {P = P} eq payload signature).reading (2 * (35 + m + n))
conflicting_finalize_final {S} {D} {P} eq payload signature payloads signatures =
    final_within (omega arith)
    (conflict_final _ _ (finalize_format {S = S} {P = P} payload signature) (finalize_format {S = S} {P = P} payload signature)
    (finalize_final payload signature payloads signatures) (finalize_final payload signature payloads signatures))

pub nullify_finalize_final : {S D P G : Type 0} (eq : D → D → Bool) (payload : Format D) (signature : Format G) {m n : ℕ} →
    IsFinal payload.reading m → IsFinal signature.reading n →
    IsFinal (nullify_finalize_format {S = S} {P = P} eq payload signature).reading (2 * (35 + m + n))
nullify_finalize_final {S} {D} {P} eq payload signature payloads signatures =
    final_within (omega arith)
    (conflict_final _ _ (nullify_format {S = S} {P = P} signature) (finalize_format {S = S} {P = P} payload signature)
    (nullify_final signature signatures) (finalize_final payload signature payloads signatures))
