-- The format of messages is lawful.
-- They stand beside the definitions because ghost members of impls cite them, and those see no proofs.
use Rattle.std.proofs.Common.{◌≡◌, ℕ, ◌+◌, ◌*◌, Bool, List, ◌++◌, refl, arith, Ok}
use Rattle.std.specs.Prelude.{max}
use Rattle.simplex_base.specs.Finality.{IsFinal}
use Rattle.simplex_base.specs.FinalityLaws.{branch_final, no_branch_final, union_final, final_within}
use Rattle.simplex_base.specs.Format.{Format, IsLawful}
use Rattle.simplex_base.specs.UnionLaws.{branch_takes, no_branch_takes, union_lawful}
use Rattle.simplex_votes.specs.EncodingLaws.{notarize_lawful, nullify_lawful, finalize_lawful, notarization_lawful, nullification_lawful, finalization_lawful, notarize_final, nullify_final, finalize_final, notarization_final, nullification_final, finalization_final}
use Rattle.simplex_evidence.specs.ConflictLaws.{conflicting_notarize_lawful, conflicting_finalize_lawful, nullify_finalize_lawful, conflicting_notarize_final, conflicting_finalize_final, nullify_finalize_final}
use Rattle.simplex_evidence.specs.declared.types.activity.Activity.{Activity}
use Rattle.simplex_evidence.specs.declared.types.activity.Activity.TheVariants as activity
use Rattle.simplex_evidence.specs.Activity.{unknown_activity, IsActivity, activity_tag, activity_body, activity_branches, activity_longest, activity_format}

pub activity_lawful : {S D C P G : Type 0} (eq : D → D → Bool) (payload : Format D) (certificate : Format C)
    (signature : Format G) →
    IsLawful payload → IsLawful certificate → IsLawful signature →
    IsLawful (activity_format {S = S} {P = P} eq payload certificate signature)
activity_lawful {S} {D} {C} {P} {G} eq payload certificate signature payloads certificates signatures =
    union_lawful
    (branch_takes (IsActivity {S = S} {P = P} eq payload certificate.is_value signature) activity_tag
    (activity_body eq payload certificate.encoding signature) 0 (λ v. activity.Notarize v) _
    (notarize_lawful payload signature payloads signatures) (λ v. refl) (λ v. refl) (λ v h. h)
    (branch_takes (IsActivity {S = S} {P = P} eq payload certificate.is_value signature) activity_tag
    (activity_body eq payload certificate.encoding signature) 1 (λ n. activity.Notarization n) _
    (notarization_lawful payload certificate payloads certificates) (λ n. refl) (λ n. refl) (λ n h. h)
    (branch_takes (IsActivity {S = S} {P = P} eq payload certificate.is_value signature) activity_tag
    (activity_body eq payload certificate.encoding signature) 2 (λ n. activity.Certification n) _
    (notarization_lawful payload certificate payloads certificates) (λ n. refl) (λ n. refl) (λ n h. h)
    (branch_takes (IsActivity {S = S} {P = P} eq payload certificate.is_value signature) activity_tag
    (activity_body eq payload certificate.encoding signature) 3 (λ v. activity.Nullify v) _
    (nullify_lawful signature signatures)
    (λ v. refl) (λ v. refl) (λ v h. h)
    (branch_takes (IsActivity {S = S} {P = P} eq payload certificate.is_value signature) activity_tag
    (activity_body eq payload certificate.encoding signature) 4 (λ n. activity.Nullification n) _
    (nullification_lawful certificate certificates) (λ n. refl) (λ n. refl) (λ n h. h)
    (branch_takes (IsActivity {S = S} {P = P} eq payload certificate.is_value signature) activity_tag
    (activity_body eq payload certificate.encoding signature) 5 (λ v. activity.Finalize v) _
    (finalize_lawful payload signature payloads signatures) (λ v. refl) (λ v. refl) (λ v h. h)
    (branch_takes (IsActivity {S = S} {P = P} eq payload certificate.is_value signature) activity_tag
    (activity_body eq payload certificate.encoding signature) 6 (λ n. activity.Finalization n) _
    (finalization_lawful payload certificate payloads certificates) (λ n. refl) (λ n. refl) (λ n h. h)
    (branch_takes (IsActivity {S = S} {P = P} eq payload certificate.is_value signature) activity_tag
    (activity_body eq payload certificate.encoding signature) 7 (λ c. activity.ConflictingNotarize c) _
    (conflicting_notarize_lawful eq payload signature payloads signatures) (λ c. refl) (λ c. refl) (λ c h. h)
    (branch_takes (IsActivity {S = S} {P = P} eq payload certificate.is_value signature) activity_tag
    (activity_body eq payload certificate.encoding signature) 8 (λ c. activity.ConflictingFinalize c) _
    (conflicting_finalize_lawful eq payload signature payloads signatures) (λ c. refl) (λ c. refl) (λ c h. h)
    (branch_takes (IsActivity {S = S} {P = P} eq payload certificate.is_value signature) activity_tag
    (activity_body eq payload certificate.encoding signature) 9 (λ c. activity.NullifyFinalize c) _
    (nullify_finalize_lawful eq payload signature payloads signatures) (λ c. refl) (λ c. refl) (λ c h. h)
    (no_branch_takes unknown_activity)))))))))))
    again
  where
    again : (m : Activity S D C P G) (rest : List ℕ) → IsActivity eq payload certificate.is_value signature m →
        activity_branches eq payload certificate signature (activity_tag m)
        (activity_body eq payload certificate.encoding signature m ++ rest) ≡ Ok (m, rest)
    again (activity.Notarize v) rest h = rw ((notarize_lawful payload signature payloads signatures).again v rest h) refl
    again (activity.Notarization n) rest h =
        rw ((notarization_lawful {S = S} {P = P} {G = G} payload certificate payloads certificates).again n rest h) refl
    again (activity.Certification n) rest h =
        rw ((notarization_lawful {S = S} {P = P} {G = G} payload certificate payloads certificates).again n rest h) refl
    again (activity.Nullify v) rest h = rw ((nullify_lawful {S = S} {P = P} signature signatures).again v rest h) refl
    again (activity.Nullification n) rest h =
        rw ((nullification_lawful {S = S} {P = P} {G = G} certificate certificates).again n rest h) refl
    again (activity.Finalize v) rest h = rw ((finalize_lawful payload signature payloads signatures).again v rest h) refl
    again (activity.Finalization n) rest h =
        rw ((finalization_lawful {S = S} {P = P} {G = G} payload certificate payloads certificates).again n rest h) refl
    again (activity.ConflictingNotarize c) rest h =
        rw ((conflicting_notarize_lawful {S = S} {P = P} eq payload signature payloads signatures).again c rest h) refl
    again (activity.ConflictingFinalize c) rest h =
        rw ((conflicting_finalize_lawful {S = S} {P = P} eq payload signature payloads signatures).again c rest h) refl
    again (activity.NullifyFinalize c) rest h =
        rw ((nullify_finalize_lawful {S = S} {P = P} eq payload signature payloads signatures).again c rest h) refl

-- with payloads of m, certificates of c and signatures of n bytes at most
pub activity_final : {S D C P G : Type 0} (eq : D → D → Bool) (payload : Format D) (certificate : Format C)
    (signature : Format G) {m c n : ℕ} → IsFinal payload.reading m → IsFinal certificate.reading c →
    IsFinal signature.reading n →
    IsFinal (activity_format {S = S} {P = P} eq payload certificate signature).reading (activity_longest m c n)
activity_final {S} {D} {C} {P} {G} eq payload certificate signature {m} {c} {n} payloads certificates signatures =
    union_final
    (branch_final 0 (λ v. activity.Notarize v)
    (final_within (omega arith) (notarize_final {S = S} {P = P} payload signature payloads signatures))
    (branch_final 1 (λ n. activity.Notarization n)
    (final_within (omega arith) (notarization_final {S = S} {P = P} {G = G} payload certificate payloads certificates))
    (branch_final 2 (λ n. activity.Certification n)
    (final_within (omega arith) (notarization_final {S = S} {P = P} {G = G} payload certificate payloads certificates))
    (branch_final 3 (λ v. activity.Nullify v)
    (final_within (omega arith) (nullify_final {S = S} {P = P} signature signatures))
    (branch_final 4 (λ n. activity.Nullification n)
    (final_within (omega arith) (nullification_final {S = S} {P = P} {G = G} certificate certificates))
    (branch_final 5 (λ v. activity.Finalize v)
    (final_within (omega arith) (finalize_final {S = S} {P = P} payload signature payloads signatures))
    (branch_final 6 (λ n. activity.Finalization n)
    (final_within (omega arith) (finalization_final {S = S} {P = P} {G = G} payload certificate payloads certificates))
    (branch_final 7 (λ c. activity.ConflictingNotarize c)
    (final_within (omega arith) (conflicting_notarize_final {S = S} {P = P} eq payload signature payloads signatures))
    (branch_final 8 (λ c. activity.ConflictingFinalize c)
    (final_within (omega arith) (conflicting_finalize_final {S = S} {P = P} eq payload signature payloads signatures))
    (branch_final 9 (λ c. activity.NullifyFinalize c)
    (final_within (omega arith) (nullify_finalize_final {S = S} {P = P} eq payload signature payloads signatures))
    (no_branch_final unknown_activity (max (30 + m + c) (2 * (35 + m + n))))))))))))))
