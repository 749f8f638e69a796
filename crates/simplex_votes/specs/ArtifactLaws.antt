-- The format of artifacts is lawful.
-- They stand beside the definitions because ghost members of impls cite them, and those see no proofs.
use Rattle.std.proofs.Common.{◌≡◌, ℕ, List, ◌++◌, refl, Ok}
use Rattle.simplex_base.specs.Format.{Format, IsLawful}
use Rattle.simplex_base.specs.FormatLaws.{both_lawful, truth_lawful}
use Rattle.simplex_base.specs.UnionLaws.{branch_takes, no_branch_takes, union_lawful}
use Rattle.simplex_base.specs.PositionLaws.{round_lawful}
use Rattle.simplex_votes.specs.EncodingLaws.{notarize_lawful, nullify_lawful, finalize_lawful, notarization_lawful, nullification_lawful, finalization_lawful}
use Rattle.simplex_votes.specs.declared.types.artifact.Artifact.{Artifact}
use Rattle.simplex_votes.specs.declared.types.artifact.Artifact.TheVariants as artifact
use Rattle.simplex_votes.specs.Artifact.{unknown_artifact, IsArtifact, artifact_tag, artifact_body, artifact_branches, artifact_format}

pub artifact_lawful : {S D C P G : Type 0} (payload : Format D) (inner : Format C) (signature : Format G) → IsLawful payload →
    IsLawful inner → IsLawful signature → IsLawful (artifact_format {S = S} {P = P} payload inner signature)
artifact_lawful {S} {D} {C} {P} {G} payload inner signature payloads inners signatures =
    union_lawful
    (branch_takes (IsArtifact {S = S} {P = P} payload inner.is_value signature) artifact_tag
    (artifact_body payload inner.encoding signature) 0 (λ v. artifact.Notarize v) _
    (notarize_lawful payload signature payloads signatures) (λ v. refl) (λ v. refl) (λ v h. h)
    (branch_takes (IsArtifact {S = S} {P = P} payload inner.is_value signature) artifact_tag
    (artifact_body payload inner.encoding signature) 1 (λ n. artifact.Notarization n) _
    (notarization_lawful payload inner payloads inners) (λ n. refl) (λ n. refl) (λ n h. h)
    (branch_takes (IsArtifact {S = S} {P = P} payload inner.is_value signature) artifact_tag
    (artifact_body payload inner.encoding signature) 2 (λ p. artifact.Certification p.0 p.1) _
    (both_lawful round_lawful truth_lawful)
    (λ p. refl) (λ p. refl) (λ p h. h)
    (branch_takes (IsArtifact {S = S} {P = P} payload inner.is_value signature) artifact_tag
    (artifact_body payload inner.encoding signature) 3 (λ v. artifact.Nullify v) _
    (nullify_lawful signature signatures) (λ v. refl)
    (λ v. refl) (λ v h. h)
    (branch_takes (IsArtifact {S = S} {P = P} payload inner.is_value signature) artifact_tag
    (artifact_body payload inner.encoding signature) 4 (λ n. artifact.Nullification n) _
    (nullification_lawful inner inners) (λ n. refl)
    (λ n. refl) (λ n h. h)
    (branch_takes (IsArtifact {S = S} {P = P} payload inner.is_value signature) artifact_tag
    (artifact_body payload inner.encoding signature) 5 (λ v. artifact.Finalize v) _
    (finalize_lawful payload signature payloads signatures) (λ v. refl) (λ v. refl) (λ v h. h)
    (branch_takes (IsArtifact {S = S} {P = P} payload inner.is_value signature) artifact_tag
    (artifact_body payload inner.encoding signature) 6 (λ n. artifact.Finalization n) _
    (finalization_lawful payload inner payloads inners) (λ n. refl) (λ n. refl) (λ n h. h)
    (no_branch_takes unknown_artifact))))))))
    again
  where
    again : (a : Artifact S D C P G) (rest : List ℕ) → IsArtifact payload inner.is_value signature a →
        artifact_branches payload inner signature (artifact_tag a) (artifact_body payload inner.encoding signature a ++ rest)
        ≡ Ok (a, rest)
    again (artifact.Notarize v) rest h = rw ((notarize_lawful payload signature payloads signatures).again v rest h) refl
    again (artifact.Notarization n) rest h =
        rw ((notarization_lawful {S = S} {P = P} {G = G} payload inner payloads inners).again n rest h) refl
    again (artifact.Certification round certified) rest h =
        rw ((both_lawful round_lawful truth_lawful).again (round, certified) rest h) refl
    again (artifact.Nullify v) rest h = rw ((nullify_lawful {S = S} {P = P} signature signatures).again v rest h) refl
    again (artifact.Nullification n) rest h =
        rw ((nullification_lawful {S = S} {P = P} {G = G} inner inners).again n rest h) refl
    again (artifact.Finalize v) rest h = rw ((finalize_lawful payload signature payloads signatures).again v rest h) refl
    again (artifact.Finalization n) rest h =
        rw ((finalization_lawful {S = S} {P = P} {G = G} payload inner payloads inners).again n rest h) refl
