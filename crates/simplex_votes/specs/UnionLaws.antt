-- The formats of the unions are lawful, and how long encodings of votes are at most.
-- They stand beside the definitions because ghost members of impls cite them, and those see no proofs.
use Rattle.std.proofs.Common.{◌≡◌, ℕ, List, ◌++◌, ◌+◌, refl, Ok, arith}
use Rattle.simplex_base.specs.Format.{Format, IsLawful}
use Rattle.simplex_base.specs.Sizes.{IsWithin, Longest}
use Rattle.simplex_base.specs.UnionLaws.{branch_takes, no_branch_takes, union_lawful}
use Rattle.simplex_votes.specs.EncodingLaws.{notarize_lawful, notarize_within, notarize_longest, nullify_lawful, nullify_within, finalize_lawful, finalize_within, notarization_lawful, nullification_lawful, finalization_lawful}
use Rattle.simplex_votes.specs.declared.types.vote.Vote.{Vote}
use Rattle.simplex_votes.specs.declared.types.vote.Vote.TheVariants as vote
use Rattle.simplex_votes.specs.declared.types.certificate.Certificate.{Certificate}
use Rattle.simplex_votes.specs.declared.types.certificate.Certificate.TheVariants as certificate
use Rattle.simplex_votes.specs.Unions.{unknown_vote, IsVote, vote_tag, vote_body, vote_branches, vote_format, unknown_certificate, IsCertificate, certificate_tag, certificate_body, certificate_branches, certificate_format}

pub vote_lawful : {S D P G : Type 0} (payload : Format D) (signature : Format G) → IsLawful payload → IsLawful signature →
    IsLawful (vote_format {S = S} {P = P} payload signature)
vote_lawful {S} {D} {P} {G} payload signature payloads signatures =
    union_lawful
    (branch_takes (IsVote {S = S} {P = P} payload signature) vote_tag (vote_body payload signature) 0 (λ v. vote.Notarize v) _
    (notarize_lawful payload signature payloads signatures) (λ v. refl) (λ v. refl) (λ v h. h)
    (branch_takes (IsVote {S = S} {P = P} payload signature) vote_tag (vote_body payload signature) 1 (λ v. vote.Nullify v) _
    (nullify_lawful signature signatures) (λ v. refl) (λ v. refl) (λ v h. h)
    (branch_takes (IsVote {S = S} {P = P} payload signature) vote_tag (vote_body payload signature) 2 (λ v. vote.Finalize v) _
    (finalize_lawful payload signature payloads signatures) (λ v. refl) (λ v. refl) (λ v h. h)
    (no_branch_takes unknown_vote))))
    again
  where
    again : (v : Vote S D P G) (rest : List ℕ) → IsVote payload signature v →
        vote_branches payload signature (vote_tag v) (vote_body payload signature v ++ rest) ≡ Ok (v, rest)
    again (vote.Notarize v) rest h = rw ((notarize_lawful payload signature payloads signatures).again v rest h) refl
    again (vote.Nullify v) rest h = rw ((nullify_lawful {S = S} {P = P} signature signatures).again v rest h) refl
    again (vote.Finalize v) rest h = rw ((finalize_lawful payload signature payloads signatures).again v rest h) refl

-- with a payload of m bytes and a signature of n bytes at most, a vote is longest with a proposal
pub vote_within : {S D P G : Type 0} (payload : Format D) (signature : Format G) (m n : ℕ) → IsWithin payload m →
    IsWithin signature n →
    IsWithin (vote_format {S = S} {P = P} payload signature) (36 + m + n)
vote_within payload signature m n payloads signatures (vote.Notarize v) h =
    let most = notarize_within payload signature m n payloads signatures v h in omega (arith, most)
vote_within payload signature m n payloads signatures (vote.Nullify v) h =
    let most = nullify_within signature n signatures v h in omega (arith, most)
vote_within payload signature m n payloads signatures (vote.Finalize v) h =
    let most = finalize_within payload signature m n payloads signatures v h in omega (arith, most)

pub vote_longest : {S D P G : Type 0} (payload : Format D) (signature : Format G) (m n : ℕ) → Longest payload m →
    Longest signature n →
    Longest (vote_format {S = S} {P = P} payload signature) (36 + m + n)
vote_longest {S} {D} {P} {G} payload signature m n payloads signatures =
    let longest = notarize_longest {S = S} {P = P} payload signature m n payloads signatures in
    let most = longest.2 in
    (vote.Notarize longest.0, longest.1, omega (arith, most))

pub certificate_lawful : {S D C P G : Type 0} (payload : Format D) (inner : Format C) → IsLawful payload → IsLawful inner →
    IsLawful (certificate_format {S = S} {P = P} {G = G} payload inner)
certificate_lawful {S} {D} {C} {P} {G} payload inner payloads inners =
    union_lawful
    (branch_takes (IsCertificate {S = S} {P = P} {G = G} payload inner.is_value) certificate_tag
    (certificate_body payload inner.encoding) 0
    (λ n. certificate.Notarization n) _ (notarization_lawful payload inner payloads inners) (λ n. refl) (λ n. refl) (λ n h. h)
    (branch_takes (IsCertificate {S = S} {P = P} {G = G} payload inner.is_value) certificate_tag
    (certificate_body payload inner.encoding) 1
    (λ n. certificate.Nullification n) _ (nullification_lawful inner inners) (λ n. refl) (λ n. refl) (λ n h. h)
    (branch_takes (IsCertificate {S = S} {P = P} {G = G} payload inner.is_value) certificate_tag
    (certificate_body payload inner.encoding) 2
    (λ n. certificate.Finalization n) _ (finalization_lawful payload inner payloads inners) (λ n. refl) (λ n. refl) (λ n h. h)
    (no_branch_takes unknown_certificate))))
    again
  where
    again : (c : Certificate S D C P G) (rest : List ℕ) → IsCertificate payload inner.is_value c →
        certificate_branches payload inner (certificate_tag c) (certificate_body payload inner.encoding c ++ rest)
        ≡ Ok (c, rest)
    again (certificate.Notarization n) rest h =
        rw ((notarization_lawful {S = S} {P = P} {G = G} payload inner payloads inners).again n rest h) refl
    again (certificate.Nullification n) rest h =
        rw ((nullification_lawful {S = S} {P = P} {G = G} inner inners).again n rest h) refl
    again (certificate.Finalization n) rest h =
        rw ((finalization_lawful {S = S} {P = P} {G = G} payload inner payloads inners).again n rest h) refl
