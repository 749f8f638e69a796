-- What the test of a quorum means, and how long a certificate is at most.
-- They stand beside the definitions because ghost members of impls cite them, and those see no proofs.
use Rattle.std.specs.Prelude.{◌≡◌, ◌↔◌, ℕ, ◌+◌, ◌*◌, ◌≤◌, Bool, true, false, ◌&&◌, List, length, refl}
use Rattle.std.proofs.Common.{sym, ◌∙◌, arith}
use Rattle.std.proofs.lemmas.Bool.{eqb-true, eq-eqb, leb-true, le-leb}
use Rattle.std.proofs.lemmas.Cmp.{nat_eq_equiv}
use Rattle.std.proofs.lemmas.List.{length-map}
use Rattle.std.proofs.lemmas.List.Sums.{AllPass-from_list_all, list_all-from_AllPass}
use Rattle.std.proofs.lemmas.Map.Made.{IsDistinct-from_count, distinct_count-from_IsDistinct}
use Rattle.simplex_base.specs.Format.{fixed}
use Rattle.simplex_scheme.specs.Committee.{IsQuorum, is_quorum, signers_of}
use Rattle.simplex_schemes.specs.Listed.{ListedFits, listed_encoding}
use Rattle.simplex_schemes.specs.ListedLaws.{listed_within}
use Rattle.simplex_scheme.specs.declared.scheme.Attestation.{Attestation}

-- both tests hold
both_true : (a b : Bool) → (a && b) ≡ true → (a ≡ true) × (b ≡ true)
both_true true b h = (refl, h)
both_true false b h = absurd cc

-- the test is true exactly where they are a quorum
pub quorum_meaning : {S P G : Type 0} (n : ℕ) (good : ℕ → G → Bool) (attestations : List (Attestation S P G)) →
    (is_quorum n good attestations ≡ true) ↔ IsQuorum n good attestations
quorum_meaning n good attestations = (
  λ h.
      let counted = both_true _ _ h in
      let others = both_true _ _ counted.1 in
      record {
        distinct = IsDistinct-from_count nat_eq_equiv (signers_of attestations)
            (eqb-true _ _ counted.0 ∙ sym (length-map attestations (λ a. a.signer)));
        enough = leb-true _ _ others.0;
        each_good = AllPass-from_list_all (λ a. good a.signer a.signature) attestations others.1;
      },
  λ is.
      let whole = distinct_count-from_IsDistinct nat_eq_equiv (signers_of attestations) is.distinct
      ∙ length-map attestations (λ a. a.signer) in
      let all = list_all-from_AllPass (λ a. good a.signer a.signature) attestations is.each_good in
      rw (eq-eqb _ _ whole, le-leb _ _ is.enough) all,
)

-- signatures of one size: a certificate under a bound has at most five bytes, and for each participant five and a signature
pub listed_size : {S P G : Type 0} (size : ℕ) (bytes_of : G → List ℕ) (of_bytes : List ℕ →
    G) (bound : ℕ) (attestations : List (Attestation S P G)) → ListedFits (fixed size bytes_of of_bytes) bound attestations →
    length (listed_encoding (fixed size bytes_of of_bytes) attestations) ≤ 5 + bound * (5 + size)
listed_size size bytes_of of_bytes bound attestations fits =
    listed_within (fixed size bytes_of of_bytes) size bound (λ signature is. omega arith) attestations fits
