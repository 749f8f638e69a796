-- Which attestations of a list are the same, the verdicts apart.
use Rattle.std.specs.Prelude.{◌≡◌, ℕ, ◌-◌, Bool, ◌==◌, ◌&&◌, All, List, Some, map, take, drop}
use Rattle.std.specs.List.{position_from}
use Rattle.std.specs.Str.{bytes_eq}
use Rattle.simplex_places.specs.declared.places.AttestationPlace.{AttestationPlace}
use Rattle.simplex_places.specs.declared.repeats.Unverified.{Unverified}

-- the bytes of an attestation's subject
abbrev pub subject_at : List ℕ → AttestationPlace → List ℕ
subject_at stream p = take p.subject_length (drop p.subject_place stream)

-- the bytes of an attestation's signature, without the verdict behind them
abbrev pub signature_at : List ℕ → ℕ → AttestationPlace → List ℕ
signature_at stream size p = take size (drop (p.verdict_place - size) stream)

-- Whether two attestations of a stream are the same, the verdicts apart: the same signer signs the same bytes as a vote of the
-- same kind, and the signatures are the same. A signature has `size` bytes before its verdict.
abbrev pub same_attestation : List ℕ → ℕ → AttestationPlace → AttestationPlace → Bool
same_attestation stream size p q =
    (p.kind == q.kind) && ((p.signer == q.signer) && (bytes_eq (subject_at stream p) (subject_at stream q)
    && bytes_eq (signature_at stream size p) (signature_at stream size q)))

-- Each of these attestations is listed with the index of the first of them that is the same.
pub record AreWithFirsts (stream : List ℕ) (size : ℕ) (places : List AttestationPlace) (listed : List Unverified) : Type 0 where
  pub attestations : map (λ u. u.attestation) listed ≡ places
  pub firsts : All (λ u. position_from (λ p. same_attestation stream size p u.attestation) 0 places ≡ Some u.first) listed
