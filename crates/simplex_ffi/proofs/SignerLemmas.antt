-- The attestations of signers, whose signatures stand one after another.
use Rattle.std.proofs.Common.{◌≡◌, ◌^◌, Bool, true, false, ℕ, suc, ◌+◌, ◌*◌, ◌<◌, ◌≤◌, List, [], ◌∷◌, ◌++◌, length, get_or, take, drop, refl, sym, ap, ◌∙◌, append_assoc, append-nil, arith, length-drop}
use Rattle.std.specs.Prelude.{All, map}
use Rattle.std.proofs.lemmas.List.{drop_more, drop_all, length-map}
use Rattle.std.proofs.Math.ListN.{get_or-map}
use Rattle.std.proofs.lemmas.List.Elements.{All-weaker}
use Rattle.std.proofs.lemmas.Map.Keys.{below_from_sorted}
use Rattle.simplex_base.specs.Format.{Format}
use Rattle.simplex_scheme.specs.Attestation.{attestation_format}
use Rattle.simplex_scheme.specs.Subject.{SubjectValue, Notarizes, Nullifies, Finalizes, IsSubject, message_of}
use Rattle.simplex_scheme.specs.declared.scheme.Attestation.{Attestation}
use Rattle.simplex_schemes.specs.Listed.{AreListed, ListedFits}
use Rattle.simplex_evidence.specs.Activity.{IsActivity, activity_encoding}
use Rattle.simplex_ffi.specs.Messages.{AreSigners, attestations_by, certificate_message, certificate_tag}

-- one more attestation
pub attestations_more : {S P G : Type 0} (of_bytes : List ℕ → G) (size : ℕ) (signers : List ℕ) (i : ℕ) (rest : List ℕ)
    (before whole : List (Attestation S P G)) → i < length signers →
    before ++ attestations_by of_bytes size (drop i signers) rest ≡ whole →
    (before ++ record { signer = get_or signers i 0; signature = of_bytes (take size rest) } ∷ [])
    ++ attestations_by of_bytes size (drop (i + 1) signers) (drop size rest) ≡ whole
attestations_more {S} {P} {G} of_bytes size signers i rest before whole less is =
    let one : Attestation S P G = record { signer = get_or signers i 0; signature = of_bytes (take size rest) } in
    let unrolled : attestations_by {S = S} {P = P} of_bytes size (drop i signers) rest
    ≡ one ∷ attestations_by of_bytes size (drop (i + 1) signers) (drop size rest) = rw (drop_more signers i 0 less) refl in
    append_assoc before (one ∷ []) (attestations_by of_bytes size (drop (i + 1) signers) (drop size rest))
    ∙ (ap (λ (l : List (Attestation S P G)). before ++ l) (sym unrolled) ∙ is)

-- all of them
pub attestations_whole : {S P G : Type 0} (of_bytes : List ℕ → G) (size : ℕ) (signers : List ℕ) (i : ℕ) (rest : List ℕ)
    (before whole : List (Attestation S P G)) → length signers ≤ i →
    before ++ attestations_by of_bytes size (drop i signers) rest ≡ whole → before ≡ whole
attestations_whole {S} {P} {G} of_bytes size signers i rest before whole over is =
    let none : attestations_by {S = S} {P = P} of_bytes size (drop i signers) rest ≡ [] = rw (drop_all i signers over) refl in
    sym (append-nil before) ∙ (ap (λ (l : List (Attestation S P G)). before ++ l) (sym none) ∙ is)

-- a signature is left for each signer that is left
pub room_more : (size : ℕ) (signers : List ℕ) (i : ℕ) (rest : List ℕ) → i < length signers →
    length rest ≡ length (drop i signers) * size →
    (size ≤ length rest) × (length (drop size rest) ≡ length (drop (i + 1) signers) * size)
room_more size signers i rest less is =
    let more : length (drop i signers) ≡ suc (length (drop (i + 1) signers)) = ap length (drop_more signers i 0 less) in
    let all : length rest ≡ suc (length (drop (i + 1) signers)) * size = is ∙ ap (λ (n : ℕ). n * size) more in
    let left = length-drop size rest in
    (grind arith, grind arith)

-- there are as many attestations as signers, in the same order
signers_in : (S P : Type 0) {G : Type 0} (of_bytes : List ℕ → G) (size : ℕ) (signers rest : List ℕ) →
    map (λ a. a.signer) (attestations_by {S = S} {P = P} of_bytes size signers rest) ≡ signers
signers_in S P of_bytes size [] rest = refl
signers_in S P of_bytes size (s ∷ signers) rest =
    ap (λ (l : List ℕ). s ∷ l) (signers_in S P of_bytes size signers (drop size rest))

-- there are as many attestations as signers
pub attestations_many : (S P : Type 0) {G : Type 0} (of_bytes : List ℕ → G) (size : ℕ) (signers rest : List ℕ) →
    length (attestations_by {S = S} {P = P} of_bytes size signers rest) ≡ length signers
attestations_many S P {G} of_bytes size signers rest =
    let signer : Attestation S P G → ℕ = λ a. a.signer in
    sym (length-map (attestations_by of_bytes size signers rest) signer)
    ∙ ap length (signers_in S P of_bytes size signers rest)

-- they are the attestations of a certificate
are_listed : (S P : Type 0) {G : Type 0} (of_bytes : List ℕ → G) (size : ℕ) (signers rest : List ℕ) → AreSigners signers →
    AreListed (attestations_by {S = S} {P = P} of_bytes size signers rest)
are_listed S P {G} of_bytes size signers rest are =
    let all : List (Attestation S P G) = attestations_by of_bytes size signers rest in
    let signer : Attestation S P G → ℕ = λ a. a.signer in
    let is = signers_in S P of_bytes size signers rest in
    let many = attestations_many S P of_bytes size signers rest in
    record {
      some = omega (arith, many, are.some);
      few = omega (arith, many, are.few);
      ascending = λ i j d less within.
          omega (
            arith,
            ap (λ (ns : List ℕ). get_or ns i d.signer) is,
            ap (λ (ns : List ℕ). get_or ns j d.signer) is,
            get_or-map signer all i d,
            get_or-map signer all j d,
            below_from_sorted signers i j d.signer are.ascending less (omega (arith, within, many)),
          );
    }

-- their certificate can be read, under a bound that no signer reaches
pub listed_fits : (S P : Type 0) {G : Type 0} (signature : Format G) (of_bytes : List ℕ → G) (size : ℕ)
    (signers rest : List ℕ) → AreSigners signers →
    All (attestation_format signature).is_value (attestations_by {S = S} {P = P} of_bytes size signers rest) →
    ListedFits signature (2 ^ 32) (attestations_by {S = S} {P = P} of_bytes size signers rest)
listed_fits S P {G} signature of_bytes size signers rest are each =
    let all : List (Attestation S P G) = attestations_by of_bytes size signers rest in
    let listed = are_listed S P of_bytes size signers rest are in
    record {
      listed = listed;
      count = omega (arith, listed.few);
      below = All-weaker (attestation_format signature).is_value (λ a. a.signer < 2 ^ 32) (λ a is. is.0) all each;
      each = each;
    }

-- a certificate as a message is its tag, what it certifies, and the certificate
pub certificate_encoding : (S P : Type 0) {D C G : Type 0} (eq : D → D → Bool) (payload : Format D) (certificate : C → List ℕ)
    (signature : Format G) (accepted : Bool) (x : SubjectValue D) (c : C) →
    activity_encoding {S = S} {P = P} eq payload certificate signature (certificate_message accepted x c)
    ≡ certificate_tag accepted x ∷ (message_of payload x ++ certificate c)
certificate_encoding S P eq payload certificate signature true (Notarizes p) c = refl
certificate_encoding S P eq payload certificate signature false (Notarizes p) c = refl
certificate_encoding S P eq payload certificate signature accepted (Nullifies r) c = refl
certificate_encoding S P eq payload certificate signature accepted (Finalizes p) c = refl

-- such a message can be read if its subject and its certificate can
pub certificate_value : (S P : Type 0) {D C G : Type 0} (eq : D → D → Bool) (payload : Format D) (is_certificate : C → Type 0)
    (signature : Format G) (accepted : Bool) (x : SubjectValue D) (c : C) → IsSubject payload x → is_certificate c →
    IsActivity {S = S} {P = P} eq payload is_certificate signature (certificate_message accepted x c)
certificate_value S P eq payload is_certificate signature true (Notarizes p) c subject is = (subject, is)
certificate_value S P eq payload is_certificate signature false (Notarizes p) c subject is = (subject, is)
certificate_value S P eq payload is_certificate signature accepted (Nullifies r) c subject is = (subject, is)
certificate_value S P eq payload is_certificate signature accepted (Finalizes p) c subject is = (subject, is)
