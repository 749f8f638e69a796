-- How attestations are encoded.
use Rattle.std.specs.Prelude.{ℕ, List}
use Rattle.std.specs.Borrow.{Bor}
use Rattle.simplex_base.specs.Format.{Format, both, made}
use Rattle.simplex_base.specs.Varint.{number_32}
use Rattle.simplex_scheme.specs.declared.scheme.Attestation.{Attestation}

-- the signer, and then the signature
abbrev pub attestation_format : {S P G : Type 0} → Format G → Format (Attestation S P G)
attestation_format signature =
    made (λ p. record { signer = p.0; signature = p.1 }) (λ a. (a.signer, a.signature)) (both number_32 signature)

-- the attestation of its signer and the bytes of its signature
abbrev pub attestation_of : {S P G : Type 0} → (List ℕ → G) → ℕ × Bor (List ℕ) → Attestation S P G
attestation_of of_bytes parts = record { signer = parts.0; signature = of_bytes parts.1.now }
