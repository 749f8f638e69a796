-- A certificate has no more attestations than its encoding has bytes.
use Rattle.std.proofs.Common.{◌≤◌, List, [], ◌∷◌, length, arith, length-append}
use Rattle.std.specs.List.{flat_map}
use Rattle.simplex_base.specs.Format.{Format}
use Rattle.simplex_base.specs.VarintLaws.{groups_some}
use Rattle.simplex_base.specs.Varint.{number_32}
use Rattle.simplex_scheme.specs.Attestation.{attestation_format}
use Rattle.simplex_scheme.specs.declared.scheme.Attestation.{Attestation}
use Rattle.simplex_schemes.specs.Listed.{listed_encoding}

each_within_bytes : {S P G : Type 0} (signature : Format G) (xs : List (Attestation S P G)) →
    length xs ≤ length (flat_map (attestation_format signature).encoding xs)
each_within_bytes signature [] = omega arith
each_within_bytes {S} {P} {G} signature (a ∷ xs) =
    let form = attestation_format {S = S} {P = P} signature in
    omega (
      arith,
      length-append (form.encoding a) (flat_map form.encoding xs),
      length-append (number_32.encoding a.signer) (signature.encoding a.signature),
      groups_some 4 a.signer,
      each_within_bytes signature xs,
    )

-- each attestation takes a byte, at least
pub listed_within_bytes : {S P G : Type 0} (signature : Format G) (xs : List (Attestation S P G)) →
    length xs ≤ length (listed_encoding signature xs)
listed_within_bytes {S} {P} signature xs =
    let form = attestation_format {S = S} {P = P} signature in
    omega (arith, length-append (number_32.encoding (length xs)) (flat_map form.encoding xs), each_within_bytes signature xs)
