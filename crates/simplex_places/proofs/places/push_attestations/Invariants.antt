use Rattle.std.proofs.Common.{◌≡◌, ◌+◌, ◌++◌, length, drop}
use Rattle.std.specs.List.{flat_map}
use Rattle.simplex_base.specs.Format.{fixed}
use Rattle.simplex_scheme.specs.Attestation.{attestation_format}
use Rattle.simplex_places.specs.Places.{places_from}
use Rattle.simplex_places.proofs.places.push_attestations.Given as goal

abbrev pub invariant-attestations : goal.invariant-attestations
invariant-attestations g l =
    let signature = fixed g.S.Signature.Fixed.SIZE g.S.Signature.Fixed.bytes_of g.S.Signature.Fixed.of_bytes in
    record {
      room : l.next + length (flat_map (attestation_format {S = g.row.S.Denot} {P = g.row.S-PublicKey.Denot} signature).encoding
          (drop l.attestation-index l.attestations)) ≡ l.fn.place + length
          (flat_map (attestation_format {S = g.row.S.Denot} {P = g.row.S-PublicKey.Denot} signature).encoding l.attestations);
      placed : l.places.items ++ places_from signature l.signed l.next (drop l.attestation-index l.attestations)
          ≡ l.fn.places.items ++ places_from signature l.signed l.fn.place l.attestations;
    }
