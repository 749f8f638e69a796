use Rattle.std.proofs.Common.{◌≡◌, ℕ, ◌+◌, ◌<◌, ◌^◌, List, ◌++◌, length, ap, ◌∙◌, arith, length-append}
use Rattle.std.specs.List.{flat_map}
use Rattle.simplex_base.specs.Format.{Format, fixed}
use Rattle.simplex_base.specs.Varint.{number_32}
use Rattle.simplex_scheme.specs.Attestation.{attestation_format}
use Rattle.simplex_scheme.specs.Subject.{message_of, subject_value}
use Rattle.simplex_places.specs.declared.places.Signed.{Signed}
use Rattle.simplex_places.proofs.places.push_certificate.Given as given
use Rattle.simplex_places.proofs.places.push_certificate.Goals as goal

-- the format of payloads
abbrev payload : (g : given.Over) → Format g.row.D.Denot
payload g = fixed g.D.Fixed.SIZE g.D.Fixed.bytes_of g.D.Fixed.of_bytes

-- the bytes of a subject, and those of a certificate behind it
room : (place : ℕ) (subject certificate count all : List ℕ) → certificate ≡ count ++ all →
    place + length (subject ++ certificate) < 2 ^ 64 → place + length subject + length count + length all < 2 ^ 64
room place subject certificate count all is fits =
    omega (arith, ap length is, length-append subject certificate, length-append count all)

pub overflow_add-first-2 : goal.overflow_add-first-2
overflow_add-first-2 g c =
    let signature = fixed g.S.Signature.Fixed.SIZE g.S.Signature.Fixed.bytes_of g.S.Signature.Fixed.of_bytes in
    let listed = g.S.Listing.listed c.args.certificate.now in
    let count : c.size_u32.result ≡ length (number_32.encoding (length listed)) =
    c.size_u32.ensures.size ∙ ap (λ (n : ℕ). length (number_32.encoding n)) c.count.ensures in
    let fits = room c.args.place (message_of (payload g) (subject_value c.args.subject.now))
    (g.S.Certificate.Encoding.encoding c.args.certificate.now) (number_32.encoding (length listed))
    (flat_map (attestation_format signature).encoding listed) (g.met.S.Counted.counted c.args.certificate.now) c.requires in
    omega (arith, fits, count, ap (λ (s : Signed). s.size) c.signed_at-signed.ensures)

pub push_attestations-requires : goal.push_attestations-requires
push_attestations-requires g c =
    let signature = fixed g.S.Signature.Fixed.SIZE g.S.Signature.Fixed.bytes_of g.S.Signature.Fixed.of_bytes in
    let listed = g.S.Listing.listed c.args.certificate.now in
    let count : c.size_u32.result ≡ length (number_32.encoding (length listed)) =
    c.size_u32.ensures.size ∙ ap (λ (n : ℕ). length (number_32.encoding n)) c.count.ensures in
    let fits = room c.args.place (message_of (payload g) (subject_value c.args.subject.now))
    (g.S.Certificate.Encoding.encoding c.args.certificate.now) (number_32.encoding (length listed))
    (flat_map (attestation_format signature).encoding listed) (g.met.S.Counted.counted c.args.certificate.now) c.requires in
    rw c.attestations.ensures (omega (arith, fits, count, ap (λ (s : Signed). s.size) c.signed_at-signed.ensures))
