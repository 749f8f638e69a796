use Rattle.std.proofs.Common.{List, All, length, ap, subst, ◌∙◌, arith}
use Rattle.std.proofs.lemmas.Result.{IfOk-weaker}
use Rattle.simplex_base.specs.Format.{Format, fixed}
use Rattle.simplex_scheme.specs.Attestation.{attestation_format}
use Rattle.simplex_scheme.specs.declared.scheme.Attestation.{Attestation}
use Rattle.simplex_ffi.specs.Messages.{said_value}
use Rattle.simplex_ffi.proofs.SignerLemmas.{attestations_many, certificate_value, listed_fits}
use Rattle.simplex_ffi.proofs.encoding.bytes_of_certificate.Given as given
use Rattle.simplex_ffi.proofs.encoding.bytes_of_certificate.Goals as goal

abbrev payload : (g : given.Over) → Format g.row.D.Denot
payload g = fixed g.D.Fixed.SIZE g.D.Fixed.bytes_of g.D.Fixed.of_bytes

abbrev signature : (g : given.Over) → Format g.row.S-Signature.Denot
signature g = fixed g.S.Signature.Fixed.SIZE g.S.Signature.Fixed.bytes_of g.S.Signature.Fixed.of_bytes

pub bytes_of_listed-requires : goal.bytes_of_listed-requires
bytes_of_listed-requires g c =
    let many = attestations_many g.row.S.Denot g.row.S-PublicKey.Denot g.S.Signature.Fixed.of_bytes
    g.S.Signature.Fixed.SIZE c.args.signers.now c.args.signatures.now in
    let same = ap length (c.deref.ensures.value ∙ c.in_ok-attestations.ensures) in
    record { few = omega (arith, same, many, c.requires.signers.few) }

pub returns-clause-value : goal.returns-clause-value
returns-clause-value g c =
    let each = subst (λ (l : List (Attestation g.row.S.Denot g.row.S-PublicKey.Denot g.row.S-Signature.Denot)).
    All (attestation_format (signature g)).is_value l) (c.deref.ensures.value ∙ c.in_ok-attestations.ensures)
    c.bytes_of_listed.ensures.values in
    let fits = listed_fits g.row.S.Denot g.row.S-PublicKey.Denot (signature g) g.S.Signature.Fixed.of_bytes
    g.S.Signature.Fixed.SIZE c.args.signers.now c.args.signatures.now c.requires.signers each in
    let value = certificate_value g.row.S.Denot g.row.S-PublicKey.Denot g.D.PartialEq.eq (payload g)
    g.S.Certificate.Encoding.is_value (signature g) c.args.accepted (said_value c.args.said.now) _
    c.bytes_of_listed.ensures.subject (g.met.S.Lists.valid _ fits) in
    IfOk-weaker c.bytes_of_listed.result _ _ (λ bytes is. value) c.bytes_of_listed.ensures.bytes
