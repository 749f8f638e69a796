use Rattle.std.proofs.Common.{◌≡◌, true, take}
use Rattle.std.specs.List.{list_all}
use Rattle.simplex_scheme.specs.Known.{AreValid}
use Rattle.simplex_scheme.specs.Subject.{subject_value}
use Rattle.simplex_schemes.proofs.certificates.is_certified_knowing.Given as goal

-- each attestation so far is accepted
abbrev pub invariant-loop-attestation : goal.invariant-loop-attestation
invariant-loop-attestation g l =
    AreValid (g.K.Known.known l.known) (g.S.AttestationVerifier.accepted l.scheme) →
    list_all (λ a. g.S.AttestationVerifier.accepted l.scheme (subject_value l.subject) a.signer a.signature)
    (take l.attestation-index l.attestations) ≡ true
