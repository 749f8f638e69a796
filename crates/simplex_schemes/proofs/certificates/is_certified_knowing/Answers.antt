use Rattle.std.proofs.Common.{sym, arith, ap, length}
use Rattle.simplex_schemes.proofs.CertificateLemmas.{quorum_of_seen}
use Rattle.simplex_schemes.proofs.certificates.is_certified_knowing.Goals as goal

pub returns : goal.returns
returns g c = λ valid.
    sym (quorum_of_seen _ _ _ c.loop-attestation.attestation-index _ c.attestations-attestations.ensures.value
    c.attestations-attestations.ensures.listed.ascending (omega (arith, ap length c.participants.ensures.keys)) (omega arith)
    (c.loop-attestation.invariant valid))
