use Rattle.std.proofs.Common.{arith, ap, length}
use Rattle.simplex_schemes.proofs.CertificateLemmas.{fits_in_order, listed_in_order, quorum_in_order}
use Rattle.simplex_schemes.proofs.certificates.assembled.Goals as goal

pub from_ascending-requires : goal.from_ascending-requires
from_ascending-requires g c =
    listed_in_order _ _ c.sort_by_signers.ensures _ (omega arith) (omega (arith, c.participants.ensures.few)) c.requires.members

pub returns-clause-certified : goal.returns-clause-certified
returns-clause-certified g c good each =
    rw c.from_ascending.ensures (quorum_in_order _ _ c.sort_by_signers.ensures
    (length (g.S.CertificateScheme.keys c.args.scheme.now)) good (omega (arith, ap length c.participants.ensures.keys)) each)

pub returns-clause-readable : goal.returns-clause-readable
returns-clause-readable g c each =
    rw c.from_ascending.ensures (fits_in_order _ _ c.sort_by_signers.ensures _ (omega arith)
    (omega (arith, c.participants.ensures.few)) c.requires.members _ each)
