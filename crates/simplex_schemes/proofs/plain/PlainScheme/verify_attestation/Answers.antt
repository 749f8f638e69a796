use Rattle.simplex_schemes.proofs.HashedLemmas.{hashed_decides}
use Rattle.simplex_schemes.proofs.plain.PlainScheme.verify_attestation.Goals as goal

pub returns-clause-decided : goal.returns-clause-decided
returns-clause-decided g c = hashed_decides
