use Rattle.simplex_rules.proofs.Prelude.{sym}
use Rattle.simplex_rules.proofs.judge.Judge.verify_attestation.Goals as goal

pub returns-in-Verified : goal.returns-in-Verified
returns-in-Verified g c known = sym (known c.in-Verified.is)
