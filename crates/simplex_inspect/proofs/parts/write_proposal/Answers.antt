use Rattle.std.proofs.Common.{refl}
use Rattle.simplex_inspect.proofs.TokenLemmas.{then}
use Rattle.simplex_inspect.proofs.parts.write_proposal.Goals as goal

pub returns : goal.returns
returns c = then c.write_bytes.result _ _ refl c.in_ok-write_number.ensures c.write_bytes.ensures
