use Rattle.std.proofs.Common.{length}
use Rattle.simplex_evidence.proofs.types.bisection.+bisect.Given as goal

abbrev pub decreases-bisect : goal.decreases-bisect
decreases-bisect g l = length l.items.now
