use Rattle.std.proofs.Common.{length}
use Rattle.simplex_live.proofs.words.wrong_word.Given as goal

-- how many texts are left
abbrev pub decreases-texts : goal.decreases-texts
decreases-texts g l = length l.rest
