-- The signers of a scheme by verdicts are in the committee. It stands beside the definitions because a ghost member of the
-- scheme cites it, which sees no proofs.
use Rattle.std.specs.Prelude.{◌≡◌, ℕ, ◌<◌, true, List, length}
use Rattle.std.proofs.Common.{arith}
use Rattle.std.proofs.lemmas.Bool.Decides.{nat_tests}
use Rattle.simplex_base.specs.Format.{Format}
use Rattle.simplex_scheme.specs.Subject.{SubjectValue}
use Rattle.node_examples.specs.Judged.{JudgedScheme, judged_good}

-- the signer of a valid signature is in the committee
pub judged_members : {D : Type 0} (payload : Format D) (scheme : JudgedScheme) (subject : SubjectValue D) (signer : ℕ)
    (signature : List ℕ) → judged_good payload scheme subject signer signature ≡ true → signer < length scheme.keys
judged_members payload scheme subject signer signature h = grind (arith, nat_tests)
