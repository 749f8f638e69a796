-- The marked scheme's signers are in the committee. It stands beside the definitions because a ghost member of the scheme cites
-- it, which sees no proofs.
use Rattle.std.specs.Prelude.{◌≡◌, ℕ, ◌<◌, true, List}
use Rattle.std.proofs.Common.{arith}
use Rattle.std.proofs.lemmas.Bool.Decides.{nat_tests}
use Rattle.simplex_scheme.specs.Subject.{SubjectValue}
use Rattle.simplex_schemes.specs.Marked.{marked_good}

-- the signer of a valid signature is in the committee
pub marked_members : {D : Type 0} (n : ℕ) (subject : SubjectValue D) (signer : ℕ) (signature : List ℕ) →
    marked_good n subject signer signature ≡ true → signer < n
marked_members n subject signer signature h = grind (arith, nat_tests)
