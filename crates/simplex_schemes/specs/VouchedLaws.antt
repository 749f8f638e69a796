-- The signers of a scheme whose signatures the caller verified are in the committee. It stands beside the definitions because a
-- ghost member of the scheme cites it, which sees no proofs.
use Rattle.std.specs.Prelude.{◌≡◌, ℕ, ◌<◌, true, List, length}
use Rattle.std.proofs.Common.{arith}
use Rattle.std.proofs.lemmas.Bool.Decides.{nat_tests}
use Rattle.simplex_scheme.specs.Subject.{SubjectValue}
use Rattle.simplex_schemes.specs.Vouched.{vouched_valid}

-- the signer of a valid signature is in the committee
pub vouched_members : {D : Type 0} (keys : List (List ℕ)) (subject : SubjectValue D) (signer : ℕ) (signature : List ℕ) →
    vouched_valid keys subject signer signature ≡ true → signer < length keys
vouched_members keys subject signer signature h = grind (arith, nat_tests)
