-- Why committees are refused.
use Rattle.std.specs.List.Sorted.{IsStrictlySortedBy}
use Rattle.std.specs.Ordering.{nat_cmp}
use Rattle.std.specs.Prelude.{◌≡◌, ◌≢◌, ℕ, ◌*◌, ◌<◌, ◌≤◌, max, List, [], All, length, sum, Option, Some, None}
use Rattle.simplex_border.specs.Keys.{HasNoKeyTwice, parts_of}
use Rattle.simplex_border.specs.Signatures.{IsVouchedSize}
use Rattle.simplex_border.specs.declared.refusals.Refusal.{Refusal}
use Rattle.simplex_border.specs.declared.refusals.Refusal.TheVariants as refusals

-- the number of a refusal, and 0 for none
abbrev pub refusal_code : Option Refusal → ℕ
refusal_code None = 0
refusal_code (Some refusals.Signature) = 1
refusal_code (Some refusals.NoCommittee) = 2
refusal_code (Some refusals.Count) = 3
refusal_code (Some refusals.Epochs) = 4
refusal_code (Some refusals.EmptyCommittee) = 5
refusal_code (Some refusals.Length) = 6
refusal_code (Some refusals.Repeated) = 7

-- What is asked of the sizes of committees, and of their epochs if there are some, by the number of the refusal if it does not
-- hold: there is a size; there are as many as epochs, or one without epochs; the epochs rise strictly; no size is 0.
pub record AskedOfSizes (epochs sizes : List ℕ) (n : ℕ) : Type 0 where
  pub some : n ≡ 2 → sizes ≢ []
  pub count : n ≡ 3 → length sizes ≡ max 1 (length epochs)
  pub rising : n ≡ 4 → IsStrictlySortedBy nat_cmp epochs
  pub members : n ≡ 5 → All (λ size. 1 ≤ size) sizes

-- the same, with signatures of so many bytes
pub record AskedOfVouched (signature : ℕ) (epochs sizes : List ℕ) (n : ℕ) : Type 0 where
  pub signatures : n ≡ 1 → IsVouchedSize signature
  pub sizes_are : AskedOfSizes epochs sizes n

-- the same with keys: they have 32 bytes for each participant, and none stands twice in a committee
pub record AskedOfKeys (epochs sizes bytes : List ℕ) (n : ℕ) : Type 0 where
  pub sizes_are : AskedOfSizes epochs sizes n
  pub length_is : n ≡ 6 → length bytes ≡ 32 * sum sizes
  pub distinct : n ≡ 7 → All HasNoKeyTwice (parts_of sizes bytes)

-- The number is that of the first refusal: what it stands for does not hold, and all before it does. With 0 all holds.
pub record IsFirstRefusal (Asked : ℕ → Type 0) (code : ℕ) : Type 0 where
  pub before : (n : ℕ) → n < code → Asked n
  pub refused : 1 ≤ code → ¬ Asked code
  pub none : code ≡ 0 → (n : ℕ) → Asked n
