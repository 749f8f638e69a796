-- Why committees are refused, first things first.
use Rattle.std.proofs.Common.{◌≡◌, ◌≢◌, ℕ, ◌≤◌, zero, suc, List, [], ◌∷◌, length, Option, Some, None, refl, sym, ap, subst, arith}
use Rattle.std.specs.List.Sorted.{IsStrictlySortedBy}
use Rattle.std.specs.Ordering.{nat_cmp}
use Rattle.std.specs.Prelude.{All, max}
use Rattle.std.proofs.lemmas.List.Elements.{All-cons, All-nil}
use Rattle.std.proofs.lemmas.Map.Keys.{sorted_from_strictly_increasing}
use Rattle.simplex_border.specs.Refusals.{AskedOfSizes, IsFirstRefusal, refusal_code}
use Rattle.simplex_border.specs.Sizes.{AreCommitteeSizes}
use Rattle.simplex_border.specs.declared.refusals.Refusal.{Refusal}
use Rattle.simplex_border.specs.declared.refusals.Refusal.TheVariants as refusals
use Rattle.simplex_border.proofs.SizeLemmas.{listed_sizes, one_size, size_of_one, sizes_of_listed}

-- only no refusal has the number 0
pub none_by_code : (refusal : Option Refusal) → refusal_code refusal ≡ 0 → refusal ≡ None
none_by_code None is = refl
none_by_code (Some refusals.Signature) is = absurd (omega (arith, is))
none_by_code (Some refusals.NoCommittee) is = absurd (omega (arith, is))
none_by_code (Some refusals.Count) is = absurd (omega (arith, is))
none_by_code (Some refusals.Epochs) is = absurd (omega (arith, is))
none_by_code (Some refusals.EmptyCommittee) is = absurd (omega (arith, is))
none_by_code (Some refusals.Length) is = absurd (omega (arith, is))
none_by_code (Some refusals.Repeated) is = absurd (omega (arith, is))

-- what is not positive is 0
none_positive : (code : ℕ) → (1 ≤ code → ⊥) → code ≡ 0
none_positive zero none = refl
none_positive (suc n) none = absurd (none (omega arith))

-- the epochs do not rise
pub epochs_fall : (epochs sizes : List ℕ) → sizes ≢ [] → length sizes ≡ max 1 (length epochs) →
    (IsStrictlySortedBy nat_cmp epochs → ⊥) → IsFirstRefusal (AskedOfSizes epochs sizes) 4
epochs_fall epochs sizes some count fall = record {
  before = λ n lt. record {
    some = λ _. some;
    count = λ _. count;
    rising = λ e. absurd (omega (arith, e, lt));
    members = λ e. absurd (omega (arith, e, lt));
  };
  refused = λ _ asked. fall (asked.rising refl);
  none = λ e. absurd (omega (arith, e));
}

-- nothing is refused
pub sizes_right : (epochs sizes : List ℕ) → sizes ≢ [] → length sizes ≡ max 1 (length epochs) →
    IsStrictlySortedBy nat_cmp epochs → All (λ n. 1 ≤ n) sizes → IsFirstRefusal (AskedOfSizes epochs sizes) 0
sizes_right epochs sizes some count rising members = record {
  before = λ n lt. absurd (omega (arith, lt));
  refused = λ le. absurd (omega (arith, le));
  none = λ _ n. record { some = λ _. some; count = λ _. count; rising = λ _. rising; members = λ _. members };
}

-- of sizes of committees all is so
pub sizes_asked : (epochs sizes : List ℕ) → AreCommitteeSizes epochs sizes → (n : ℕ) → AskedOfSizes epochs sizes n
sizes_asked [] sizes are n =
    let (size, is, some) = size_of_one [] sizes refl are in
    record {
      some = λ _ none. omega (arith, ap length is, ap length none);
      count = λ _. omega (arith, ap length is);
      rising = λ _. sorted_from_strictly_increasing [] (λ k within. absurd (omega (arith, within)));
      members = λ _. subst (All (λ n. 1 ≤ n)) (sym is) (All-cons (λ n. 1 ≤ n) size [] some (All-nil (λ n. 1 ≤ n)));
    }
sizes_asked (e ∷ es) sizes are n =
    let (same, members, rising) = sizes_of_listed (e ∷ es) sizes (λ none. omega (arith, ap length none)) are in
    record {
      some = λ _ none. omega (arith, same, ap length none);
      count = λ _. omega (arith, same);
      rising = λ _. rising;
      members = λ _. members;
    }

-- where all is so, they are sizes of committees
pub sizes_by_asked : (epochs sizes : List ℕ) → ((n : ℕ) → AskedOfSizes epochs sizes n) → AreCommitteeSizes epochs sizes
sizes_by_asked [] sizes asked = one_size sizes (omega (arith, (asked 3).count refl)) ((asked 5).members refl)
sizes_by_asked (e ∷ es) sizes asked =
    listed_sizes (e ∷ es) sizes (λ none. omega (arith, ap length none)) (omega (arith, (asked 3).count refl))
    ((asked 5).members refl) ((asked 4).rising refl)

-- nothing is refused of sizes of committees alone
pub sizes_accepted : (epochs sizes : List ℕ) (refusal : Option Refusal) →
    IsFirstRefusal (AskedOfSizes epochs sizes) (refusal_code refusal) →
    (refusal ≡ None → AreCommitteeSizes epochs sizes) × (AreCommitteeSizes epochs sizes → refusal ≡ None)
sizes_accepted epochs sizes refusal first = (
  λ is. sizes_by_asked epochs sizes (first.none (ap refusal_code is)),
  λ are. none_by_code refusal
      (none_positive (refusal_code refusal) (λ some. first.refused some (sizes_asked epochs sizes are (refusal_code refusal)))),
)
