-- Which ranges are within a stream.
use Rattle.std.proofs.Common.{◌-◌, ◌≤◌, ◌^◌, ◌↔◌, ℕ, List, [], ◌∷◌, arith}
use Rattle.std.specs.Prelude.{All}
use Rattle.std.specs.List.{sum_by}
use Rattle.std.proofs.lemmas.List.Elements.{All-cons, All-head, All-nil, All-tail}
use Rattle.std.proofs.lemmas.List.Sums.{sum_by-cons}
use Rattle.simplex_shards.specs.Ranges.{AreWithin, end_of_range}
use Rattle.simplex_shards.specs.declared.ranges.Range.{Range}

-- ranges are within a stream of so many bytes, and have no more bytes than there is room for
abbrev pub Fit : ℕ → ℕ → List Range → Type 0
Fit size room rs = All (λ r. end_of_range r ≤ size) rs × (sum_by (λ r. r.length) rs ≤ room)

-- the room for all
pub fit_all : (size : ℕ) (rs : List Range) → Fit size (2 ^ 64 - 1) rs ↔ AreWithin size rs
fit_all size rs =
    (λ fit. record { each = fit.0; few = omega (arith, fit.1) }, λ within. (within.each, omega (arith, within.few)))

-- no ranges fit
pub fit_none : (size room : ℕ) → Fit size room []
fit_none size room = (All-nil (λ r. end_of_range r ≤ size), omega arith)

-- the first range is within, and there is room for it
pub fit_first : (size room : ℕ) (r : Range) (rs : List Range) → Fit size room (r ∷ rs) →
    (end_of_range r ≤ size) × (r.length ≤ room)
fit_first size room r rs fit = (
  All-head (λ r. end_of_range r ≤ size) r rs fit.0,
  omega (arith, fit.1, sum_by-cons (λ (r : Range). r.length) r rs),
)

-- ranges fit if the first one does, and the others into what it leaves
pub fit_more : (size room : ℕ) (r : Range) (rs : List Range) → end_of_range r ≤ size → r.length ≤ room →
    Fit size room (r ∷ rs) ↔ Fit size (room - r.length) rs
fit_more size room r rs here few =
    let sum = sum_by-cons (λ (r : Range). r.length) r rs in (
      λ fit. (All-tail (λ r. end_of_range r ≤ size) r rs fit.0, omega (arith, fit.1, sum, few)),
      λ fit. (All-cons (λ r. end_of_range r ≤ size) r rs here fit.0, omega (arith, fit.1, sum, few)),
    )
