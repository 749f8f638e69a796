-- How many views are admitted, and what leads to them.
use Rattle.std.proofs.Common.{◌≡◌, ℕ, ◌+◌, ◌*◌, ◌-◌, ◌^◌, ◌<◌, ◌≤◌, ◌↔◌, ◌⊎◌, min, max, inl, inr, arith}
use Rattle.std.proofs.lemmas.Bool.{cases_lt}
use Rattle.simplex_base.specs.Terms.{term_start, term_end}
use Rattle.simplex_lead.specs.Windows.{FitsWindow, IsAdmitted, IsInReach, Leads, NumberExactly, admitted_above, next_start}
use Rattle.simplex_base.specs.TermLaws.{end_after, end_same, end_next, end_rises, start_to_end}
use Rattle.simplex_lead.proofs.Counting.{number_between, number_both, number_same}

-- the views above c up to the limit in its own term, and those from the next term's start on
abbrev pub InTwoRuns : ℕ → ℕ → ℕ → ℕ → Type 0
InTwoRuns l k c q =
    ((c + 1 ≤ q) × (q < c + 1 + min (2 * k + 1) (term_end l c - c)))
    ⊎ ((next_start l c ≤ q) × (q < next_start l c + (2 + min (max k 1) l)))

pub runs_admitted : (l k c q : ℕ) → c ≤ term_end l c → InTwoRuns l k c q → (c < q) × IsAdmitted l k c q
runs_admitted l k c q after (inl (low, high)) = (omega arith, inr (inr (inr (inl (omega arith, omega arith)))))
runs_admitted l k c q after (inr (low, high)) = (
  omega arith,
  elim (cases_lt (next_start l c) q) as (λ _. IsAdmitted l k c q)
      [ inl lt ↦ inr (inr (inr (inr (lt, omega arith)))) | inr le ↦ inr (inr (inl (omega arith))) ],
)

pub admitted_runs : (l k c q : ℕ) → c ≤ term_end l c → (c < q) × IsAdmitted l k c q → InTwoRuns l k c q
admitted_runs l k c q after (above, admitted) = elim (cases_lt (term_end l c) q) as (λ _. InTwoRuns l k c q) [
  | inl past ↦ inr (omega arith, grind arith)
  | inr within ↦ inl (omega arith, grind arith)
]

pub admitted_number : (l k c : ℕ) → 1 ≤ l → NumberExactly (λ q. (c < q) × IsAdmitted l k c q) (admitted_above l k c)
admitted_number l k c positive =
    let after = end_after l c positive in
    let near = number_between (c + 1) (min (2 * k + 1) (term_end l c - c)) in
    let far = number_between (next_start l c) (2 + min (max k 1) l) in
    let both : NumberExactly (InTwoRuns l k c) (min (2 * k + 1) (term_end l c - c) + (2 + min (max k 1) l)) =
    number_both _ _ _ _ near far (λ p q a b. omega (arith, a.1, b.0)) in
    let sum : min (2 * k + 1) (term_end l c - c) + (2 + min (max k 1) l) ≡ admitted_above l k c = omega arith in
    rw (← sum) (number_same _ (λ q. (c < q) × IsAdmitted l k c q) _ both (λ q. runs_admitted l k c q after)
    (λ q. admitted_runs l k c q after))

-- what somebody in reach leads to is admitted
pub leads_admitted : (l k c p q : ℕ) → 1 ≤ l → Leads l k c p q → IsAdmitted l k c q
leads_admitted l k c p q positive (reach_p, near, reach_q) =
    let after = end_after l c positive in
    let next = end_next l c positive in
    let earlier : p + 1 ≤ c → term_end l (p + 1) ≤ term_end l c = end_rises l (p + 1) c positive in
    let same : c ≤ p + 1 → p + 1 ≤ term_end l c → term_end l (p + 1) ≡ term_end l c = end_same l c (p + 1) positive in
    let start : p + 1 ≡ term_end l c + 1 → term_end l (p + 1) ≡ term_end l c + l = λ e. rw e next in
    let after_next : term_end l (term_end l c + l + 1) ≡ term_end l c + l + l =
    rw next at (end_next l (term_end l c + 1) positive) in
    let two : p + 1 ≡ term_end l c + l + 1 → term_end l (p + 1) ≡ term_end l c + l + l = λ e. rw e after_next in
    elim (cases_lt c q) as (λ _. IsAdmitted l k c q) [
      | inr le ↦ inl le
      | inl above ↦ elim (cases_lt (term_end l c) q) as (λ _. IsAdmitted l k c q) [
        | inr within ↦ inr (inr (inr (inl (above, grind arith))))
        | inl past ↦ elim (cases_lt (next_start l c) q) as (λ _. IsAdmitted l k c q) [
          | inr start ↦ inr (inr (inl (omega arith)))
          | inl later ↦ inr (inr (inr (inr (later, grind arith))))
        ]
      ]
    ]

-- a later view of c's term that is admitted is led to
pub admitted_led : (l k c q : ℕ) → 1 ≤ l → c < q → q ≤ term_end l c → IsAdmitted l k c q → (p : ℕ) × Leads l k c p q
admitted_led l k c q positive above within admitted =
    let p = min (c + k) (q - 1) in
    let same : term_end l (p + 1) ≡ term_end l c = end_same l c (p + 1) positive (omega arith) (omega arith) in
    (p, (grind arith, inl (omega arith), grind arith))

-- an admitted view is a 64-bit number
pub admitted_small : (l k c q : ℕ) → 1 ≤ l → FitsWindow l c → IsAdmitted l k c q → q < 2 ^ 64
admitted_small l k c q positive fits admitted = let after = end_after l c positive in grind arith

-- a later view that starts no term is in reach of the view after q exactly where q is at most the lookahead many views
-- before it, and it is of that term
pub floor_reach : (l k q v : ℕ) → 1 ≤ l → q < v → ¬ (v ≡ term_start l v) →
    IsInReach l k (q + 1) v ↔ ((v - k - 1 ≤ q) × (v ≤ term_end l (q + 1)))
floor_reach l k q v positive later inside =
    let after = end_after l (q + 1) positive in
    let next = end_next l (q + 1) positive in
    let whole = start_to_end l v (omega arith) in
    let starts : v ≡ term_end l (q + 1) + 1 → v ≡ term_start l v = λ e.
    let end : term_end l v ≡ term_end l (q + 1) + l = rw e next in omega arith in (
      (λ reach. elim reach as (λ _. (v - k - 1 ≤ q) × (v ≤ term_end l (q + 1))) [
        | inl up ↦ (omega arith, omega arith)
        | inr (inl own) ↦ (omega arith, omega arith)
        | inr (inr start) ↦ absurd (inside (starts start.0))
      ]),
      (λ (near, own). inr (inl (omega arith))),
    )
