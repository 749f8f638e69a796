-- Views that were admitted stay admitted.
use Rattle.std.proofs.Common.{◌≡◌, ℕ, ◌+◌, ◌<◌, ◌≤◌, min, max, inl, inr, arith}
use Rattle.std.proofs.lemmas.Bool.{cases_lt}
use Rattle.simplex_base.specs.Terms.{term_end}
use Rattle.simplex_base.specs.TermLaws.{end_after, end_next, end_rises, end_same}
use Rattle.simplex_lead.specs.Windows.{IsAdmitted, next_start}

-- from a view of the same term
within : (l k c d q : ℕ) → 1 ≤ l → c ≤ d → d ≤ term_end l c → d < q → IsAdmitted l k c q → IsAdmitted l k d q
within l k c d q positive le inside above admitted =
    let same : term_end l d ≡ term_end l c = end_same l c d positive le inside in
    elim admitted as (λ _. IsAdmitted l k d q) [
      | inl low ↦ absurd (omega (arith, low, le, above))
      | inr (inl next) ↦ inr (inl (omega (arith, next, le, above)))
      | inr (inr (inl start)) ↦ inr (inr (inl (omega (arith, start, same))))
      | inr (inr (inr (inl own))) ↦ inr (inr (inr (inl (above, omega (arith, own.1, same, le)))))
      | inr (inr (inr (inr far))) ↦ inr (inr (inr (inr (omega (arith, far.0, same), omega (arith, far.1, same)))))
    ]

-- from a view of a later term
beyond : (l k c d q : ℕ) → 1 ≤ l → 1 ≤ k → c ≤ d → term_end l c < d → d < q → IsAdmitted l k c q → IsAdmitted l k d q
beyond l k c d q positive ahead le past above admitted =
    let after : c ≤ term_end l c = end_after l c positive in
    let rises : term_end l (term_end l c + 1) ≤ term_end l d =
    end_rises l (term_end l c + 1) d positive (omega (arith, past)) in
    let next : term_end l (term_end l c + 1) ≡ term_end l c + l = end_next l c positive in
    let reach : q ≤ term_end l c + 1 + min (max k 1) l + 1 =
    (elim admitted as (λ _. q ≤ term_end l c + 1 + min (max k 1) l + 1) [
      | inl low ↦ omega (arith, low, after)
      | inr (inl one) ↦ omega (arith, one, after)
      | inr (inr (inl start)) ↦ omega (arith, start)
      | inr (inr (inr (inl own))) ↦ omega (arith, own.1)
      | inr (inr (inr (inr far))) ↦ far.1
    ]) in
    elim (cases_lt (term_end l d) q) as (λ _. IsAdmitted l k d q) [
      | inr inside ↦ inr (inr (inr (inl (above, omega (arith, inside, reach, past, ahead)))))
      | inl over ↦ elim (cases_lt (next_start l d) q) as (λ _. IsAdmitted l k d q) [
        | inr start ↦ inr (inr (inl (omega (arith, start, over))))
        | inl later ↦ inr (inr (inr (inr (later, omega (arith, reach, rises, next, ahead, positive)))))
      ]
    ]

-- A view that is admitted is admitted from each later view, if a node looks ahead.
pub admitted_stay : (l k c d q : ℕ) → 1 ≤ l → 1 ≤ k → c ≤ d → IsAdmitted l k c q → IsAdmitted l k d q
admitted_stay l k c d q positive ahead le admitted = elim (cases_lt d q) as (λ _. IsAdmitted l k d q) [
  | inr low ↦ inl low
  | inl above ↦ elim (cases_lt (term_end l c) d) as (λ _. IsAdmitted l k d q) [
    | inl past ↦ beyond l k c d q positive ahead le past above admitted
    | inr inside ↦ within l k c d q positive le inside above admitted
  ]
]

-- what is admitted without a lookahead is admitted with one of one view
pub admitted_ahead : (l k c q : ℕ) → IsAdmitted l k c q → IsAdmitted l (max k 1) c q
admitted_ahead l k c q admitted = elim admitted as (λ _. IsAdmitted l (max k 1) c q) [
  | inl low ↦ inl low
  | inr (inl next) ↦ inr (inl next)
  | inr (inr (inl start)) ↦ inr (inr (inl start))
  | inr (inr (inr (inl own))) ↦ inr (inr (inr (inl (own.0, omega (arith, own.1)))))
  | inr (inr (inr (inr far))) ↦ inr (inr (inr (inr (far.0, omega (arith, far.1)))))
]
