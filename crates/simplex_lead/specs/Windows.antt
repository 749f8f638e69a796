-- Which views are taken by a node in view c, where terms have l views and a node looks k views ahead. Each is a
-- union of intervals of views.
use Rattle.std.specs.Prelude.{◌≡◌, ℕ, ◌+◌, ◌*◌, ◌-◌, ◌<◌, ◌≤◌, ◌^◌, ◌⊎◌, ◌↔◌, min, max, List, Contains, length}
use Rattle.std.specs.List.Sorted.{IsStrictlyIncreasing}
use Rattle.simplex_base.specs.Terms.{term_end}

-- the first view of the term after v's
abbrev pub next_start : ℕ → ℕ → ℕ
next_start l v = term_end l v + 1

-- all views that are counted from c are 64-bit numbers
abbrev pub FitsWindow : ℕ → ℕ → Type 0
FitsWindow l c = next_start l c + l + 1 < 2 ^ 64

-- the last view of c's own term that is admitted ahead
abbrev pub own_limit : ℕ → ℕ → ℕ → ℕ
own_limit l k c = min (term_end l c) (c + 2 * k + 1)

-- the last view of the terms after c's that is admitted
abbrev pub next_limit : ℕ → ℕ → ℕ → ℕ
next_limit l k c = next_start l c + min (max k 1) l + 1

-- view q is admitted from c
abbrev pub IsAdmitted : ℕ → ℕ → ℕ → ℕ → Type 0
IsAdmitted l k c q =
    (q ≤ c) ⊎ (q ≡ c + 1) ⊎ (q ≡ next_start l c)
    ⊎ ((c < q) × (q ≤ own_limit l k c))
    ⊎ ((next_start l c < q) × (q ≤ next_limit l k c))

-- view q may be sent from c
abbrev pub IsOutbound : ℕ → ℕ → ℕ → ℕ → Type 0
IsOutbound l k c q =
    (q ≤ c) ⊎ (q ≡ c + 1) ⊎ (q ≡ next_start l c)
    ⊎ ((c < q) × (q ≤ min (term_end l c) (c + k)))

-- exactly n numbers have the property: they are the members of a rising list of this length
pub record NumberExactly (P : ℕ → Type 0) (n : ℕ) : Type 0 where
  pub members : List ℕ
  pub rising : IsStrictlyIncreasing members
  pub exact : (q : ℕ) → Contains members q ↔ P q
  pub many : length members ≡ n

-- how many views above c are admitted
abbrev pub admitted_above : ℕ → ℕ → ℕ → ℕ
admitted_above l k c = min (2 * k + 1) (term_end l c - c) + 2 + min (max k 1) l

-- view q is in reach of v: a node in view v may vote in it
abbrev pub IsInReach : ℕ → ℕ → ℕ → ℕ → Type 0
IsInReach l k v q =
    (q ≤ v) ⊎ (q ≤ min (v + k) (term_end l v))
    ⊎ ((q ≡ next_start l v) × (q ≤ v + k + 1))

-- view p leads from c to q: p is in reach of c, and of c's term or any where terms have one view, and q is in reach of
-- the view after p
abbrev pub Leads : ℕ → ℕ → ℕ → ℕ → ℕ → Type 0
Leads l k c p q = IsInReach l k c p × ((p ≤ term_end l c) ⊎ (l ≡ 1)) × IsInReach l k (p + 1) q

-- how many views lie strictly between a view and a later one
abbrev pub views_between : ℕ → ℕ → ℕ
views_between earlier later = later - (earlier + 1)

-- view v is retained by a node that finalized a view and retains a number of views before it
abbrev pub IsRetained : ℕ → ℕ → ℕ → Type 0
IsRetained finalized retention v = (0 < v) × (finalized ≤ v + retention)
