-- Terms: intervals of views of one length l. Term 0 is view 0 alone.
use Rattle.std.specs.Prelude.{ℕ, zero, suc, ◌+◌, ◌*◌, ◌/◌, ◌≤◌}

-- the first view of term t
abbrev pub first_view : ℕ → ℕ → ℕ
first_view l zero = 0
first_view l (suc t) = t * l + 1

-- the last view of term t
abbrev pub last_view : ℕ → ℕ → ℕ
last_view l t = t * l

-- term t holds view v
abbrev pub HoldsView : ℕ → ℕ → ℕ → Type 0
HoldsView l t v = (first_view l t ≤ v) × (v ≤ last_view l t)

-- the number of the term that holds v, which is the only one that does
unfoldable pub term_of : ℕ → ℕ → ℕ
term_of l zero = 0
term_of l (suc v) = suc (v / l)

-- the first view of v's term
abbrev pub term_start : ℕ → ℕ → ℕ
term_start l v = first_view l (term_of l v)

-- the last view of v's term
unfoldable pub term_end : ℕ → ℕ → ℕ
term_end l v = last_view l (term_of l v)
