-- Fake readers and writers as values.
use Rattle.std.specs.Prelude.{ℕ, ◌+◌, ◌-◌, ◌^◌, min, List, Bool}
use Rattle.faulty_io.specs.declared.trouble.Trouble.{Trouble}

-- a reader: the bytes that are left, how many it gives a call, when its calls fail, and how many were made
pub record Reader : Type 0 where
  pub left : List ℕ
  pub step : ℕ
  pub trouble : Trouble
  pub calls : ℕ

-- a writer: the bytes that it took, how many it takes a call, how many it still takes in all, when its
-- writes and flushes fail, how many of each were made, and whether a byte was not flushed since it came
pub record Writer : Type 0 where
  pub held : List ℕ
  pub step : ℕ
  pub room : ℕ
  pub writing : Trouble
  pub flushing : Trouble
  pub writes : ℕ
  pub flushes : ℕ
  pub pending : Bool

-- one call more; the count stops at 2^64 - 1
abbrev pub one_more : ℕ → ℕ
one_more calls = min (calls + 1) (2 ^ 64 - 1)
