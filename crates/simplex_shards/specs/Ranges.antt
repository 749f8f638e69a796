-- Bytes of a stream that stand together.
use Rattle.std.specs.Prelude.{◌≡◌, ◌+◌, ◌≤◌, ◌<◌, ◌^◌, ◌==◌, ⊤, ℕ, Bool, List, [], ◌∷◌, length, take, drop, All, if◌then◌else◌}
use Rattle.std.specs.List.{flat_map, sum_by}
use Rattle.simplex_base.specs.Format.{Format}
use Rattle.simplex_base.specs.Positions.{Round}
use Rattle.simplex_stream.specs.Messages.{AreMessages}
use Rattle.simplex_shards.specs.Index.{bytes_at, rows_of_class}
use Rattle.simplex_shards.specs.Rows.{row_round}
use Rattle.simplex_shards.specs.Split.{of_class}
use Rattle.simplex_shards.specs.declared.index.Row.{Row}
use Rattle.simplex_shards.specs.declared.ranges.Range.{Range}

-- the bytes of a range of a stream
abbrev pub range_bytes : List ℕ → Range → List ℕ
range_bytes stream range = take range.length (drop range.place stream)

-- the bytes of a row's message
abbrev pub range_of_row : Row → Range
range_of_row row = record { place = row.place; length = row.length }

-- where a range ends
abbrev pub end_of_range : Range → ℕ
end_of_range range = range.place + range.length

-- whether a range begins where another ends
abbrev pub is_next : Range → Range → Bool
is_next before range = end_of_range before == range.place

-- a range with the one that begins where it ends
abbrev pub joined : Range → Range → Range
joined before range = record { place = before.place; length = before.length + range.length }

-- ranges and a further one, which is joined to the last if it begins where that ends
abbrev pub appended : List Range → Range → List Range
appended [] range = range ∷ []
appended (last ∷ []) range = if is_next last range then joined last range ∷ [] else last ∷ range ∷ []
appended (first ∷ second ∷ others) range = first ∷ appended (second ∷ others) range

-- ranges and that of a row, if its round is of a class
abbrev pub with_row : (Round → ℕ) → ℕ → List Range → Row → List Range
with_row class i ranges row = if class (row_round row) == i then appended ranges (range_of_row row) else ranges

-- the first range does not begin at a place, and none begins where the one before it ends
abbrev pub AreApartFrom : ℕ → List Range → Type 0
AreApartFrom place [] = ⊤
AreApartFrom place (range ∷ others) = (place ≡ range.place → ⊥) × AreApartFrom (end_of_range range) others

-- no range begins where the one before it ends
abbrev pub AreApart : List Range → Type 0
AreApart [] = ⊤
AreApart (range ∷ others) = AreApartFrom (end_of_range range) others

-- The ranges have the bytes of the rows of one class, in their order, in every stream. No range begins where the one before it
-- ends, none ends past where the rows end, and none is empty if no row is.
pub record AreRanges (class : Round → ℕ) (i : ℕ) (rows : List Row) (ranges : List Range) : Type 0 where
  pub bytes : (stream : List ℕ) →
      flat_map (range_bytes stream) ranges ≡ flat_map (bytes_at stream) (rows_of_class class i rows)
  pub apart : AreApart ranges
  pub within : (n : ℕ) → All (λ row. row.place + row.length ≤ n) rows → All (λ r. end_of_range r ≤ n) ranges
  pub filled : All (λ row. 0 < row.length) rows → All (λ r. 0 < r.length) ranges

-- ---- what an audit reads of ranges

-- the bytes of ranges of a stream, one range after another
abbrev pub bytes_of_ranges : List ℕ → List Range → List ℕ
bytes_of_ranges stream ranges = flat_map (range_bytes stream) ranges

-- Each range is within a stream of so many bytes, and together they have fewer than 2^64.
pub record AreWithin (size : ℕ) (ranges : List Range) : Type 0 where
  pub each : All (λ r. end_of_range r ≤ size) ranges
  pub few : sum_by (λ r. r.length) ranges < 2 ^ 64

-- The bytes of ranges of a stream are the messages of one class of rounds, in their order, and an audit takes the ranges.
pub record ArePart {M : Type 0} (format : Format M) (round : M → Round) (class : Round → ℕ) (i : ℕ) (stream : List ℕ)
    (ranges : List Range) : Type 0 where
  pub messages : List M
  pub rest : List ℕ
  pub are_messages : AreMessages format stream messages rest
  pub part : AreMessages format (bytes_of_ranges stream ranges) (of_class round class i messages) []
  pub within : length stream < 2 ^ 64 → AreWithin (length stream) ranges
