-- Where the messages of each class of a stream stand.
use Rattle.std.specs.Prelude.{◌≡◌, ◌+◌, ◌<◌, ◌==◌, if◌then◌else◌, ℕ, List, ◌++◌, length, slice_get, Some, All}
use Rattle.std.specs.List.{flat_map}
use Rattle.simplex_base.specs.Format.{Format}
use Rattle.simplex_base.specs.Positions.{Round}
use Rattle.simplex_stream.specs.Fault.{IsFault}
use Rattle.simplex_stream.specs.Messages.{AreMessages}
use Rattle.simplex_shards.specs.Ranges.{ArePart, AreRanges, appended}
use Rattle.simplex_shards.specs.Rows.{rows_from}
use Rattle.simplex_shards.specs.Split.{items_in}
use Rattle.simplex_shards.specs.declared.classes.ClassRanges.{ClassRanges}
use Rattle.simplex_shards.specs.declared.classes.Locator.{Locator}
use Rattle.simplex_shards.specs.declared.index.Row.{Row}
use Rattle.simplex_shards.specs.declared.peek.Peeked.{Peeked}
use Rattle.simplex_shards.specs.declared.ranges.Range.{Range}

-- the ranges of each class
abbrev pub ranges_in : ClassRanges → List (List Range)
ranges_in found = items_in found.ranges

-- These are the ranges of a stream's messages up to its end or first fault, for each of so many classes. The ranges of a class
-- are where the rows of its messages say, so that its messages stand in them, in their order. Neighbours are joined, and no
-- range is empty. Each message is of one class.
pub record AreClassRanges {M : Type 0} (format : Format M) (round : M → Round) (row_of : ℕ → M → Row) (class : Round → ℕ)
    (classes : ℕ) (stream : List ℕ) (found : ClassRanges) : Type 0 where
  pub messages : List M
  pub rest : List ℕ
  pub are_messages : AreMessages format stream messages rest
  pub read_is : found.read ≡ length messages
  pub fault_is : IsFault format.reading (length (flat_map format.encoding messages)) rest found.fault
  pub count : length (ranges_in found) ≡ classes
  pub one : All (λ m. class (round m) < classes) messages
  pub each : (i : ℕ) (ranges : List Range) → slice_get (ranges_in found) i ≡ Some ranges →
      ArePart format round class i stream ranges × AreRanges class i (rows_from row_of format.encoding 0 messages) ranges
      × All (λ r. 0 < r.length) ranges

-- ---- message after message

-- the ranges of each class so far
abbrev pub located : Locator → List (List Range)
located locator = items_in locator.ranges

-- where a message stands was noted, in the ranges of its class
pub record Notes (class : Round → ℕ) (message : Peeked) (old new : Locator) : Type 0 where
  pub count : length (located new) ≡ length (located old)
  pub place_is : new.place ≡ old.place + message.length
  pub grown : (i : ℕ) (ranges : List Range) → slice_get (located old) i ≡ Some ranges →
      slice_get (located new) i ≡ Some (if class message.round == i
      then appended ranges (record { place = old.place; length = message.length }) else ranges)

-- where these messages stand was noted, each in the ranges of its class
pub record Locates {M : Type 0} (row_of : ℕ → M → Row) (encoding : M → List ℕ) (class : Round → ℕ) (messages : List M)
    (old new : Locator) : Type 0 where
  pub count : length (located new) ≡ length (located old)
  pub place_is : new.place ≡ old.place + length (flat_map encoding messages)
  pub grown : (i : ℕ) (rows : List Row) (ranges : List Range) → slice_get (located old) i ≡ Some ranges →
      AreRanges class i rows ranges →
      (further : List Range) × (slice_get (located new) i ≡ Some further)
      × AreRanges class i (rows ++ rows_from row_of encoding old.place messages) further
