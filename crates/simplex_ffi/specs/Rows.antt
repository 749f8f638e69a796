-- Rows and ranges that a caller who is not Rattle is given.
use Rattle.std.specs.Prelude.{◌≡◌, ◌≢◌, ◌<◌, ◌≤◌, ◌^◌, ◌+◌, ℕ, List, [], ◌∷◌, All, length}
use Rattle.std.specs.List.{flat_map}
use Rattle.simplex_base.specs.Positions.{Round}
use Rattle.simplex_shards.specs.Classes.{ranges_in}
use Rattle.simplex_shards.specs.Ranges.{AreRanges}
use Rattle.simplex_shards.specs.declared.classes.ClassRanges.{ClassRanges}
use Rattle.simplex_shards.specs.declared.index.Row.{Row}
use Rattle.simplex_shards.specs.declared.index.Table.{Table}
use Rattle.simplex_shards.specs.declared.ranges.Range.{Range}
use Rattle.simplex_border.specs.Answer.{IsPut, ended_of, place_of_fault}
use Rattle.simplex_border.specs.declared.answer.ReportSummary.{ReportSummary}

-- The numbers are those of a table: how many rows it has, and its fault. Nothing was audited.
pub record IsTableSummary (table : Table) (summary : ReportSummary) : Type 0 where
  pub read_is : summary.read ≡ length table.rows.items
  pub evidence_is : summary.evidence ≡ 0
  pub splits_are : summary.splits ≡ 0
  pub faulted_is : summary.faulted ≡ ended_of table.fault
  pub place_is : summary.fault_place ≡ place_of_fault table.fault
  pub length_is : summary.length ≡ 0

-- The rows of a table stand at the start of the buffer, with 0 if the stream was read whole and 1 if it has a fault; or the
-- buffer is too short and as before, with 4. The summary is that of the table.
pub record AreRowsGiven (IsTable : Table → Type 0) (before after : List Row) (summary : ReportSummary)
    (status : ℕ) : Type 0 where
  pub table : Table
  pub table_is : IsTable table
  pub summary_is : IsTableSummary table summary
  pub rows_are : IsPut table.rows.items before after status (ended_of table.fault)

-- each row ends below 2^64
abbrev pub RowsFit : List Row → Type 0
RowsFit rows = All (λ row. row.place + row.length < 2 ^ 64) rows

-- The ranges of the rows of one class stand at the start of the buffer, with 0; or the buffer is too short and as before, with
-- 4. The number needed is that of the ranges.
pub record AreRangesGiven (class : Round → ℕ) (i : ℕ) (rows : List Row) (before after : List Range)
    (needed status : ℕ) : Type 0 where
  pub found : List Range
  pub found_are : AreRanges class i rows found
  pub needed_is : needed ≡ length found
  pub ranges_are : IsPut found before after status 0

-- the ranges of all classes, one class after another
abbrev pub all_ranges : ClassRanges → List Range
all_ranges found = flat_map (λ ranges. ranges) (ranges_in found)

-- where the ranges of each class end, if they stand one class after another behind so many others
abbrev pub ends_from : ℕ → List (List Range) → List ℕ
ends_from n [] = []
ends_from n (ranges ∷ others) = (n + length ranges) ∷ ends_from (n + length ranges) others

-- The numbers are those of what was found: how many messages there are, how many ranges they have, and the fault. Nothing was
-- audited.
pub record IsClassSummary (found : ClassRanges) (summary : ReportSummary) : Type 0 where
  pub read_is : summary.read ≡ found.read
  pub evidence_is : summary.evidence ≡ 0
  pub splits_are : summary.splits ≡ 0
  pub faulted_is : summary.faulted ≡ ended_of found.fault
  pub place_is : summary.fault_place ≡ place_of_fault found.fault
  pub length_is : summary.length ≡ length (all_ranges found)

-- The ranges of all classes stand at the start of the buffer, one class after another, and `ends` has for each class where its
-- ranges end there; the status is 0 if the stream was read whole and 1 if it has a fault. Or the buffer is too short, both are
-- as before, and the status is 4.
pub record AreClassesGiven (AreFound : ClassRanges → Type 0) (before after : List Range) (ends_before ends : List ℕ)
    (summary : ReportSummary) (status : ℕ) : Type 0 where
  pub found : ClassRanges
  pub found_are : AreFound found
  pub summary_is : IsClassSummary found summary
  pub ranges_are : IsPut (all_ranges found) before after status (ended_of found.fault)
  pub ends_are : (status ≢ 4) → ends ≡ ends_from 0 (ranges_in found)
  pub ends_stay : status ≡ 4 → ends ≡ ends_before

-- so many classes can be
abbrev pub AreClasses : ℕ → Type 0
AreClasses classes = (1 ≤ classes) × (classes < 2 ^ 32)
