-- The rows of a stream.
use Rattle.std.specs.Prelude.{◌≡◌, ◌+◌, ◌≤◌, ◌==◌, ℕ, List, length, take, drop, filter, All, Option, Some, None}
use Rattle.std.specs.List.{flat_map, sum_by}
use Rattle.simplex_base.specs.Format.{Format}
use Rattle.simplex_base.specs.Positions.{Round}
use Rattle.simplex_stream.specs.Fault.{IsFault}
use Rattle.simplex_stream.specs.Messages.{AreMessages}
use Rattle.simplex_stream.specs.declared.fault.Fault.{Fault}
use Rattle.simplex_shards.specs.Rows.{row_round, rows_from}
use Rattle.simplex_shards.specs.Split.{of_class}
use Rattle.simplex_shards.specs.declared.index.Table.{Table}
use Rattle.simplex_shards.specs.declared.index.Row.{Row}

-- the bytes of a stream where a row says
abbrev pub bytes_at : List ℕ → Row → List ℕ
bytes_at stream row = take row.length (drop row.place stream)

-- the rows of the rounds of one class, in their order
abbrev pub rows_of_class : (Round → ℕ) → ℕ → List Row → List Row
rows_of_class class i rows = filter (λ row. class (row_round row) == i) rows

-- where the messages of a stream of so many bytes end
abbrev pub end_of : Option Fault → ℕ → ℕ
end_of None size = size
end_of (Some fault) size = fault.place

-- The rows are those of the stream's messages, in their order, up to its end or first fault: each begins where the one before
-- it ends, and their lengths add up to the fault's place, or else to the stream's length. The bytes there are the messages: of
-- each class of rounds the rows give its messages, in their order.
pub record IsIndex {M : Type 0} (format : Format M) (round : M → Round) (row_of : ℕ → M → Row) (stream : List ℕ)
    (table : Table) : Type 0 where
  pub messages : List M
  pub rest : List ℕ
  pub are_messages : AreMessages format stream messages rest
  pub rows_are : table.rows.items ≡ rows_from row_of format.encoding 0 messages
  pub fault_is : IsFault format.reading (length (flat_map format.encoding messages)) rest table.fault
  pub ends : sum_by (λ row. row.length) table.rows.items ≡ end_of table.fault (length stream)
  pub within : All (λ row. row.place + row.length ≤ length stream) table.rows.items
  pub bytes : (class : Round → ℕ) (i : ℕ) → flat_map (bytes_at stream) (rows_of_class class i table.rows.items)
      ≡ flat_map format.encoding (of_class round class i messages)
