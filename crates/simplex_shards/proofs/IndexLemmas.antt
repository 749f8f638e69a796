-- The rows of a stream's messages.
use Rattle.std.proofs.Common.{◌≡◌, ◌+◌, ◌≤◌, ◌==◌, ◌<◌, ℕ, Bool, true, false, cond, List, [], ◌∷◌, ◌++◌, length, take, drop, Option, Some, None, refl, sym, ap, subst, ◌∙◌, arith, append_assoc, length-append}
use Rattle.std.specs.Prelude.{All}
use Rattle.std.specs.List.{flat_map, sum_by}
use Rattle.std.proofs.lemmas.List.Elements.{All-cons, All-nil}
use Rattle.std.proofs.lemmas.List.Sums.{sum_by-cons}
use Rattle.std.proofs.Math.Seq.{drop-append_seam, take-append_seam}
use Rattle.simplex_base.specs.Format.{Format}
use Rattle.simplex_base.specs.Positions.{Round}
use Rattle.simplex_base.specs.declared.codec.error.Error.{Error}
use Rattle.simplex_stream.specs.Fault.{IsFault}
use Rattle.simplex_stream.specs.Progress.{IsProgress}
use Rattle.simplex_stream.specs.declared.fault.Fault.{Fault}
use Rattle.simplex_shards.specs.Index.{IsIndex, bytes_at, end_of, rows_of_class}
use Rattle.simplex_shards.specs.Rows.{IsRow, Tabulates, rows_from}
use Rattle.simplex_shards.specs.Split.{of_class}
use Rattle.simplex_shards.specs.declared.index.Row.{Row}
use Rattle.simplex_shards.specs.declared.index.Table.{Table}
use Rattle.simplex_shards.specs.declared.index.Tabulator.{Tabulator}

module _ {M : Type 0} (round : M → Round) (encoding : M → List ℕ) (row_of : ℕ → M → Row)
    (is_row : (place : ℕ) (m : M) → IsRow round encoding place m (row_of place m)) where
  rows : ℕ → List M → List Row
  rows = rows_from row_of encoding

  -- the lengths of the rows are those of the messages
  lengths_add_up : (place : ℕ) (ms : List M) →
      sum_by (λ row. row.length) (rows_from row_of encoding place ms) ≡ length (flat_map encoding ms)
  lengths_add_up place [] = refl
  lengths_add_up place (m ∷ ms) =
      let one = (is_row place m).length_is in
      let others = lengths_add_up (place + length (encoding m)) ms in
      omega (
        arith,
        one,
        others,
        length-append (encoding m) (flat_map encoding ms),
        sum_by-cons (λ (row : Row). row.length)
            (row_of place m) (rows_from row_of encoding (place + length (encoding m)) ms),
      )

  -- no row ends behind the messages
  pub rows_within : (n place : ℕ) (ms : List M) → place + length (flat_map encoding ms) ≤ n →
      All (λ row. row.place + row.length ≤ n) (rows_from row_of encoding place ms)
  rows_within n place [] room = All-nil (λ row. row.place + row.length ≤ n)
  rows_within n place (m ∷ ms) room =
      let one = is_row place m in
      let at = one.place_is in
      let size = one.length_is in
      let whole = length-append (encoding m) (flat_map encoding ms) in
      All-cons (λ row. row.place + row.length ≤ n) (row_of place m)
      (rows_from row_of encoding (place + length (encoding m)) ms) (omega (arith, at, size, room, whole))
      (rows_within n (place + length (encoding m)) ms (omega (arith, room, whole)))

  -- no row is empty
  pub rows_filled : ((m : M) → 0 < length (encoding m)) → (place : ℕ) (ms : List M) →
      All (λ row. 0 < row.length) (rows_from row_of encoding place ms)
  rows_filled some place [] = All-nil (λ row. 0 < row.length)
  rows_filled some place (m ∷ ms) =
      let size = (is_row place m).length_is in
      let longer = some m in
      All-cons (λ row. 0 < row.length) (row_of place m) (rows_from row_of encoding (place + length (encoding m)) ms)
      (omega (arith, size, longer)) (rows_filled some (place + length (encoding m)) ms)

  -- the bytes of a row are its message
  row_bytes : (stream front rest : List ℕ) (m : M) → stream ≡ front ++ (encoding m ++ rest) →
      bytes_at stream (row_of (length front) m) ≡ encoding m
  row_bytes stream front rest m parts =
      let row = row_of (length front) m in
      let one = is_row (length front) m in
      ap (λ (n : ℕ). take n (drop row.place stream)) one.length_is ∙
      (ap (λ (n : ℕ). take (length (encoding m)) (drop n stream)) one.place_is ∙
      (ap (λ (s : List ℕ). take (length (encoding m)) (drop (length front) s)) parts ∙
      (ap (take (length (encoding m))) (drop-append_seam front (encoding m ++ rest)) ∙ take-append_seam (encoding m) rest)))

  -- the bytes of the rows of a class are its messages
  pub class_bytes : (class : Round → ℕ) (i : ℕ) (stream front rest : List ℕ) (ms : List M) →
      stream ≡ front ++ (flat_map encoding ms ++ rest) →
      flat_map (bytes_at stream) (rows_of_class class i (rows_from row_of encoding (length front) ms))
      ≡ flat_map encoding (of_class round class i ms)
  class_bytes class i stream front rest [] parts = refl
  class_bytes class i stream front rest (m ∷ ms) parts =
      let behind = front ++ encoding m in
      let split : stream ≡ front ++ (encoding m ++ (flat_map encoding ms ++ rest)) =
      parts ∙ ap (λ (t : List ℕ). front ++ t) (append_assoc (encoding m) (flat_map encoding ms) rest) in
      let others = class_bytes class i stream behind rest ms
      (split ∙ sym (append_assoc front (encoding m) (flat_map encoding ms ++ rest))) in
      let next : List Row = rows_of_class class i
      (rows_from row_of encoding (length front + length (encoding m)) ms) in
      let later : flat_map (bytes_at stream) next ≡ flat_map encoding (of_class round class i ms) =
      ap (λ (n : ℕ). flat_map (bytes_at stream) (rows_of_class class i (rows_from row_of encoding n ms)))
      (sym (length-append front (encoding m))) ∙ others in
      let row = row_of (length front) m in
      let here = row_bytes stream front (flat_map encoding ms ++ rest) m split in
      ap (λ (r : Round). flat_map (bytes_at stream) (cond (class r == i) (row ∷ next) next))
      (is_row (length front) m).round_is ∙ either (class (round m) == i) row next here later
    where
      either : (b : Bool) (row : Row) (next : List Row) → bytes_at stream row ≡ encoding m →
          flat_map (bytes_at stream) next ≡ flat_map encoding (of_class round class i ms) →
          flat_map (bytes_at stream) (cond b (row ∷ next) next)
          ≡ flat_map encoding (cond b (m ∷ of_class round class i ms) (of_class round class i ms))
      either true row next here later =
          ap (λ (t : List ℕ). t ++ flat_map (bytes_at stream) next) here ∙ ap (λ (t : List ℕ). encoding m ++ t) later
      either false row next here later = later

-- the messages end at the fault, or else with the stream
ends_there : {M : Type 0} (format : Format M) (stream rest : List ℕ) (ms : List M) (fault : Option Fault) →
    stream ≡ flat_map format.encoding ms ++ rest →
    IsFault format.reading (length (flat_map format.encoding ms)) rest fault →
    length (flat_map format.encoding ms) ≡ end_of fault (length stream)
ends_there format stream rest ms None whole none =
    let len = ap length whole in
    let end = ap length none in
    omega (arith, len, end, length-append (flat_map format.encoding ms) rest)
ends_there format stream rest ms (Some fault) whole here = sym here.1

module _ {M : Type 0} (format : Format M) (round : M → Round) (row_of : ℕ → M → Row)
    (is_row : (place : ℕ) (m : M) → IsRow round format.encoding place m (row_of place m)) where
  -- all rows of a stream were noted
  pub index_all : (stream rest : List ℕ) (read : ℕ) (stop : Option Error) (old new : Tabulator) (table : Table) →
      old.rows.items ≡ [] → old.place ≡ 0 →
      (p : IsProgress format (λ ms. Tabulates row_of format.encoding ms old new) stream rest read stop) →
      table.rows.items ≡ new.rows.items →
      IsFault format.reading (length (flat_map format.encoding p.messages)) rest table.fault →
      IsIndex format round row_of stream table
  index_all stream rest read stop old new table empty start p same fault =
      let ms = p.messages in
      let rows_are : table.rows.items ≡ rows_from row_of format.encoding 0 ms =
      same ∙ (p.recorded.rows_are ∙ (ap (λ (l : List Row). l ++ rows_from row_of format.encoding old.place ms) empty ∙
      ap (λ (n : ℕ). rows_from row_of format.encoding n ms) start)) in
      let whole = p.are_messages.whole in
      let len = ap length whole in
      record {
        messages = ms;
        rest = rest;
        are_messages = p.are_messages;
        rows_are = rows_are;
        fault_is = fault;
        ends = ap (λ (l : List Row). sum_by (λ row. row.length) l) rows_are ∙
            (lengths_add_up round format.encoding row_of is_row 0 ms ∙
            ends_there format stream rest ms table.fault whole fault);
        within = subst (λ (l : List Row). All (λ row. row.place + row.length ≤ length stream) l) (sym rows_are)
            (rows_within round format.encoding row_of is_row (length stream) 0 ms
            (omega (arith, len, length-append (flat_map format.encoding ms) rest)));
        bytes = λ class i. ap (λ (l : List Row). flat_map (bytes_at stream) (rows_of_class class i l)) rows_are ∙
            class_bytes round format.encoding row_of is_row class i stream [] rest ms whole;
      }
