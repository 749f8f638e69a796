-- The bytes of a class's ranges.
use Rattle.std.proofs.Common.{◌≡◌, ◌+◌, ◌≤◌, ◌==◌, ℕ, Bool, true, false, cond, List, [], ◌∷◌, ◌++◌, length, drop, refl, sym, ap, subst, ◌∙◌, arith, length-append}
use Rattle.std.specs.Prelude.{All, filter}
use Rattle.std.specs.List.{flat_map, sum_by}
use Rattle.std.proofs.lemmas.List.{length-drop, length-take-le}
use Rattle.std.proofs.lemmas.List.Elements.{All-filter, All-head, All-tail}
use Rattle.std.proofs.lemmas.List.Sums.{sum_by-cons}
use Rattle.simplex_base.specs.Format.{Format}
use Rattle.simplex_base.specs.Positions.{Round}
use Rattle.simplex_stream.specs.Messages.{AreMessages}
use Rattle.simplex_stream.specs.StreamLaws.{IsNeverEmpty, are_joined}
use Rattle.simplex_shards.specs.Index.{IsIndex, bytes_at, rows_of_class}
use Rattle.simplex_shards.specs.Ranges.{ArePart, AreRanges, bytes_of_ranges, end_of_range, range_bytes}
use Rattle.simplex_shards.specs.Split.{of_class}
use Rattle.simplex_shards.specs.declared.index.Row.{Row}
use Rattle.simplex_shards.specs.declared.index.Table.{Table}
use Rattle.simplex_shards.specs.declared.ranges.Range.{Range}

-- the bytes of ranges within a stream are as many as their lengths add up to
lengths_add_up : (stream : List ℕ) (rs : List Range) → All (λ r. end_of_range r ≤ length stream) rs →
    length (flat_map (range_bytes stream) rs) ≡ sum_by (λ r. r.length) rs
lengths_add_up stream [] each = refl
lengths_add_up stream (r ∷ rs) each =
    let here = All-head (λ r. end_of_range r ≤ length stream) r rs each in
    let others = lengths_add_up stream rs (All-tail (λ r. end_of_range r ≤ length stream) r rs each) in
    let left = length-drop r.place stream in
    let one = length-take-le r.length (drop r.place stream) (omega (arith, here, left)) in
    omega (
      arith,
      one,
      others,
      length-append (range_bytes stream r) (flat_map (range_bytes stream) rs),
      sum_by-cons (λ (r : Range). r.length) r rs,
    )

-- some of the messages have no more bytes than all of them
no_longer : {M : Type 0} (encoding : M → List ℕ) (is : M → Bool) (ms : List M) →
    length (flat_map encoding (filter is ms)) ≤ length (flat_map encoding ms)
no_longer encoding is [] = omega arith
no_longer {M} encoding is (m ∷ ms) = either (is m) (no_longer encoding is ms)
  where
    either : (here : Bool) → length (flat_map encoding (filter is ms)) ≤ length (flat_map encoding ms) →
        length (flat_map encoding (cond here (m ∷ filter is ms) (filter is ms))) ≤ length (encoding m ++ flat_map encoding ms)
    either true others =
        omega (
          arith,
          others,
          length-append (encoding m) (flat_map encoding (filter is ms)),
          length-append (encoding m) (flat_map encoding ms),
        )
    either false others = omega (arith, others, length-append (encoding m) (flat_map encoding ms))

module _ {M : Type 0} (format : Format M) (round : M → Round) (some : IsNeverEmpty format) (class : Round → ℕ) (i : ℕ)
    (stream : List ℕ) where
  -- the ranges of a class's rows are its part, if the rows have the bytes of its messages
  pub part_of_rows : (ms : List M) (rest : List ℕ) (rows : List Row) (ranges : List Range) →
      AreMessages format stream ms rest → All (λ row. row.place + row.length ≤ length stream) rows →
      flat_map (bytes_at stream) (rows_of_class class i rows) ≡ flat_map format.encoding (of_class round class i ms) →
      AreRanges class i rows ranges → ArePart format round class i stream ranges
  part_of_rows ms rest rows ranges messages in_stream bytes are =
      let ks : List M = of_class round class i ms in
      let same : bytes_of_ranges stream ranges ≡ flat_map format.encoding ks = are.bytes stream ∙ bytes in
      let within = are.within (length stream) in_stream in
      record {
        messages = ms;
        rest = rest;
        are_messages = messages;
        part = subst (λ (bytes : List ℕ). AreMessages format bytes ks []) (sym same)
            (are_joined format some ks (All-filter (λ m. class (round m) == i) format.is_value ms messages.each));
        within = λ fits. record {
          each = within;
          few =
              let sum = lengths_add_up stream ranges within in
              let few = no_longer format.encoding (λ m. class (round m) == i) ms in
              let whole = ap length messages.whole in
              let joined = ap length same in
              omega (arith, fits, sum, few, whole, joined, length-append (flat_map format.encoding ms) rest);
        };
      }

  -- the ranges of a class of an index are its part
  pub part_of_ranges : (row_of : ℕ → M → Row) (table : Table) (ranges : List Range) →
      IsIndex format round row_of stream table → AreRanges class i table.rows.items ranges →
      ArePart format round class i stream ranges
  part_of_ranges row_of table ranges index are =
      part_of_rows index.messages index.rest table.rows.items ranges index.are_messages index.within (index.bytes class i) are
