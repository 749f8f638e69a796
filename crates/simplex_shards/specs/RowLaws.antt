-- Rows that are noted one after another.
use Rattle.std.proofs.Common.{◌≡◌, ℕ, ◌+◌, List, [], ◌∷◌, ◌++◌, length, sym, ap, ◌∙◌, arith, append_assoc, append-nil, length-append}
use Rattle.std.specs.List.{flat_map}
use Rattle.simplex_stream.specs.PlaceLaws.{place_behind}
use Rattle.simplex_shards.specs.Rows.{Tabulates, rows_from}
use Rattle.simplex_shards.specs.declared.index.Row.{Row}
use Rattle.simplex_shards.specs.declared.index.Tabulator.{Tabulator}

module _ {M : Type 0} (row_of : ℕ → M → Row) (encoding : M → List ℕ) where
  -- the rows of joined messages are those of the first, and then those of the others from behind them on
  pub rows_joined : (place : ℕ) (ms ks : List M) →
      rows_from row_of encoding place (ms ++ ks)
      ≡ rows_from row_of encoding place ms ++ rows_from row_of encoding (place + length (flat_map encoding ms)) ks
  rows_joined place [] ks = ap (λ (n : ℕ). rows_from row_of encoding n ks) (omega arith)
  rows_joined place (m ∷ ms) ks =
      let next = place + length (encoding m) in
      let at : next + length (flat_map encoding ms) ≡ place + length (encoding m ++ flat_map encoding ms) =
      omega (arith, length-append (encoding m) (flat_map encoding ms)) in
      ap (λ (rows : List Row). row_of place m ∷ rows) (rows_joined next ms ks ∙
      ap (λ (n : ℕ). rows_from row_of encoding next ms ++ rows_from row_of encoding n ks) at)

  -- no row was noted
  pub tabulates_none : (table : Tabulator) → Tabulates row_of encoding [] table table
  tabulates_none table = record { rows_are = sym (append-nil table.rows.items); place_is = omega arith }

  -- the row of one message more was noted
  pub tabulates_more : (ms : List M) (m : M) (a b c : Tabulator) → Tabulates row_of encoding ms a b →
      Tabulates row_of encoding (m ∷ []) b c → Tabulates row_of encoding (ms ++ m ∷ []) a c
  tabulates_more ms m a b c before one =
      let from : ℕ → List M → List Row = rows_from row_of encoding in
      record {
        rows_are = one.rows_are ∙ (ap (λ (l : List Row). l ++ from b.place (m ∷ [])) before.rows_are ∙
            (append_assoc a.rows.items (from a.place ms) (from b.place (m ∷ [])) ∙
            ap (λ (l : List Row). a.rows.items ++ l) (ap (λ (n : ℕ). from a.place ms ++ from n (m ∷ [])) before.place_is ∙
            sym (rows_joined a.place ms (m ∷ [])))));
        place_is = place_behind encoding a.place b.place c.place ms m before.place_is one.place_is;
      }
