-- Messages that are located one after another.
use Rattle.std.proofs.Common.{◌≡◌, ℕ, List, [], ◌∷◌, ◌++◌, refl, sym, ap, subst, ◌∙◌, arith, append_assoc, append-nil}
use Rattle.simplex_base.specs.Positions.{Round}
use Rattle.simplex_stream.specs.PlaceLaws.{place_behind}
use Rattle.simplex_shards.specs.Classes.{Locates}
use Rattle.simplex_shards.specs.Ranges.{AreRanges}
use Rattle.simplex_shards.specs.RowLaws.{rows_joined}
use Rattle.simplex_shards.specs.Rows.{rows_from}
use Rattle.simplex_shards.specs.declared.classes.Locator.{Locator}
use Rattle.simplex_shards.specs.declared.index.Row.{Row}

module _ {M : Type 0} (row_of : ℕ → M → Row) (encoding : M → List ℕ) (class : Round → ℕ) where
  -- no message was located
  pub locates_none : (state : Locator) → Locates row_of encoding class [] state state
  locates_none state = record {
    count = refl;
    place_is = omega arith;
    grown = λ i rows ranges at are. (
      ranges,
      at,
      subst (λ (l : List Row). AreRanges class i l ranges) (sym (append-nil rows)) are,
    );
  }

  -- one message more was located
  pub locates_more : (ms : List M) (m : M) (a b c : Locator) → Locates row_of encoding class ms a b →
      Locates row_of encoding class (m ∷ []) b c → Locates row_of encoding class (ms ++ m ∷ []) a c
  locates_more ms m a b c before one = record {
    count = one.count ∙ before.count;
    place_is = place_behind encoding a.place b.place c.place ms m before.place_is one.place_is;
    grown = λ i rows ranges at are.
        let from : ℕ → List M → List Row = rows_from row_of encoding in
        let middle = before.grown i rows ranges at are in
        let end = one.grown i (rows ++ from a.place ms) middle.0 middle.1 middle.2 in
        let joined : (rows ++ from a.place ms) ++ from b.place (m ∷ []) ≡ rows ++ from a.place (ms ++ m ∷ []) =
        append_assoc rows (from a.place ms) (from b.place (m ∷ [])) ∙
        ap (λ (l : List Row). rows ++ l) (ap (λ (n : ℕ). from a.place ms ++ from n (m ∷ [])) before.place_is ∙
        sym (rows_joined row_of encoding a.place ms (m ∷ []))) in (
          end.0,
          end.1,
          subst (λ (l : List Row). AreRanges class i l end.0) joined end.2,
        );
  }
