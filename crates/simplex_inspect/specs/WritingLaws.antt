-- Lines that are written one after another.
use Rattle.std.proofs.Common.{◌≡◌, ℕ, ◌+◌, List, [], ◌∷◌, ◌++◌, length, sym, ap, ◌∙◌, arith, append_assoc, append-nil, length-append, string_bytes}
use Rattle.std.specs.List.{flat_map}
use Rattle.simplex_stream.specs.PlaceLaws.{place_behind}
use Rattle.simplex_inspect.specs.Inspected.{Lines, lines_from}
use Rattle.simplex_inspect.specs.Writing.{WritesLines}
use Rattle.simplex_inspect.specs.declared.reading.LineWriter.{LineWriter}

-- the lines of messages and of further ones
pub lines_append : {M : Type 0} (line : ℕ → ℕ → M → List ℕ) (encoding : M → List ℕ) (offset : ℕ) (ms ks : List M) →
    lines_from line encoding offset (ms ++ ks) ≡
    lines_from line encoding offset ms ++ lines_from line encoding (offset + length (flat_map encoding ms)) ks
lines_append line encoding offset [] ks = ap (λ (n : ℕ). lines_from line encoding n ks) (omega arith)
lines_append {M} line encoding offset (m ∷ ms) ks =
    let from : ℕ → List M → List ℕ = lines_from line encoding in
    let here = line offset (length (encoding m)) m in
    let behind = offset + length (encoding m) in
    let at : behind + length (flat_map encoding ms) ≡ offset + length (encoding m ++ flat_map encoding ms) =
    omega (arith, length-append (encoding m) (flat_map encoding ms)) in
    ap (λ (t : List ℕ). here ++ t) (lines_append line encoding behind ms ks)
    ∙ (sym (append_assoc here (from behind ms) (from (behind + length (flat_map encoding ms)) ks))
    ∙ ap (λ (n : ℕ). (here ++ from behind ms) ++ from n ks) at)

module _ {M : Type 0} (lines : Lines M) where
  -- no line was written
  pub writes_none : (state : LineWriter) → WritesLines lines [] state state
  writes_none state = record { text_is = sym (append-nil (string_bytes state.text)); offset_is = omega arith }

  -- one line more was written
  pub writes_more : (ms : List M) (m : M) (a b c : LineWriter) →
      WritesLines lines ms a b → WritesLines lines (m ∷ []) b c → WritesLines lines (ms ++ m ∷ []) a c
  writes_more ms m a b c before one =
      let encoding : M → List ℕ = lines.format.encoding in
      let from : ℕ → List M → List ℕ = lines_from lines.line encoding in
      let at = before.offset_is in
      record {
        text_is = one.text_is ∙ (ap (λ (t : List ℕ). t ++ from b.offset (m ∷ [])) before.text_is ∙
            (append_assoc (string_bytes a.text) (from a.offset ms) (from b.offset (m ∷ [])) ∙
            ap (λ (t : List ℕ). string_bytes a.text ++ t)
            (ap (λ (n : ℕ). from a.offset ms ++ from n (m ∷ [])) at ∙
            sym (lines_append lines.line encoding a.offset ms (m ∷ [])))));
        offset_is = place_behind encoding a.offset b.offset c.offset ms m at one.offset_is;
      }
