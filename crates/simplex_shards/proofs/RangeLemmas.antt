-- Ranges that are joined where they meet.
use Rattle.std.proofs.Common.{◌≡◌, ◌+◌, ◌≤◌, ◌<◌, ◌==◌, ◌^◌, ◌-◌, ℕ, zero, suc, Bool, true, false, cond, inl, inr, List, [], ◌∷◌, ◌++◌, length, take, drop, get_or, Some, refl, sym, ap, subst, ◌∙◌, arith, append_assoc, append-nil}
use Rattle.std.specs.Prelude.{All, slice_get, slice_set}
use Rattle.std.specs.List.{flat_map}
use Rattle.std.proofs.lemmas.Bool.{cases_Bool, cond-true, cond-false, eq-eqb, eqb-true, eqb-false, ne_eqb}
use Rattle.std.proofs.lemmas.Grind.{flat_map-append}
use Rattle.std.proofs.lemmas.List.{drop-drop}
use Rattle.std.proofs.lemmas.Option.{get_or_from_slice_get, slice_get_within}
use Rattle.std.proofs.lemmas.List.Elements.{All-append, All-cons, All-head, All-nil, All-tail, filter-append}
use Rattle.std.proofs.Math.Seq.{take-add}
use Rattle.simplex_base.specs.Positions.{Round}
use Rattle.simplex_shards.specs.Index.{bytes_at, rows_of_class}
use Rattle.simplex_shards.specs.Ranges.{AreApart, AreApartFrom, AreRanges, appended, end_of_range, is_next, joined, range_bytes, range_of_row, with_row}
use Rattle.simplex_shards.specs.Rows.{row_round}
use Rattle.simplex_shards.specs.declared.index.Row.{Row}
use Rattle.simplex_shards.specs.declared.ranges.Range.{Range}

-- ---- what the code does with the last range

-- a range that does not begin where the last one ends is appended
append_apart : (rs : List Range) (k : ℕ) (last r : Range) → suc k ≡ length rs → last ≡ get_or rs k last →
    is_next last r ≡ false → appended rs r ≡ rs ++ r ∷ []
append_apart [] k last r len at apart = refl
append_apart (x ∷ []) zero last r len at apart =
    cond-false (is_next x r) _ _ (ap (λ (y : Range). is_next y r) (sym at) ∙ apart)
append_apart (x ∷ []) (suc k) last r len at apart = absurd (omega (arith, len))
append_apart (x ∷ y ∷ rs) zero last r len at apart = absurd (omega (arith, len))
append_apart (x ∷ y ∷ rs) (suc k) last r len at apart =
    ap (λ (xs : List Range). x ∷ xs) (append_apart (y ∷ rs) k last r (omega (arith, len)) at apart)

-- one that does is joined to it
append_next : (rs : List Range) (k : ℕ) (last r : Range) → suc k ≡ length rs → last ≡ get_or rs k last →
    is_next last r ≡ true → appended rs r ≡ slice_set rs k (joined last r)
append_next [] k last r len at next = absurd (omega (arith, len))
append_next (x ∷ []) zero last r len at next =
    cond-true (is_next x r) _ _ (ap (λ (y : Range). is_next y r) (sym at) ∙ next)
    ∙ ap (λ (y : Range). joined y r ∷ []) (sym at)
append_next (x ∷ []) (suc k) last r len at next = absurd (omega (arith, len))
append_next (x ∷ y ∷ rs) zero last r len at next = absurd (omega (arith, len))
append_next (x ∷ y ∷ rs) (suc k) last r len at next =
    ap (λ (xs : List Range). x ∷ xs) (append_next (y ∷ rs) k last r (omega (arith, len)) at next)

-- the last range, as the code reads it
count_of : (rs : List Range) (last : Range) → Some last ≡ slice_get rs (length rs - 1) → suc (length rs - 1) ≡ length rs
count_of rs last e =
    let within = slice_get_within rs (length rs - 1) last (sym e) in
    omega (arith, within)

pub pushed_apart : (rs : List Range) (last r : Range) → Some last ≡ slice_get rs (length rs - 1) →
    (end_of_range last ≡ r.place → ⊥) → rs ++ r ∷ [] ≡ appended rs r
pushed_apart rs last r e apart =
    sym (append_apart rs (length rs - 1) last r (count_of rs last e)
    (sym (get_or_from_slice_get rs (length rs - 1) last last (sym e))) (ne_eqb (end_of_range last) r.place apart))

pub pushed_next : (rs : List Range) (last r : Range) → Some last ≡ slice_get rs (length rs - 1) →
    end_of_range last ≡ r.place → slice_set rs (length rs - 1) (joined last r) ≡ appended rs r
pushed_next rs last r e next =
    sym (append_next rs (length rs - 1) last r (count_of rs last e)
    (sym (get_or_from_slice_get rs (length rs - 1) last last (sym e))) (eq-eqb (end_of_range last) r.place next))

-- ---- what that leaves

-- joined ranges have the bytes of both
joined_bytes : (stream : List ℕ) (a b : Range) → is_next a b ≡ true →
    range_bytes stream (joined a b) ≡ range_bytes stream a ++ range_bytes stream b
joined_bytes stream a b next =
    take-add a.length b.length (drop a.place stream)
    ∙ ap (λ (t : List ℕ). range_bytes stream a ++ take b.length t)
    (drop-drop a.length a.place stream ∙ ap (λ (n : ℕ). drop n stream) (eqb-true (end_of_range a) b.place next))

appended_bytes : (stream : List ℕ) (rs : List Range) (r : Range) →
    flat_map (range_bytes stream) (appended rs r) ≡ flat_map (range_bytes stream) rs ++ range_bytes stream r
appended_bytes stream [] r = append-nil (range_bytes stream r)
appended_bytes stream (x ∷ []) r = elim (cases_Bool (is_next x r)) [
  | inl next ↦ ap (flat_map (range_bytes stream)) (cond-true (is_next x r) _ _ next)
      ∙ (append-nil _ ∙ (joined_bytes stream x r next
      ∙ ap (λ (t : List ℕ). t ++ range_bytes stream r) (sym (append-nil (range_bytes stream x)))))
  | inr apart ↦ ap (flat_map (range_bytes stream)) (cond-false (is_next x r) _ _ apart)
      ∙ (ap (λ (t : List ℕ). range_bytes stream x ++ t) (append-nil (range_bytes stream r))
      ∙ ap (λ (t : List ℕ). t ++ range_bytes stream r) (sym (append-nil (range_bytes stream x))))
]
appended_bytes stream (x ∷ y ∷ rs) r =
    ap (λ (t : List ℕ). range_bytes stream x ++ t) (appended_bytes stream (y ∷ rs) r)
    ∙ sym (append_assoc (range_bytes stream x) (flat_map (range_bytes stream) (y ∷ rs)) (range_bytes stream r))

apart_from : (place : ℕ) (x : Range) (rs : List Range) (r : Range) → AreApartFrom place (x ∷ rs) →
    AreApartFrom place (appended (x ∷ rs) r)
apart_from place x [] r h = elim (cases_Bool (is_next x r)) [
  | inl next ↦ subst (AreApartFrom place) (sym (cond-true (is_next x r) _ _ next)) (h.0, h.1)
  | inr apart ↦ subst (AreApartFrom place) (sym (cond-false (is_next x r) _ _ apart))
      (h.0, (eqb-false (end_of_range x) r.place apart, tt))
]
apart_from place x (y ∷ rs) r h = (h.0, apart_from (end_of_range x) y rs r h.1)

appended_apart : (rs : List Range) (r : Range) → AreApart rs → AreApart (appended rs r)
appended_apart [] r h = h
appended_apart (x ∷ []) r h = elim (cases_Bool (is_next x r)) [
  | inl next ↦ subst AreApart (sym (cond-true (is_next x r) _ _ next)) h
  | inr apart ↦ subst AreApart (sym (cond-false (is_next x r) _ _ apart)) (eqb-false (end_of_range x) r.place apart, tt)
]
appended_apart (x ∷ y ∷ rs) r h = apart_from (end_of_range x) y rs r h

-- what holds of ranges, of a further one, and of joined ones
appended_each : (P : Range → Type 0) → ((x r : Range) → is_next x r ≡ true → P x → P r → P (joined x r)) →
    (rs : List Range) (r : Range) → All P rs → P r → All P (appended rs r)
appended_each P join [] r each one = All-cons P r [] one (All-nil P)
appended_each P join (x ∷ []) r each one = elim (cases_Bool (is_next x r)) [
  | inl next ↦ subst (All P) (sym (cond-true (is_next x r) _ _ next))
      (All-cons P (joined x r) [] (join x r next (All-head P x [] each) one) (All-nil P))
  | inr apart ↦ subst (All P) (sym (cond-false (is_next x r) _ _ apart))
      (All-append P (x ∷ []) (r ∷ []) each (All-cons P r [] one (All-nil P)))
]
appended_each P join (x ∷ y ∷ rs) r each one =
    All-cons P x (appended (y ∷ rs) r) (All-head P x (y ∷ rs) each)
    (appended_each P join (y ∷ rs) r (All-tail P x (y ∷ rs) each) one)

-- where the later of joined ranges ends both end
joined_within : (n : ℕ) (x r : Range) → is_next x r ≡ true → end_of_range x ≤ n → end_of_range r ≤ n →
    end_of_range (joined x r) ≤ n
joined_within n x r next first one =
    let same = eqb-true (end_of_range x) r.place next in
    omega (arith, same, one)

joined_filled : (x r : Range) → is_next x r ≡ true → 0 < x.length → 0 < r.length → 0 < (joined x r).length
joined_filled x r next first one = omega (arith, first, one)

-- ---- row after row

module _ (class : Round → ℕ) (i : ℕ) where
  pub no_ranges : AreRanges class i [] []
  no_ranges = record {
    bytes = λ stream. refl;
    apart = tt;
    within = λ n each. All-nil (λ r. end_of_range r ≤ n);
    filled = λ each. All-nil (λ r. 0 < r.length);
  }

  -- the row after some rows, whose class is here
  after : (rows : List Row) (row : Row) (here : Bool) → (class (row_round row) == i) ≡ here →
      rows_of_class class i (rows ++ row ∷ []) ≡ rows_of_class class i rows ++ cond here (row ∷ []) []
  after rows row here is =
      filter-append (λ (x : Row). class (row_round x) == i) rows (row ∷ [])
      ∙ ap (λ (b : Bool). rows_of_class class i rows ++ cond b (row ∷ []) []) is

  each_before : (P : Row → Type 0) (rows : List Row) (row : Row) → All P (rows ++ row ∷ []) → All P rows × P row
  each_before P [] row each = (All-nil P, All-head P row [] each)
  each_before P (x ∷ rows) row each =
      let others = each_before P rows row (All-tail P x (rows ++ row ∷ []) each) in
      (All-cons P x rows (All-head P x (rows ++ row ∷ []) each) others.0, others.1)

  -- one row more
  pub ranges_more : (rows : List Row) (row : Row) (rs new : List Range) → AreRanges class i rows rs →
      new ≡ with_row class i rs row → AreRanges class i (rows ++ row ∷ []) new
  ranges_more rows row rs new before same = elim (cases_Bool (class (row_round row) == i)) [
    | inl here ↦ subst (AreRanges class i (rows ++ row ∷ []))
        (sym (same ∙ cond-true (class (row_round row) == i) _ _ here)) (record {
          bytes = λ stream. appended_bytes stream rs (range_of_row row)
              ∙ (ap (λ (t : List ℕ). t ++ bytes_at stream row) (before.bytes stream)
              ∙ (ap (λ (t : List ℕ). flat_map (bytes_at stream) (rows_of_class class i rows) ++ t)
              (sym (append-nil (bytes_at stream row)))
              ∙ (sym (flat_map-append (bytes_at stream) (rows_of_class class i rows) (row ∷ []))
              ∙ ap (flat_map (bytes_at stream)) (sym (after rows row true here)))));
          apart = appended_apart rs (range_of_row row) before.apart;
          within = λ n each.
              let parts = each_before (λ x. x.place + x.length ≤ n) rows row each in
              appended_each (λ r. end_of_range r ≤ n) (joined_within n) rs (range_of_row row) (before.within n parts.0) parts.1;
          filled = λ each.
              let parts = each_before (λ x. 0 < x.length) rows row each in
              appended_each (λ r. 0 < r.length) joined_filled rs (range_of_row row) (before.filled parts.0) parts.1;
        })
    | inr other ↦ subst (AreRanges class i (rows ++ row ∷ []))
        (sym (same ∙ cond-false (class (row_round row) == i) _ _ other)) (record {
          bytes = λ stream. before.bytes stream
              ∙ ap (flat_map (bytes_at stream))
              (sym (after rows row false other ∙ append-nil (rows_of_class class i rows)));
          apart = before.apart;
          within = λ n each. before.within n (each_before (λ x. x.place + x.length ≤ n) rows row each).0;
          filled = λ each. before.filled (each_before (λ x. 0 < x.length) rows row each).0;
        })
  ]
