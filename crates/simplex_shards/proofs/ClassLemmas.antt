-- One message that is located, and all messages of a stream.
use Rattle.std.proofs.Common.{◌≡◌, ◌+◌, ◌≤◌, ◌<◌, ◌==◌, if◌then◌else◌, ℕ, inl, inr, List, [], ◌∷◌, ◌++◌, length, length-drop, ◌-◌, take, drop, map, get_or, Some, Option, arith, refl, sym, ap, subst, ◌∙◌, length-append, append_assoc, append-nil}
use Rattle.std.specs.Prelude.{slice_get, slice_set, replicate, All, Vec}
use Rattle.std.specs.List.{flat_map}
use Rattle.std.specs.Global.{Global}
use Rattle.std.proofs.Math.Seq.{take-length}
use Rattle.std.proofs.lemmas.Grind.{flat_map-append}
use Rattle.std.proofs.lemmas.Bool.{cases_eq, cond-true, cond-false, eq-eqb, ne_eqb}
use Rattle.std.proofs.lemmas.List.{length-map}
use Rattle.std.proofs.lemmas.List.Elements.{All-nil, All-push}
use Rattle.std.proofs.lemmas.Option.{slice_get_within, same_Some}
use Rattle.simplex_base.specs.Format.{Format}
use Rattle.simplex_base.specs.Positions.{Round}
use Rattle.simplex_base.specs.declared.codec.error.Error.{Error}
use Rattle.simplex_stream.specs.Fault.{IsFault}
use Rattle.simplex_stream.specs.Progress.{IsProgress}
use Rattle.simplex_stream.specs.Messages.{IsStop, IsStuck}
use Rattle.simplex_stream.specs.StreamLaws.{IsNeverEmpty, front_dropped}
use Rattle.simplex_shards.specs.ClassLaws.{locates_more, locates_none}
use Rattle.simplex_shards.specs.Classes.{AreClassRanges, Locates, Notes, located, ranges_in}
use Rattle.simplex_shards.specs.Peek.{IsPeeked}
use Rattle.simplex_shards.specs.Ranges.{AreRanges, appended, range_of_row, with_row}
use Rattle.simplex_shards.specs.Rows.{IsRow, row_round, rows_from}
use Rattle.simplex_shards.specs.declared.classes.ClassRanges.{ClassRanges}
use Rattle.simplex_shards.specs.declared.classes.Locator.{Locator}
use Rattle.simplex_shards.specs.declared.index.Row.{Row}
use Rattle.simplex_shards.specs.declared.peek.Peeked.{Peeked}
use Rattle.simplex_shards.specs.declared.ranges.Range.{Range}
use Rattle.simplex_shards.proofs.IndexLemmas.{class_bytes, rows_filled, rows_within}
use Rattle.simplex_shards.proofs.PartBytes.{part_of_rows}
use Rattle.simplex_shards.proofs.RangeLemmas.{no_ranges, ranges_more}
use Rattle.simplex_shards.proofs.SplitLemmas.{all_within, empty_at, empty_count, length_set, view_at, view_before, view_beside}

-- the rest behind some bytes
pub taken : (n : ℕ) (bytes : List ℕ) → take (length bytes - n) (drop n bytes) ≡ drop n bytes
taken n bytes = ap (λ (k : ℕ). take k (drop n bytes)) (sym (length-drop n bytes)) ∙ take-length (drop n bytes)

module _ (class : Round → ℕ) (message : Peeked) where
  -- where the message stands, if it begins at a place
  abbrev pub there : ℕ → Range
  there place = record { place = place; length = message.length }

  abbrev view : Vec Range Global → List Range
  view v = v.items

  -- its range was noted in those of its class
  pub noted_one : (old new : Locator) (c : ℕ) (v w : Vec Range Global) → c ≡ class message.round →
      v ≡ get_or old.ranges.items c v → new.ranges.items ≡ slice_set old.ranges.items c w →
      w.items ≡ appended v.items (there old.place) → new.place ≡ old.place + message.length → Notes class message old new
  noted_one old new c v w is before set grown place = record {
    count = ap (λ (xs : List (Vec Range Global)). length (map view xs)) set ∙ length_set view old.ranges.items c w;
    place_is = place;
    grown = λ i ranges e.
        let put = ap (λ (xs : List (Vec Range Global)). slice_get (map view xs) i) set in
        elim (cases_eq c i) [
          | inl same ↦
              let at = subst (λ (j : ℕ). slice_get (located old) j ≡ Some ranges) (sym same) e in
              let here : w.items ≡ appended ranges (there old.place) =
              grown ∙ ap (λ (l : List Range). appended l (there old.place))
              (view_before view old.ranges.items c v ranges at before) in
              put ∙ (ap (slice_get (map view (slice_set old.ranges.items c w))) (sym same) ∙
              (view_at view old.ranges.items c w ranges at ∙
              ap (λ (l : List Range). Some l) (here ∙
              sym (cond-true (class message.round == i) _ _ (eq-eqb (class message.round) i (sym is ∙ same))))))
          | inr other ↦ put ∙ (view_beside view old.ranges.items c i w other ∙ (e ∙
              ap (λ (l : List Range). Some l)
              (sym (cond-false (class message.round == i) _ _ (ne_eqb (class message.round) i (λ same. other (is ∙ same)))))))
        ];
  }

  -- where there is no such class, no range was noted
  pub noted_past : (old new : Locator) (c : ℕ) → c ≡ class message.round → length old.ranges.items ≤ c →
      new.ranges.items ≡ old.ranges.items → new.place ≡ old.place + message.length → Notes class message old new
  noted_past old new c is past same place = record {
    count = ap (λ (xs : List (Vec Range Global)). length (map view xs)) same;
    place_is = place;
    grown = λ i ranges e.
        let within = slice_get_within (located old) i ranges e in
        let len = length-map old.ranges.items (λ (v : Vec Range Global). v.items) in
        let other : (class message.round ≡ i) → ⊥ = λ same. omega (arith, within, len, past, is, same) in
        ap (λ (xs : List (Vec Range Global)). slice_get (map view xs) i) same ∙ (e ∙
        ap (λ (l : List Range). Some l)
        (sym (cond-false (class message.round == i) _ _ (ne_eqb (class message.round) i other))));
  }

module _ {M : Type 0} (round : M → Round) (row_of : ℕ → M → Row) (encoding : M → List ℕ)
    (is_row : (place : ℕ) (m : M) → IsRow round encoding place m (row_of place m)) (class : Round → ℕ) where
  -- a message of which the round and the length are known was located
  pub noted_located : (message : Peeked) (m : M) (old new : Locator) → round m ≡ message.round →
      length (encoding m) ≡ message.length → Notes class message old new → Locates row_of encoding class (m ∷ []) old new
  noted_located message m old new same size noted = record {
    count = noted.count;
    place_is = noted.place_is ∙ ap (λ (n : ℕ). old.place + n) (sym size ∙ ap length (sym (append-nil (encoding m))));
    grown = λ i rows ranges e are.
        let row = row_of old.place m in
        let one = is_row old.place m in
        let range : range_of_row row ≡ there class message old.place =
        ap (λ (p : ℕ). record { place = p; length = row.length }) one.place_is ∙
        ap (λ (n : ℕ). record { place = old.place; length = n }) (one.length_is ∙ size) in
        let further = if class message.round == i then appended ranges (there class message old.place) else ranges in
        let row_is : further ≡ with_row class i ranges row =
        ap (λ (r : Round). if class r == i then appended ranges (there class message old.place) else ranges)
        (sym (one.round_is ∙ same)) ∙
        ap (λ (r : Range). if class (row_round row) == i then appended ranges r else ranges) (sym range) in
        (further, noted.grown i ranges e, ranges_more class i rows row ranges further are row_is);
  }

module _ {M : Type 0} (format : Format M) (round : M → Round) (row_of : ℕ → M → Row)
    (is_row : (place : ℕ) (m : M) → IsRow round format.encoding place m (row_of place m)) (class : Round → ℕ)
    (stream : List ℕ) (old : Locator) where
  abbrev encoded : List M → List ℕ
  encoded = flat_map format.encoding

  -- of the stream so many messages were read and located, up to the rest
  pub record SoFar (new : Locator) (rest : List ℕ) (read : ℕ) : Type 0 where
    pub messages : List M
    pub whole : stream ≡ flat_map format.encoding messages ++ rest
    pub each : All format.is_value messages
    pub read_is : read ≡ length messages
    pub room : read + length rest ≤ length stream
    pub are_located : Locates row_of format.encoding class messages old new

  pub so_far_start : SoFar old stream 0
  so_far_start = record {
    messages = [];
    whole = refl;
    each = All-nil format.is_value;
    read_is = refl;
    room = omega arith;
    are_located = locates_none row_of format.encoding class old;
  }

  module _ (middle : Locator) (rest : List ℕ) (read : ℕ) (message : Peeked) (far : SoFar middle rest read)
      (p : IsPeeked format.is_value format.encoding round rest message) where
    -- the message is no longer than the rest
    pub peeked_within : length rest ≡ message.length + length p.rest
    peeked_within = ap length p.encoded.parts ∙ (length-append (format.encoding p.message) p.rest
        ∙ ap (λ (n : ℕ). n + length p.rest) p.length_is)

    peeked_behind : drop message.length rest ≡ p.rest
    peeked_behind = front_dropped (format.encoding p.message) p.rest rest message.length p.encoded.parts (sym peeked_within)

    -- where it ends is within the stream
    pub peeked_room : old.place ≡ 0 → middle.place + message.length ≤ length stream
    peeked_room start =
        let whole = ap length far.whole in
        let within = peeked_within in
        let place = far.are_located.place_is in
        omega (arith, start, whole, within, place, length-append (encoded far.messages) rest)

    -- less is left behind it
    pub peeked_shorter : (behind : List ℕ) → IsNeverEmpty format → behind ≡ drop message.length rest →
        length behind < length rest
    peeked_shorter behind some same =
        let longer = some p.message in
        let within = peeked_within in
        let size = p.length_is in
        let left = ap length (same ∙ peeked_behind) in
        omega (arith, longer, within, size, left)

    -- it was located
    pub so_far_next : (new : Locator) (behind : List ℕ) → IsNeverEmpty format → Notes class message middle new →
        behind ≡ drop message.length rest → SoFar new behind (read + 1)
    so_far_next new behind some noted same =
        let m = p.message in
        let after : behind ≡ p.rest = same ∙ peeked_behind in
        let longer = some m in
        let within = peeked_within in
        let size = p.length_is in
        let room = far.room in
        let left = ap length after in
        let joined : encoded (far.messages ++ m ∷ []) ≡ encoded far.messages ++ format.encoding m =
        flat_map-append format.encoding far.messages (m ∷ []) ∙
        ap (λ (t : List ℕ). encoded far.messages ++ t) (append-nil (format.encoding m)) in
        record {
          messages = far.messages ++ m ∷ [];
          whole = far.whole ∙ (ap (λ (t : List ℕ). encoded far.messages ++ t)
              (p.encoded.parts ∙ ap (λ (t : List ℕ). format.encoding m ++ t) (sym after)) ∙
              (sym (append_assoc (encoded far.messages) (format.encoding m) behind) ∙
              ap (λ (t : List ℕ). t ++ behind) (sym joined)));
          each = All-push format.is_value far.messages m far.each p.encoded.value;
          read_is = ap (λ (n : ℕ). n + 1) far.read_is ∙ sym (length-append far.messages (m ∷ []));
          room = omega (arith, longer, within, size, room, left);
          are_located = locates_more row_of format.encoding class far.messages m old middle new far.are_located
              (noted_located round row_of format.encoding is_row class message m middle new p.round_is p.length_is noted);
        }

  -- no message is left
  pub so_far_end : (new : Locator) (rest : List ℕ) (read : ℕ) (stop : Option Error) → SoFar new rest read →
      IsStuck format rest → IsStop format.reading rest stop →
      IsProgress format (λ ms. Locates row_of format.encoding class ms old new) stream rest read stop
  so_far_end new rest read stop far stuck stopped = record {
    messages = far.messages;
    are_messages = record { whole = far.whole; each = far.each; stuck = stuck };
    read_is = far.read_is;
    stop_is = stopped;
    recorded = far.are_located;
  }

  -- where they end
  pub so_far_place : (new : Locator) (rest : List ℕ) (read : ℕ) → old.place ≡ 0 → SoFar new rest read →
      new.place + length rest ≡ length stream
  so_far_place new rest read start far =
      let whole = ap length far.whole in
      let place = far.are_located.place_is in
      omega (arith, start, whole, place, length-append (encoded far.messages) rest)

-- what was noted of a stream are the ranges of its classes
pub located_all : {M : Type 0} (format : Format M) (round : M → Round) (row_of : ℕ → M → Row) →
    ((place : ℕ) (m : M) → IsRow round format.encoding place m (row_of place m)) → IsNeverEmpty format →
    (class : Round → ℕ) (classes : ℕ) → ((r : Round) → class r < classes) → (stream rest : List ℕ) (read : ℕ)
    (stop : Option Error) (old new : Locator) (found : ClassRanges) → located old ≡ replicate classes [] → old.place ≡ 0 →
    (p : IsProgress format (λ ms. Locates row_of format.encoding class ms old new) stream rest read stop) →
    found.read ≡ read → ranges_in found ≡ located new →
    IsFault format.reading (length (flat_map format.encoding p.messages)) rest found.fault →
    AreClassRanges format round row_of class classes stream found
located_all format round row_of is_row some class classes below stream rest read stop old new found empty start p read_is same
    fault =
    let ms = p.messages in
    let len = ap length p.are_messages.whole in
    let count : length (located new) ≡ classes = p.recorded.count ∙ (ap length empty ∙ empty_count Range classes) in
    let rows : List Row = rows_from row_of format.encoding 0 ms in
    record {
      messages = ms;
      rest = rest;
      are_messages = p.are_messages;
      read_is = read_is ∙ p.read_is;
      fault_is = fault;
      count = ap length same ∙ count;
      one = all_within round class classes below ms;
      each = λ i ranges e.
          let at = ap (λ (xs : List (List Range)). slice_get xs i) (sym same) ∙ e in
          let in_range = slice_get_within (located new) i ranges at in
          let begun = ap (λ (xs : List (List Range)). slice_get xs i) empty ∙
          empty_at classes i (omega (arith, in_range, count)) in
          let grown = p.recorded.grown i [] [] begun (no_ranges class i) in
          let are : AreRanges class i rows ranges =
          subst (AreRanges class i rows) (same_Some _ _ (sym grown.1 ∙ at))
          (subst (λ (n : ℕ). AreRanges class i (rows_from row_of format.encoding n ms) grown.0) start grown.2) in (
            part_of_rows format round some class i stream ms rest rows ranges p.are_messages
                (rows_within round format.encoding row_of is_row (length stream) 0 ms
                (omega (arith, len, length-append (flat_map format.encoding ms) rest)))
                (class_bytes round format.encoding row_of is_row class i stream [] rest ms p.are_messages.whole) are,
            are,
            are.filled (rows_filled round format.encoding row_of is_row some 0 ms),
          );
    }
