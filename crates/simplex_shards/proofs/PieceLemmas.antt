-- The rows and the parts of the messages that a piece completes.
use Rattle.std.proofs.Common.{◌≡◌, ◌+◌, ◌≤◌, ◌<◌, ◌==◌, ℕ, zero, suc, List, [], ◌∷◌, ◌++◌, length, Some, refl, sym, ap, subst, ◌∙◌, arith, length-append}
use Rattle.std.specs.Prelude.{All, replicate, slice_get}
use Rattle.std.specs.List.{flat_map}
use Rattle.std.proofs.lemmas.Grind.{flat_map-append}
use Rattle.std.proofs.lemmas.List.Elements.{All-append, All-drop, All-nil, filter-append}
use Rattle.std.proofs.Math.Seq.{drop-append_seam}
use Rattle.std.proofs.lemmas.Option.{same_Some, slice_get_within}
use Rattle.simplex_base.specs.Format.{Format, IsLawful}
use Rattle.simplex_base.specs.Positions.{Round}
use Rattle.simplex_stream.specs.Decoder.{DecodesMore, HasDecoded, undecoded}
use Rattle.simplex_stream.specs.Messages.{AreMessages}
use Rattle.simplex_stream.specs.StreamLaws.{IsNeverEmpty, are_joined, messages_of_pieces, messages_once}
use Rattle.simplex_shards.proofs.IndexLemmas.{rows_within}
use Rattle.simplex_shards.proofs.SplitLemmas.{empty_at, empty_count, scattered}
use Rattle.simplex_shards.specs.Pieces.{IndexesMore, JoinsParts, SplitsMore, bound_of, decoder_of, joined}
use Rattle.simplex_shards.specs.Rows.{IsRow, Tabulates, rows_from}
use Rattle.simplex_shards.specs.Split.{AreParts, Scatters, bytes_of, of_class, parts_of}
use Rattle.simplex_shards.specs.declared.index.Row.{Row}
use Rattle.simplex_shards.specs.declared.index.Tabulator.{Tabulator}
use Rattle.simplex_shards.specs.declared.pieces.Cutter.{Cutter}
use Rattle.simplex_shards.specs.declared.split.Scatter.{Scatter}

module _ {M : Type 0} (format : Format M) (round : M → Round) (row_of : ℕ → M → Row)
    (is_row : (place : ℕ) (m : M) → IsRow round format.encoding place m (row_of place m)) where
  -- the rows of a piece were noted
  pub index_piece : (piece : List ℕ) (old new : Cutter) (before after : Tabulator) →
      bound_of new ≡ bound_of old → before.rows.items ≡ [] →
      ((stream : List ℕ) (ms : List M) → HasDecoded format stream ms (decoder_of old) →
      before.place ≡ length (flat_map format.encoding ms)) →
      DecodesMore format (λ ms. Tabulates row_of format.encoding ms before after) piece (decoder_of old) (decoder_of new) →
      IndexesMore format round row_of piece old new after.rows.items
  index_piece piece old new before after bound empty start decodes = record {
    bound_is = bound;
    more = λ stream ms held.
        let d = decodes stream ms held in
        let at = start stream ms held in
        let rows_are : after.rows.items ≡ rows_from row_of format.encoding (length (flat_map format.encoding ms)) d.0 =
        d.2.rows_are ∙ (ap (λ (l : List Row). l ++ rows_from row_of format.encoding before.place d.0) empty ∙
        ap (λ (n : ℕ). rows_from row_of format.encoding n d.0) at) in
        let len = ap length (d.1.are_messages.whole ∙ ap (λ (t : List ℕ). t ++ undecoded (decoder_of new))
        (flat_map-append format.encoding ms d.0)) in
        let within = rows_within round format.encoding row_of is_row (length (stream ++ piece))
        (length (flat_map format.encoding ms)) d.0
        (omega (
          arith,
          len,
          length-append (flat_map format.encoding ms ++ flat_map format.encoding d.0)
              (undecoded (decoder_of new)),
          length-append (flat_map format.encoding ms) (flat_map format.encoding d.0),
        )) in (
          d.0,
          d.1,
          rows_are,
          subst (λ (l : List Row). All (λ row. row.place + row.length ≤ length (stream ++ piece)) l)
              (sym rows_are) within,
        );
  }

-- ---- parts

joined_count : (xs ys : List (List ℕ)) → length xs ≡ length ys → length (joined xs ys) ≡ length xs
joined_count [] ys same = refl
joined_count (x ∷ xs) [] same = absurd (omega (arith, same))
joined_count (x ∷ xs) (y ∷ ys) same = ap suc (joined_count xs ys (omega (arith, same)))

pub record JoinedAt (xs ys : List (List ℕ)) (i : ℕ) (part : List ℕ) : Type 0 where
  pub front : List ℕ
  pub back : List ℕ
  pub first : slice_get xs i ≡ Some front
  pub second : slice_get ys i ≡ Some back
  pub both : part ≡ front ++ back

joined_at : (xs ys : List (List ℕ)) (i : ℕ) (part : List ℕ) → slice_get (joined xs ys) i ≡ Some part → JoinedAt xs ys i part
joined_at [] ys i part e = absurd cc
joined_at (x ∷ xs) [] i part e = absurd cc
joined_at (x ∷ xs) (y ∷ ys) zero part e =
    record { front = x; back = y; first = refl; second = refl; both = sym (same_Some (x ++ y) part e) }
joined_at (x ∷ xs) (y ∷ ys) (suc i) part e =
    let at = joined_at xs ys i part e in
    record { front = at.front; back = at.back; first = at.first; second = at.second; both = at.both }

same_parts : (xs ys : List (List ℕ)) → length xs ≡ length ys →
    ((i : ℕ) (x y : List ℕ) → slice_get xs i ≡ Some x → slice_get ys i ≡ Some y → x ≡ y) → xs ≡ ys
same_parts [] [] len each = refl
same_parts [] (y ∷ ys) len each = absurd (omega (arith, len))
same_parts (x ∷ xs) [] len each = absurd (omega (arith, len))
same_parts (x ∷ xs) (y ∷ ys) len each =
    ap (λ (l : List ℕ). l ∷ xs) (each zero x y refl refl)
    ∙ ap (λ (l : List (List ℕ)). y ∷ l) (same_parts xs ys (omega (arith, len)) (λ i. each (suc i)))

module _ {M : Type 0} (format : Format M) (round : M → Round) (class : Round → ℕ) (classes : ℕ) where
  -- no message has empty parts
  pub no_parts : IsNeverEmpty format → AreParts format round class classes [] (replicate classes [])
  no_parts some = record {
    count = empty_count ℕ classes;
    one = All-nil (λ m. class (round m) < classes);
    each = λ i part e.
        let in_range = slice_get_within (replicate {A = List ℕ} classes []) i part e in
        let empty = empty_at classes i (omega (arith, in_range, empty_count ℕ classes)) in
        subst (λ (bytes : List ℕ). AreMessages format bytes [] []) (same_Some [] part (sym empty ∙ e))
        (are_joined format some [] (All-nil format.is_value));
  }

  -- the parts of joined messages are those of both, joined
  parts_joined : (ms ks : List M) (parts further : List (List ℕ)) → AreParts format round class classes ms parts →
      AreParts format round class classes ks further → AreParts format round class classes (ms ++ ks) (joined parts further)
  parts_joined ms ks parts further before more = record {
    count = joined_count parts further (before.count ∙ sym more.count) ∙ before.count;
    one = All-append (λ m. class (round m) < classes) ms ks before.one more.one;
    each = λ i part e.
        let at = joined_at parts further i part e in
        let own : List M → List M = of_class round class i in
        let whole = messages_of_pieces format at.front at.back [] [] (own ms) (own ks)
        (before.each i at.front at.first) (more.each i at.back at.second) in
        subst (λ (xs : List M). AreMessages format part xs []) (sym (filter-append (λ m. class (round m) == i) ms ks))
        (subst (λ (bytes : List ℕ). AreMessages format bytes (own ms ++ own ks) []) (sym at.both) whole);
  }

  -- messages have one list of parts
  parts_once : (ms : List M) (parts others : List (List ℕ)) → AreParts format round class classes ms parts →
      AreParts format round class classes ms others → parts ≡ others
  parts_once ms parts others one other =
      same_parts parts others (one.count ∙ sym other.count) (λ i x y here there.
      (one.each i x here).whole ∙ sym (other.each i y there).whole)

  -- the parts of a piece were appended to empty ones
  pub split_piece : (piece : List ℕ) (old new : Cutter) (before after : Scatter) → IsNeverEmpty format →
      ((r : Round) → class r < classes) → bound_of new ≡ bound_of old → parts_of before ≡ replicate classes [] →
      DecodesMore format (λ ms. Scatters round class format.encoding ms before after) piece (decoder_of old) (decoder_of new) →
      SplitsMore format round class classes piece old new (parts_of after)
  split_piece piece old new before after some within bound empty decodes = record {
    bound_is = bound;
    more = λ stream ms held.
        let d = decodes stream ms held in
        let each = subst (All format.is_value) (drop-append_seam ms d.0)
        (All-drop format.is_value (length ms) (ms ++ d.0) d.1.are_messages.each) in
        (d.0, d.1, scattered format round class classes d.0 before after some within empty each d.2);
  }

  -- and joined to those before them they are the parts of the stream
  pub joins_parts : IsLawful format → (piece : List ℕ) (old new : Cutter) (parts : List (List ℕ)) →
      SplitsMore format round class classes piece old new parts → JoinsParts format round class classes piece old new parts
  joins_parts law piece old new parts splits = record {
    more = λ stream before held.
        let d = splits.more stream held.messages held.decoded in
        record {
          messages = held.messages ++ d.0;
          decoded = d.1;
          parts_are = parts_joined held.messages d.0 before parts held.parts_are d.2;
        };
    whole = λ stream all shards held cut.
        let same : cut.messages ≡ held.messages =
        (messages_once format law stream cut.rest (undecoded (decoder_of new)) cut.messages held.messages cut.are_messages
        held.decoded.are_messages).0 in (
          parts_once held.messages (bytes_of shards) all
              (subst (λ (ms : List M). AreParts format round class classes ms (bytes_of shards)) same cut.parts_are)
              held.parts_are,
          cut.read_is ∙ (ap length same ∙ sym held.decoded.read_is),
        );
  }
