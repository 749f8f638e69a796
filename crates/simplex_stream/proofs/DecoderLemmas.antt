-- A decoder from piece to piece.
use Rattle.std.proofs.Common.{◌≡◌, ◌≢◌, Err, false, ℕ, ◌+◌, ◌-◌, ◌<◌, ◌≤◌, List, [], ◌++◌, length, take, drop, inl, inr, ◌⊎◌, IsTrue, refl, sym, ap, subst, ◌∙◌, arith, append_assoc, append-nil, length-append, length-drop}
use Rattle.std.proofs.lemmas.Bool.{cases_lt}
use Rattle.std.specs.List.{flat_map}
use Rattle.std.proofs.Math.Seq.{drop-append-add}
use Rattle.std.proofs.lemmas.List.{take-append-drop, take_rest}
use Rattle.std.proofs.lemmas.List.Elements.{All-nil}
use Rattle.simplex_base.specs.Finality.{IsFinal, before}
use Rattle.simplex_base.specs.Reading.{Reading, Refusal, Fails, end_of_buffer, invalid_varint, invalid_bool, invalid, extra_data, same_error}
use Rattle.simplex_base.specs.declared.codec.error.Error.{Error}
use Rattle.simplex_base.specs.declared.codec.error.Error.TheVariants as errors
use Rattle.simplex_base.specs.Format.{Format, IsLawful}
use Rattle.simplex_base.specs.LeastSize.{NoneShorter}
use Rattle.simplex_base.specs.LeastSizeLaws.{front_in}
use Rattle.simplex_stream.specs.Decoder.{DecodesMore, HasDecoded, bytes_fed, decoding_over, messages_read, tail_of, undecoded}
use Rattle.simplex_stream.specs.Messages.{AreMessages, IsStuck, IsOver}
use Rattle.simplex_stream.specs.Progress.{FollowsOn}
use Rattle.simplex_stream.specs.StreamLaws.{front_dropped, messages_of_pieces, over_stuck, over_behind}
use Rattle.simplex_stream.specs.Tail.{Awaits, due_of}
use Rattle.simplex_stream.specs.declared.decoder.Decoder.{Decoder}
use Rattle.simplex_stream.proofs.StreamLemmas.{none_left}

module _ {M : Type 0} (format : Format M) where
  -- where no message is as short, a tail that is stuck stays so
  still_stuck : (rest piece : List ℕ) (due : ℕ) → IsStuck format rest → NoneShorter format.is_value format.encoding rest due →
      length (rest ++ piece) < due → IsStuck format (rest ++ piece)
  still_stuck rest piece due stuck none few m more v p =
      elim (cases_lt (length (format.encoding m)) (length rest)) [
        | inl lt ↦
            let begins : length (format.encoding m) ≤ length rest = omega arith in
            stuck m (drop (length (format.encoding m)) rest) v (front_in (format.encoding m) more rest piece (sym p) begins)
        | inr le ↦
            let behind = drop (length rest) (format.encoding m) in
            let least = none m behind v (front_in rest piece (format.encoding m) more p le) in
            let len = ap length p in
            absurd (omega (arith, len, least, length-append (format.encoding m) more))
      ]

  -- a bound of the messages that begin with some bytes bounds those that begin with more
  still_awaits : (rest piece : List ℕ) (due : ℕ) → NoneShorter format.is_value format.encoding rest due →
      NoneShorter format.is_value format.encoding (rest ++ piece) due
  still_awaits rest piece due none m more v p = none m (piece ++ more) v (p ∙ append_assoc rest piece more)

  -- a decoder that read its tail with a piece appended has decoded the stream with the piece appended
  pub decodes_more : (Recorded : List M → Type 0) (old new : Decoder) (piece bytes left : List ℕ) (further : List M) (n : ℕ) →
      bytes_fed new ≡ bytes_fed old + length piece → messages_read new ≡ messages_read old + n → n ≡ length further →
      undecoded new ≡ left → bytes ≡ undecoded old ++ piece → AreMessages format bytes further left →
      Awaits format (tail_of new) → (IsTrue (decoding_over new) → IsOver format.reading left) → Recorded further →
      DecodesMore format Recorded piece old new
  decodes_more Recorded old new piece bytes left further n fed read count rest parts are awaits over recorded stream messages
      h = (
        further,
        record {
          are_messages = messages_of_pieces format stream piece (undecoded old) (undecoded new) messages further h.are_messages
              (subst (λ (xs : List ℕ). AreMessages format xs further (undecoded new)) parts
              (subst (AreMessages format bytes further) (sym rest) are));
          read_is = let before = h.read_is in omega (arith, before, length-append messages further);
          fed_is = let before = h.fed_is in omega (arith, before, length-append stream piece);
          awaits = awaits;
          over = λ t. subst (IsOver format.reading) (sym rest) (over t);
        },
        recorded,
      )

  -- so has a decoder that appended a piece to its tail, where the piece completes no message
  pub decodes_none : IsLawful format → (Recorded : List M → Type 0) (old new : Decoder) (piece : List ℕ) →
      bytes_fed new ≡ bytes_fed old + length piece → messages_read new ≡ messages_read old →
      decoding_over new ≡ decoding_over old →
      undecoded new ≡ undecoded old ++ piece → due_of (tail_of new) ≡ due_of (tail_of old) →
      IsTrue (decoding_over old) ⊎ ((length piece ≡ 0) ⊎ (length (undecoded old) + length piece < due_of (tail_of old))) →
      Recorded [] →
      DecodesMore format Recorded piece old new
  decodes_none law Recorded old new piece fed read is_over rest due waits recorded stream messages h =
      let bytes = undecoded old ++ piece in
      let none = still_awaits (undecoded old) piece (due_of (tail_of old)) h.awaits in
      decodes_more Recorded old new piece bytes bytes [] 0 fed (omega (arith, read)) refl rest refl (record {
        whole = refl;
        each = All-nil format.is_value;
        stuck = elim waits [
          | inl t ↦ over_stuck format law bytes (over_behind format.reading (undecoded old) piece (h.over t))
          | inr (inl none) ↦ subst (IsStuck format) (sym (append-nil (undecoded old))
              ∙ ap (λ (p : List ℕ). undecoded old ++ p) (sym (none_left piece none))) h.are_messages.stuck
          | inr (inr few) ↦ still_stuck (undecoded old) piece (due_of (tail_of old)) h.are_messages.stuck h.awaits
              (omega (arith, few, length-append (undecoded old) piece))
        ];
      }) (subst (NoneShorter format.is_value format.encoding (undecoded new)) (sym due)
      (subst (λ (xs : List ℕ). NoneShorter format.is_value format.encoding xs (due_of (tail_of old))) (sym rest) none))
      (λ t. over_behind format.reading (undecoded old) piece (h.over (rw is_over at t))) recorded stream messages h

  module _ {V : Type 0} (follows : List M → V → V → Type 0) (none : (a : V) → follows [] a a) {a b c : V}
      {old mid new : Decoder} (piece : List ℕ) (head : ℕ)
      (first : DecodesMore format (λ ms. FollowsOn follows ms a b) (take head piece) old mid) where
    -- a piece was decoded in two parts
    pub decodes_both :
        DecodesMore format (λ ms. FollowsOn follows ms b c) (take (length piece - head) (drop head piece)) mid new →
        DecodesMore format (λ ms. follows ms a c) piece old new
    decodes_both second stream messages h =
        let one = first stream messages h in
        let two = rw take_rest at (second (stream ++ take head piece) (messages ++ one.0) one.1) in (
          one.0 ++ two.0,
          subst (λ (xs : List ℕ). HasDecoded format xs (messages ++ (one.0 ++ two.0)) new)
              (append_assoc stream (take head piece) (drop head piece) ∙
              ap (λ (xs : List ℕ). stream ++ xs) (take-append-drop head piece))
              (subst (λ (ms : List M). HasDecoded format ((stream ++ take head piece) ++ drop head piece) ms new)
              (append_assoc messages one.0 two.0) two.1),
          two.2 a one.0 (one.2 a [] (none a)),
        )

    -- the second part was read where the first one's undecoded tail stands
    pub decodes_in_place : head ≤ length piece → (left : ℕ) → left ≡ length (undecoded mid) → left ≤ head →
        ((part : List ℕ) → take (length piece - (head - left)) (drop (head - left) piece) ≡ undecoded mid ++ part →
        DecodesMore format (λ ms. FollowsOn follows ms b c) part mid new) →
        DecodesMore format (λ ms. follows ms a c) piece old new
    decodes_in_place in_piece left size in_head second stream messages h =
        let behind = drop head piece in
        let front = flat_map format.encoding (messages ++ (first stream messages h).0) in
        let whole : stream ++ piece ≡ front ++ (undecoded mid ++ behind) =
        ap (λ (xs : List ℕ). stream ++ xs) (sym (take-append-drop head piece))
        ∙ (sym (append_assoc stream (take head piece) behind) ∙ (ap (λ (xs : List ℕ). xs ++ behind)
        (first stream messages h).1.are_messages.whole ∙ append_assoc front (undecoded mid) behind)) in
        let begins = front_dropped front (undecoded mid ++ behind) (stream ++ piece) (length stream + (head - left)) whole
        (omega (arith, size, length-append stream piece, length-append (undecoded mid) behind, length-drop head piece)) in
        decodes_both (rw take_rest (second behind (take_rest piece (head - left)
        ∙ (sym (drop-append-add stream piece (head - left)) ∙ begins)))) stream messages h

-- ---- refusals that stay

module _ {M : Type 0} (reading : List ℕ → Reading M) {longest : ℕ} (final : IsFinal reading longest) (rest : List ℕ)
    (some : rest ≢ []) where
  -- a refusal but `end_of_buffer` stays
  stays : (refusal : Refusal) → refusal ≢ end_of_buffer → reading rest ≡ Err refusal → IsOver reading rest
  stays refusal other h = elim (final rest) [
    | inl e ↦ absurd (other (let r = e.refused in cc))
    | inr s ↦ record { some = some; refusal = refusal; refused = λ more. s.same more ∙ ap (before more) h }
  ]

  -- so does an error but `EndOfBuffer`
  pub refused_for_good : (error : Error) → same_error error errors.EndOfBuffer ≡ false → Fails false error (reading rest) →
      IsOver reading rest
  refused_for_good errors.EndOfBuffer other h = absurd cc
  refused_for_good errors.InvalidVarint other h = stays invalid_varint (λ e. absurd cc) h
  refused_for_good errors.InvalidBool other h = stays invalid_bool (λ e. absurd cc) h
  refused_for_good (errors.Invalid subject reason) other h = stays (invalid subject.now reason.now) (λ e. absurd cc) h
  refused_for_good errors.ExtraData other h = stays extra_data (λ e. absurd cc) h
  refused_for_good errors.OutOfMemory other h = absurd cc
