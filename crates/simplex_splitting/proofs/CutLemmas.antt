-- What is cut of an input from piece to piece.
use Rattle.std.proofs.Common.{◌≡◌, ◌⊎◌, ◌<◌, ◌≤◌, ◌==◌, ℕ, false, Bool, cond, IsTrue, inl, inr, List, [], ◌∷◌, ◌++◌, Option, Some, None, Result, Ok, Err, length, get_or, take, drop, refl, sym, ap, subst, ◌∙◌, arith, append_assoc, append-nil}
use Rattle.std.specs.Prelude.{All, IfErr, IfSome, OnErr, OnOk}
use Rattle.std.specs.List.{flat_map}
use Rattle.std.specs.Io.KnownBytes.{Appends, Consumes}
use Rattle.std.proofs.KnownBytes.{Appends-nil, Appends-trans}
use Rattle.std.proofs.Math.Seq.{take-append_seam}
use Rattle.std.proofs.lemmas.Bool.{cases_lt, ne_eqb}
use Rattle.std.proofs.lemmas.Grind.{flat_map-append}
use Rattle.std.proofs.lemmas.List.{take-append-drop}
use Rattle.std.proofs.lemmas.List.Elements.{All-head, All-tail, filter-append}
use Rattle.std.proofs.lemmas.Option.{slice_get-get_or}
use Rattle.simplex_base.specs.Format.{Format, IsLawful}
use Rattle.simplex_base.specs.Positions.{Round}
use Rattle.simplex_shards.specs.Pieces.{EndsCutting, SplitsMore, StartsCutting, decoder_of, read_by}
use Rattle.simplex_shards.specs.Split.{AreParts, of_class}
use Rattle.simplex_shards.specs.declared.pieces.Cutter.{Cutter}
use Rattle.simplex_stream.specs.Decoder.{decoding_over, undecoded}
use Rattle.simplex_stream.specs.Fault.{IsFault}
use Rattle.simplex_stream.specs.Messages.{AreMessages}
use Rattle.simplex_stream.specs.StreamLaws.{messages_continue, over_fault, over_messages}
use Rattle.simplex_stream.specs.Text.{AppendsBeginning}
use Rattle.simplex_splitting.specs.Parts.{AppendEach, BeginEach, Contents}
use Rattle.simplex_splitting.specs.Splitting.{BeginsCut, IsCutInto, IsCutSoFar, class_bytes}
use Rattle.simplex_splitting.specs.declared.splitting.Totals.{Totals}
use Rattle.simplex_splitting.proofs.PartLemmas.{none_past, whole_begins}

-- what holds for any error
pub if_err : {X E : Type 0} (r : Result X E) (Q : Type 0) → Q → IfErr r (λ e. Q)
if_err (Ok x) Q q = tt
if_err (Err e) Q q = q

-- and of an error
pub on_err : {X E : Type 0} (r : Result X E) (Q : Type 0) → Q → OnErr r Q
on_err (Ok x) Q q = tt
on_err (Err e) Q q = q

-- what follows of a fact of a result that is no error
pub when : {T E A X : Type 0} (r : Result T E) → (A → X) → OnOk r A → OnOk r X
when (Ok t) then a = then a
when (Err e) then a = a

-- what holds of each longer input holds of all that a reader had left, if that is known
pub known : (before after : Option (List ℕ)) (input : List ℕ) (P : List ℕ → Type 0) → Consumes before after input →
    ((more : List ℕ) → P (input ++ more)) → IfSome before P
known None after input P consumed each = tt
known (Some bytes) None input P consumed each = absurd consumed
known (Some bytes) (Some more) input P consumed each = subst P (sym consumed) (each more)

-- what was appended is a prefix of a longer text
pub begins : (old new : Option (List ℕ)) (front rest text : List ℕ) → text ≡ front ++ rest → Appends old new front →
    AppendsBeginning old new text
begins old new front rest text is written = (
  length front,
  subst (Appends old new) (sym (ap (take (length front)) is ∙ take-append_seam front rest)) written,
)

module _ {M : Type 0} (format : Format M) (round : M → Round) (class : Round → ℕ) where
  -- no message is of a class past the last
  none_of : (classes i : ℕ) → classes ≤ i → (ms : List M) → All (λ m. class (round m) < classes) ms →
      of_class round class i ms ≡ []
  none_of classes i past [] each = refl
  none_of classes i past (m ∷ ms) each =
      let here = All-head (λ (k : M). class (round k) < classes) m ms each in
      let other = ne_eqb (class (round m)) i (λ same. omega (arith, here, same, past)) in
      ap (λ (b : Bool). cond b (m ∷ of_class round class i ms) (of_class round class i ms)) other
      ∙ none_of classes i past ms (All-tail (λ (k : M). class (round k) < classes) m ms each)

  -- the part of each class has the bytes of its messages
  pub part_bytes : (classes : ℕ) (ms : List M) (parts : List (List ℕ)) → AreParts format round class classes ms parts →
      (i : ℕ) → get_or parts i [] ≡ class_bytes format round class i ms
  part_bytes classes ms parts are i = elim (cases_lt i (length parts)) [
    | inl lt ↦
        (are.each i (get_or parts i []) (slice_get-get_or parts i [] lt)).whole
        ∙ append-nil (class_bytes format round class i ms)
    | inr le ↦
        let count = are.count in
        none_past parts i le
        ∙ ap (flat_map format.encoding) (sym (none_of classes i (omega (arith, count, le)) ms are.one))
  ]

  -- the bytes of the messages of a class, and of further ones
  class_joined : (i : ℕ) (ms ks : List M) → class_bytes format round class i (ms ++ ks)
      ≡ class_bytes format round class i ms ++ class_bytes format round class i ks
  class_joined i ms ks =
      ap (flat_map format.encoding) (filter-append (λ k. class (round k) == i) ms ks)
      ∙ flat_map-append format.encoding (of_class round class i ms) (of_class round class i ks)

  -- a prefix of the bytes of a stream's messages is one of those of each longer stream
  longer_begins : IsLawful format → (stream more rest : List ℕ) (ms : List M) (old now : Contents) →
      AreMessages format stream ms rest →
      ((i : ℕ) → AppendsBeginning (old i) (now i) (class_bytes format round class i ms)) →
      BeginsCut format round class (stream ++ more) old now
  longer_begins law stream more rest ms old now are begun all left are' i =
      let c = messages_continue format law stream more rest left ms all are are' in
      let (count, some) = begun i in
      let here = class_bytes format round class i ms in
      let further = class_bytes format round class i c.further in
      begins (old i) (now i) (take count here) (drop count here ++ further) (class_bytes format round class i all)
      (ap (class_bytes format round class i) c.same ∙ class_joined i ms c.further
      ∙ ap (λ (t : List ℕ). t ++ further) (sym (take-append-drop count here))
      ∙ append_assoc (take count here) (drop count here) further) some

  -- nothing came yet
  pub starts : (bound : ℕ) (cutter : Cutter) (start : Contents) → StartsCutting format bound cutter →
      IsCutSoFar format round class bound cutter [] start start
  starts bound cutter start is = record {
    bound_is = is.bound_is;
    front = [];
    behind = [];
    split = refl;
    unread = inl refl;
    messages = [];
    decoded = is.decoded;
    parts = λ i. Appends-nil (start i);
  }

  module _ (bound : ℕ) (cutter : Cutter) (input : List ℕ) (start now : Contents)
      (h : IsCutSoFar format round class bound cutter input start now) where
    -- a piece behind which nothing can be read is dropped
    pub dropped : (piece : List ℕ) → IsTrue (decoding_over (decoder_of cutter)) →
        IsCutSoFar format round class bound cutter (input ++ piece) start now
    dropped piece over = record {
      bound_is = h.bound_is;
      front = h.front;
      behind = h.behind ++ piece;
      split = ap (λ (t : List ℕ). t ++ piece) h.split ∙ append_assoc h.front h.behind piece;
      unread = inr over;
      messages = h.messages;
      decoded = h.decoded;
      parts = h.parts;
    }

    -- the input is its front if more can be read
    front_is : (behind : List ℕ) → input ≡ h.front ++ behind → (behind ≡ []) ⊎ IsTrue (decoding_over (decoder_of cutter)) →
        decoding_over (decoder_of cutter) ≡ false → h.front ≡ input
    front_is behind split (inl none) on =
        sym (append-nil h.front) ∙ ap (λ (t : List ℕ). h.front ++ t) (sym none) ∙ sym split
    front_is behind split (inr over) on = absurd (let no = on in cc)

    -- what was cut so far is a prefix of what is cut of each longer input
    pub begun_so_far : IsLawful format → (more : List ℕ) → BeginsCut format round class (input ++ more) start now
    begun_so_far law more =
        subst (λ (t : List ℕ). BeginsCut format round class t start now)
        (sym (ap (λ (t : List ℕ). t ++ more) h.split ∙ append_assoc h.front h.behind more))
        (longer_begins law h.front (h.behind ++ more) (undecoded (decoder_of cutter)) h.messages start now
        h.decoded.are_messages
        (λ i. whole_begins (start i) (now i) (class_bytes format round class i h.messages) (h.parts i)))

    -- also if a piece is in between
    pub begun_before : IsLawful format → (piece more : List ℕ) →
        BeginsCut format round class ((input ++ piece) ++ more) start now
    begun_before law piece more =
        subst (λ (t : List ℕ). BeginsCut format round class t start now) (sym (append_assoc input piece more))
        (begun_so_far law (piece ++ more))

    module _ (next : Cutter) (classes : ℕ) (piece : List ℕ) (parts : List (List ℕ)) (later : Contents)
        (on : decoding_over (decoder_of cutter) ≡ false)
        (cut : SplitsMore format round class classes piece cutter next parts) where
      -- the messages that a piece completes were appended
      pub appended : AppendEach now later parts → IsCutSoFar format round class bound next (input ++ piece) start later
      appended each =
          let (further, decoded, are) = cut.more h.front h.messages h.decoded in
          record {
            bound_is = cut.bound_is ∙ h.bound_is;
            front = h.front ++ piece;
            behind = [];
            split = ap (λ (t : List ℕ). t ++ piece) (sym (front_is h.behind h.split h.unread on))
                ∙ sym (append-nil (h.front ++ piece));
            unread = inl refl;
            messages = h.messages ++ further;
            decoded = decoded;
            parts = λ i.
                subst (Appends (start i) (later i)) (sym (class_joined i h.messages further))
                (Appends-trans (start i) (now i) (later i) _ _ (h.parts i)
                (subst (Appends (now i) (later i)) (part_bytes classes further parts are i) (each i)));
          }

      -- of each part a prefix of them was
      pub begun : IsLawful format → BeginEach now later parts → (more : List ℕ) →
          BeginsCut format round class ((input ++ piece) ++ more) start later
      begun law each more =
          let (further, decoded, are) = cut.more h.front h.messages h.decoded in
          let same = front_is h.behind h.split h.unread on in
          subst (λ (t : List ℕ). BeginsCut format round class ((t ++ piece) ++ more) start later) same
          (longer_begins law (h.front ++ piece) more (undecoded (decoder_of next)) (h.messages ++ further) start later
          decoded.are_messages (λ i. both i further (part_bytes classes further parts are i) (each i)))
        where
          both : (i : ℕ) (further : List M) → get_or parts i [] ≡ class_bytes format round class i further →
              AppendsBeginning (now i) (later i) (get_or parts i []) →
              AppendsBeginning (start i) (later i) (class_bytes format round class i (h.messages ++ further))
          both i further is (count, some) =
              let here = class_bytes format round class i h.messages in
              let bytes = class_bytes format round class i further in
              begins (start i) (later i) (here ++ take count bytes) (drop count bytes)
              (class_bytes format round class i (h.messages ++ further))
              (class_joined i h.messages further
              ∙ ap (λ (t : List ℕ). here ++ t) (sym (take-append-drop count bytes))
              ∙ sym (append_assoc here (take count bytes) (drop count bytes)))
              (Appends-trans (start i) (now i) (later i) here (take count bytes) (h.parts i)
              (subst (λ (t : List ℕ). Appends (now i) (later i) (take count t)) is some))

    -- the whole input was cut
    pub ended : IsLawful format → (totals : Totals) → totals.read ≡ read_by cutter →
        EndsCutting format cutter totals.fault → IsCutInto format round class input totals start now
    ended law totals read fault =
        let (rest, all, last) = longer h.behind h.unread (fault h.front h.messages h.decoded) in
        record {
          read = record {
            messages = h.messages;
            rest = rest;
            are_messages = subst (λ (t : List ℕ). AreMessages format t h.messages rest) (sym h.split) all;
            read_is = read ∙ h.decoded.read_is;
            fault_is = last;
          };
          parts = h.parts;
        }
      where
        place_of : ℕ
        place_of = length (flat_map format.encoding h.messages)

        longer : (behind : List ℕ) → (behind ≡ []) ⊎ IsTrue (decoding_over (decoder_of cutter)) →
            IsFault format.reading place_of (undecoded (decoder_of cutter)) totals.fault →
            (rest : List ℕ) × AreMessages format (h.front ++ behind) h.messages rest
            × IsFault format.reading place_of rest totals.fault
        longer behind (inl none) here = (
          undecoded (decoder_of cutter),
          subst (λ (t : List ℕ). AreMessages format t h.messages (undecoded (decoder_of cutter)))
              (sym (append-nil h.front) ∙ ap (λ (t : List ℕ). h.front ++ t) (sym none)) h.decoded.are_messages,
          here,
        )
        longer behind (inr over) here = (
          undecoded (decoder_of cutter) ++ behind,
          over_messages format law h.front (undecoded (decoder_of cutter)) behind h.messages
              h.decoded.are_messages (h.decoded.over over),
          over_fault format.reading place_of (undecoded (decoder_of cutter)) behind totals.fault here
              (h.decoded.over over),
        )
