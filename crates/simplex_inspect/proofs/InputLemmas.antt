-- What was written of an input that comes in pieces.
use Rattle.std.proofs.Common.{◌≡◌, ℕ, ◌+◌, ◌≤◌, List, [], ◌∷◌, ◌++◌, length, take, Option, Some, None, inl, inr, refl, sym, ap, subst, ◌∙◌, arith, append_assoc, append-nil, length-append}
use Rattle.std.specs.Prelude.{IsTrue, codes}
use Rattle.std.specs.List.{flat_map}
use Rattle.std.proofs.Math.Seq.{take-length}
use Rattle.std.proofs.lemmas.List.{take-append-le}
use Rattle.std.proofs.lemmas.List.Elements.{All-nil}
use Rattle.std.specs.Io.KnownBytes.{Appends, Consumes, IsAtEnd}
use Rattle.std.proofs.KnownBytes.{Appends-nil, Consumes-trans}
use Rattle.json.specs.Json.{string}
use Rattle.simplex_base.specs.Format.{IsLawful}
use Rattle.simplex_stream.specs.Messages.{IsOver}
use Rattle.simplex_stream.specs.StreamLaws.{over_behind, over_stuck, over_messages, over_fault, messages_once}
use Rattle.simplex_stream.specs.Tail.{bytes_held}
use Rattle.simplex_stream.specs.declared.fault.Fault.{Fault}
use Rattle.simplex_inspect.specs.Inspected.{Lines, IsInspected, IsWritten, AppendsText, AppendsBegun, AppendsPart, IsInput, lines_from, fault_text, refusal_name}
use Rattle.simplex_inspect.specs.Left.{IsLeft}
use Rattle.simplex_inspect.specs.declared.left.Left.{Left}
use Rattle.simplex_inspect.specs.Values.{object_of, number_json, bytes_json, line_of}

-- more bytes are held
pub held_more : {M : Type 0} (lines : Lines M) (input : List ℕ) (offset offset' : ℕ) (held : List ℕ)
    (start now : Option (List ℕ)) (piece held' : List ℕ) → offset' ≡ offset → held' ≡ held ++ piece →
    IsWritten lines input offset held start now → IsWritten lines (input ++ piece) offset' held' start now
held_more lines input offset offset' held start now piece held' same is far = record {
  messages = far.messages;
  whole = ap (λ (t : List ℕ). t ++ piece) far.whole ∙ (append_assoc (flat_map lines.format.encoding far.messages) held piece
      ∙ ap (λ (t : List ℕ). flat_map lines.format.encoding far.messages ++ t) (sym is));
  each = far.each;
  offset_is = same ∙ far.offset_is;
  written = far.written;
}

-- more bytes are held of what is left
pub left_more : {M : Type 0} (lines : Lines M) (left next : Left) (input piece : List ℕ) (start now : Option (List ℕ)) →
    next.offset ≡ left.offset → bytes_held next.tail ≡ bytes_held left.tail ++ piece → next.over ≡ left.over →
    IsLeft lines left input start now → IsLeft lines next (input ++ piece) start now
left_more lines left next input piece start now at held same far = record {
  written = held_more lines input left.offset next.offset (bytes_held left.tail) start now piece (bytes_held next.tail) at held
      far.written;
  over = λ over. subst (IsOver lines.format.reading) (sym held) (over_behind lines.format.reading (bytes_held left.tail) piece
      (far.over (subst IsTrue same over)));
}

-- nothing of an input was read
pub nothing_left : {M : Type 0} (lines : Lines M) (offset : ℕ) (held : List ℕ) (start : Option (List ℕ)) → offset ≡ 0 →
    held ≡ [] → IsWritten lines [] offset held start start
nothing_left lines offset held start at none = record {
  messages = [];
  whole = sym none;
  each = All-nil lines.format.is_value;
  offset_is = at;
  written = Appends-nil start;
}

-- the input consists of the bytes before the held ones, and of these
pub input_length : {M : Type 0} (lines : Lines M) (input : List ℕ) (offset : ℕ) (held : List ℕ) (start now : Option (List ℕ)) →
    IsWritten lines input offset held start now → length input ≡ offset + length held
input_length lines input offset held start now far =
    let len = ap length far.whole in
    let at = far.offset_is in
    omega (arith, at, len, length-append (flat_map lines.format.encoding far.messages) held)

-- what was written of the first messages of an input was written of the input with more behind it
pub begun_of_more : {M : Type 0} (lines : Lines M) (input more : List ℕ) (old new : Option (List ℕ)) →
    AppendsBegun lines input old new → AppendsBegun lines (input ++ more) old new
begun_of_more lines input more old new (text, is, some) = (
  text,
  record {
    messages = is.messages;
    rest = is.rest ++ more;
    whole = ap (λ (t : List ℕ). t ++ more) is.whole ∙ append_assoc (flat_map lines.format.encoding is.messages) is.rest more;
    each = is.each;
    text_is = is.text_is;
  },
  some,
)

-- all that a reader had left was read
pub input_ended : (before after : Option (List ℕ)) (input : List ℕ) → Consumes before after input → IsAtEnd after →
    IsInput before input
input_ended None after input consumed ended = tt
input_ended (Some bytes) None input consumed ended = absurd consumed
input_ended (Some bytes) (Some left) input consumed ended =
    consumed ∙ (ap (λ (t : List ℕ). input ++ t) ended ∙ append-nil input)

-- some of what a reader had left was read
pub input_begun : {M : Type 0} (lines : Lines M) (before after : Option (List ℕ)) (input : List ℕ) (old new : Option (List ℕ)) →
    Consumes before after input → AppendsBegun lines input old new →
    (whole : List ℕ) × IsInput before whole × AppendsPart lines whole old new
input_begun lines None after input old new consumed (text, is, some) = (input, tt, (text, inl is, some))
input_begun lines (Some bytes) None input old new consumed begun = absurd consumed
input_begun lines (Some bytes) (Some left) input old new consumed begun =
    let (text, is, some) = begun_of_more lines input left old new begun in
    (input ++ left, consumed, (text, inl is, some))

-- the lines of the first messages of an input are a part of its text
pub part_of_begun : {M : Type 0} (lines : Lines M) (input : List ℕ) (old new : Option (List ℕ)) →
    AppendsBegun lines input old new → AppendsPart lines input old new
part_of_begun lines input old new (text, is, some) = (text, inl is, some)

-- nothing more was read
pub consumed_nothing : (a b c : Option (List ℕ)) (input piece : List ℕ) (n : ℕ) → n ≡ 0 → Consumes a b input →
    Consumes b c (take n piece) → Consumes a c input
consumed_nothing a b c input piece n none before next =
    subst (Consumes a c) (ap (λ (k : ℕ). input ++ take k piece) none ∙ append-nil input)
    (Consumes-trans a b c input (take n piece) before next)

-- ---- a fault that is final

-- a line that shows all its bytes shows them whatever follows
pub fault_text_more : (fault : Option Fault) (rest more : List ℕ) → 16 ≤ length rest →
    fault_text fault rest ≡ fault_text fault (rest ++ more)
fault_text_more None rest more enough = refl
fault_text_more (Some fault) rest more enough = ap (λ (shown : List ℕ). line_of (object_of (
    (codes "offset", number_json fault.place)
    ∷ (codes "fault", string (refusal_name fault.error))
    ∷ (codes "next", bytes_json shown)
    ∷ []
    ))) (sym (take-append-le 16 rest more enough))

module _ {M : Type 0} (lines : Lines M) (law : IsLawful lines.format) (input more : List ℕ) (offset : ℕ) (held : List ℕ)
    (start now : Option (List ℕ)) (far : IsWritten lines input offset held start now)
    (over : IsOver lines.format.reading held) (enough : 16 ≤ length held) where
  -- the text of the input is that of a longer one,
  pub inspected_more : (fault : Option Fault) (text : List ℕ) → IsInspected lines input fault text →
      IsInspected lines (input ++ more) fault text
  inspected_more fault text is =
      let same : is.rest ≡ held = (messages_once lines.format law input is.rest held is.messages far.messages is.are_messages
      (record { whole = far.whole; each = far.each; stuck = over_stuck lines.format law held over })).1 in
      let ended : IsOver lines.format.reading is.rest = subst (IsOver lines.format.reading) (sym same) over in
      let long : 16 ≤ length is.rest = subst (λ (bytes : List ℕ). 16 ≤ length bytes) (sym same) enough in
      record {
        messages = is.messages;
        rest = is.rest ++ more;
        are_messages = over_messages lines.format law input is.rest more is.messages is.are_messages ended;
        fault_is = over_fault lines.format.reading (length (flat_map lines.format.encoding is.messages)) is.rest more fault
            is.fault_is ended;
        text_is = is.text_is ∙ ap (λ (t : List ℕ). lines_from lines.line lines.format.encoding 0 is.messages ++ t)
            (fault_text_more fault is.rest more long);
      }

  pub text_more : (fault : Option Fault) (new : Option (List ℕ)) → AppendsText lines input fault start new →
      AppendsText lines (input ++ more) fault start new
  text_more fault new (text, is, written) = (text, inspected_more fault text is, written)

  -- and so a part of it is
  pub part_more : (new : Option (List ℕ)) → AppendsPart lines input start new → AppendsPart lines (input ++ more) start new
  part_more new (text, inl is, some) = part_of_begun lines (input ++ more) start new
      (begun_of_more lines input more start new (text, is, some))
  part_more new (text, inr (fault, is), some) = (text, inr (fault, inspected_more fault text is), some)

-- the text of an input is a part of it
pub part_of_text : {M : Type 0} (lines : Lines M) (input : List ℕ) (fault : Option Fault) (old new : Option (List ℕ)) →
    AppendsText lines input fault old new → AppendsPart lines input old new
part_of_text lines input fault old new (text, is, written) =
    (text, inr (fault, is), (length text, subst (Appends old new) (sym (take-length text)) written))

-- what is a part of the text of each longer input is one of the text of all that a reader had left
pub input_settled : {M : Type 0} (lines : Lines M) (before after : Option (List ℕ)) (input more : List ℕ)
    (old new : Option (List ℕ)) → Consumes before after (input ++ more) →
    ((further : List ℕ) → AppendsPart lines (input ++ further) old new) →
    (whole : List ℕ) × IsInput before whole × AppendsPart lines whole old new
input_settled lines None after input more old new consumed part = (input ++ more, tt, part more)
input_settled lines (Some bytes) None input more old new consumed part = absurd consumed
input_settled lines (Some bytes) (Some left) input more old new consumed part =
    (input ++ (more ++ left), consumed ∙ append_assoc input more left, part (more ++ left))
