-- What was written of an input so far, and with more.
use Rattle.std.proofs.Common.{◌≡◌, ℕ, ◌+◌, List, [], ◌++◌, length, take, Result, Ok, Err, Option, refl, sym, ap, subst, ◌∙◌, arith, append_assoc, length-append}
use Rattle.std.specs.Prelude.{IfOk, IfErr}
use Rattle.std.specs.List.{flat_map}
use Rattle.std.specs.Io.KnownBytes.{Appends}
use Rattle.std.proofs.KnownBytes.{Appends-nil, Appends-trans}
use Rattle.std.proofs.Math.Seq.{take-length, take-append-add}
use Rattle.std.proofs.lemmas.Grind.{flat_map-append}
use Rattle.std.proofs.lemmas.List.Elements.{All-nil, All-append}
use Rattle.simplex_base.specs.declared.codec.error.Error.{Error}
use Rattle.simplex_stream.specs.StreamLaws.{fault_here}
use Rattle.simplex_stream.specs.Fault.{fault_of}
use Rattle.simplex_stream.specs.Text.{AppendsBeginning}
use Rattle.simplex_inspect.specs.Inspected.{Lines, lines_from, fault_text, AreShown, IsWritten, IsPartShown, IsInspected}
use Rattle.simplex_inspect.specs.WritingLaws.{lines_append}

-- what holds for any error
pub if_err : {X E : Type 0} (r : Result X E) (Q : Type 0) → Q → IfErr r (λ e. Q)
if_err (Ok x) Q q = tt
if_err (Err e) Q q = q

-- what follows of a value, and of an error
pub if_ok_then : {X E : Type 0} (r : Result X E) (P Q : X → Type 0) → ((x : X) → P x → Q x) → IfOk r P → IfOk r Q
if_ok_then (Ok x) P Q f h = f x h
if_ok_then (Err e) P Q f h = tt

pub if_ok_both : {X E : Type 0} (r : Result X E) (P O Q : X → Type 0) → ((x : X) → P x → O x → Q x) → IfOk r P → IfOk r O →
    IfOk r Q
if_ok_both (Ok x) P O Q f h k = f x h k
if_ok_both (Err e) P O Q f h k = tt

pub if_err_then : {X E : Type 0} (r : Result X E) (P Q : E → Type 0) → ((e : E) → P e → Q e) → IfErr r P → IfErr r Q
if_err_then (Ok x) P Q f h = tt
if_err_then (Err e) P Q f h = f e h

-- nothing was written yet
pub nothing_written : {M : Type 0} (lines : Lines M) (input : List ℕ) (start : Option (List ℕ)) →
    IsWritten lines input 0 input start start
nothing_written lines input start =
    record { messages = []; whole = refl; each = All-nil lines.format.is_value; offset_is = refl; written = Appends-nil start }

module _ {M : Type 0} (lines : Lines M) (input : List ℕ) (offset : ℕ) (held : List ℕ) (start : Option (List ℕ))
    (w0 : Option (List ℕ)) (far : IsWritten lines input offset held start w0) where
  -- the lines so far
  abbrev pub before : List ℕ
  before = lines_from lines.line lines.format.encoding 0 far.messages

  -- what was written is the text of the first messages
  pub begun_now : (text : List ℕ) × IsPartShown lines input text × AppendsBeginning start w0 text
  begun_now = (
    before,
    record { messages = far.messages; rest = held; whole = far.whole; each = far.each; text_is = refl },
    (length before, subst (Appends start w0) (sym (take-length before)) far.written),
  )

  module _ (rest : List ℕ) (next : ℕ) (stop : Option Error) (text : List ℕ)
      (shown : AreShown lines held rest offset next stop text) where
    -- the messages so far and the further ones
    abbrev pub all : List M
    all = far.messages ++ shown.messages

    all_encoded : flat_map lines.format.encoding all
        ≡ flat_map lines.format.encoding far.messages ++ flat_map lines.format.encoding shown.messages
    all_encoded = flat_map-append lines.format.encoding far.messages shown.messages

    pub all_whole : input ≡ flat_map lines.format.encoding all ++ rest
    all_whole =
        far.whole ∙ (ap (λ (t : List ℕ). flat_map lines.format.encoding far.messages ++ t) shown.are_messages.whole
        ∙ (sym (append_assoc (flat_map lines.format.encoding far.messages) (flat_map lines.format.encoding shown.messages) rest)
        ∙ ap (λ (t : List ℕ). t ++ rest) (sym all_encoded)))

    pub all_length : next ≡ length (flat_map lines.format.encoding all)
    all_length =
        let a = far.offset_is in
        let b = shown.behind_is in
        let e = ap length all_encoded
        ∙ length-append (flat_map lines.format.encoding far.messages) (flat_map lines.format.encoding shown.messages) in
        omega (arith, a, b, e)

    pub all_lines : before ++ text ≡ lines_from lines.line lines.format.encoding 0 all
    all_lines =
        let at : offset ≡ 0 + length (flat_map lines.format.encoding far.messages) =
        let a = far.offset_is in omega (arith, a) in
        ap (λ (t : List ℕ). before ++ t)
        (shown.text_is ∙ ap (λ (n : ℕ). lines_from lines.line lines.format.encoding n shown.messages) at)
        ∙ sym (lines_append lines.line lines.format.encoding 0 far.messages shown.messages)

    -- the further lines were written
    pub advanced : (w1 : Option (List ℕ)) → Appends w0 w1 text → IsWritten lines input next rest start w1
    advanced w1 more = record {
      messages = all;
      whole = all_whole;
      each = All-append lines.format.is_value far.messages shown.messages far.each shown.are_messages.each;
      offset_is = all_length;
      written = subst (Appends start w1) all_lines (Appends-trans start w0 w1 before text far.written more);
    }

    -- a prefix of a text was written behind the lines so far
    pub begun_behind : (w1 : Option (List ℕ)) (more : List ℕ) → AppendsBeginning w0 w1 more →
        AppendsBeginning start w1 (before ++ more)
    begun_behind w1 more (count, grown) = (
      length before + count,
      subst (Appends start w1) (sym (take-append-add before more count))
          (Appends-trans start w0 w1 before (take count more) far.written grown),
    )

    -- a prefix of the further lines was written
    pub begun_more : (w1 : Option (List ℕ)) → AppendsBeginning w0 w1 text →
        (whole : List ℕ) × IsPartShown lines input whole × AppendsBeginning start w1 whole
    begun_more w1 some = (
      before ++ text,
      record {
        messages = all;
        rest = rest;
        whole = all_whole;
        each = All-append lines.format.is_value far.messages shown.messages far.each shown.are_messages.each;
        text_is = all_lines;
      },
      begun_behind w1 text some,
    )

    -- with the line of the fault the text is that of the whole input
    pub inspected : IsInspected lines input (fault_of next stop) (before ++ (text ++ fault_text (fault_of next stop) rest))
    inspected = record {
      messages = all;
      rest = rest;
      are_messages = record {
        whole = all_whole;
        each = All-append lines.format.is_value far.messages shown.messages far.each shown.are_messages.each;
        stuck = shown.are_messages.stuck;
      };
      fault_is = fault_here lines.format.reading rest _ next stop all_length shown.stop_is;
      text_is = sym (append_assoc before text (fault_text (fault_of next stop) rest))
          ∙ ap (λ (t : List ℕ). t ++ fault_text (fault_of next stop) rest) all_lines;
    }
