-- What holds of the messages of streams, of streams with more behind them, and of streams that come in pieces.
use Rattle.std.proofs.Common.{◌≡◌, ℕ, ◌+◌, ◌<◌, false, Err, Option, Some, None, List, [], ◌∷◌, ◌++◌, length, drop, refl, sym, ap, subst, ◌∙◌, arith, append_assoc, append-nil, length-append}
use Rattle.std.specs.Prelude.{All}
use Rattle.std.specs.List.{flat_map}
use Rattle.std.proofs.lemmas.Grind.{flat_map-append}
use Rattle.std.proofs.lemmas.List.Elements.{All-head, All-tail, All-append}
use Rattle.std.proofs.Math.Seq.{drop-append_seam}
use Rattle.simplex_base.specs.Reading.{Reading, Fails}
use Rattle.simplex_base.specs.Format.{Format, IsLawful}
use Rattle.simplex_base.specs.FormatLaws.{one_encoding}
use Rattle.simplex_base.specs.declared.codec.error.Error.{Error}
use Rattle.simplex_stream.specs.Messages.{AreMessages, IsStuck, IsOver, IsStop}
use Rattle.simplex_stream.specs.Fault.{IsFault, fault_of}
use Rattle.simplex_stream.specs.declared.fault.Fault.{Fault}

-- no encoding is empty
abbrev pub IsNeverEmpty : {M : Type 0} → Format M → Type 0
IsNeverEmpty {M} format = (m : M) → 0 < length (format.encoding m)

-- no message begins an empty list of bytes
pub nothing_stuck : {M : Type 0} (format : Format M) (rest : List ℕ) → IsNeverEmpty format → rest ≡ [] →
    IsStuck format rest
nothing_stuck format rest some none m more v p =
    let longer = some m in
    let len = ap length p in
    let end = ap length none in
    absurd (omega (arith, length-append (format.encoding m) more))

-- ---- the messages of a stream, and of the stream with more behind it

pub record Continued {M : Type 0} (format : Format M) (messages later : List M) (rest more left : List ℕ) : Type 0 where
  pub further : List M
  pub same : later ≡ messages ++ further
  pub after : rest ++ more ≡ flat_map format.encoding further ++ left

-- the messages of a stream are the first of those of the stream with anything appended
pub messages_continue : {M : Type 0} (format : Format M) → IsLawful format →
    (stream more rest left : List ℕ) (messages later : List M) →
    AreMessages format stream messages rest → AreMessages format (stream ++ more) later left →
    Continued format messages later rest more left
messages_continue {M} format law stream more rest left messages later are are' =
    go messages later are.each are'.each
    (sym (append_assoc _ rest more) ∙ (ap (λ (t : List ℕ). t ++ more) (sym are.whole) ∙ are'.whole))
  where
    encoded : List M → List ℕ
    encoded = flat_map format.encoding

    go : (ms ks : List M) → All format.is_value ms → All format.is_value ks →
        encoded ms ++ (rest ++ more) ≡ encoded ks ++ left → Continued format ms ks rest more left
    go [] ks each each' e = record { further = ks; same = refl; after = e }
    go (m ∷ ms) [] each each' e =
        absurd (are'.stuck m (encoded ms ++ (rest ++ more)) (All-head format.is_value m ms each)
        (sym e ∙ append_assoc (format.encoding m) (encoded ms) (rest ++ more)))
    go (m ∷ ms) (k ∷ ks) each each' e =
        let one = one_encoding law m k (encoded ms ++ (rest ++ more)) (encoded ks ++ left)
        (All-head format.is_value m ms each) (All-head format.is_value k ks each')
        (sym (append_assoc (format.encoding m) (encoded ms) (rest ++ more)) ∙
        (e ∙ append_assoc (format.encoding k) (encoded ks) left)) in
        let c = go ms ks (All-tail format.is_value m ms each) (All-tail format.is_value k ks each') one.1 in
        record {
          further = c.further;
          same = ap (λ (x : M). x ∷ ks) (sym one.0) ∙ ap (λ (xs : List M). m ∷ xs) c.same;
          after = c.after;
        }

All-behind : {A : Type 0} (P : A → Type 0) (xs ys : List A) → All P (xs ++ ys) → All P ys
All-behind P [] ys each = each
All-behind P (x ∷ xs) ys each = All-behind P xs ys (All-tail P x (xs ++ ys) each)

-- a stream has one list of messages
pub messages_once : {M : Type 0} (format : Format M) → IsLawful format → (stream rest left : List ℕ) (messages later : List M) →
    AreMessages format stream messages rest → AreMessages format stream later left → (messages ≡ later) × (rest ≡ left)
messages_once {M} format law stream rest left messages later are are' =
    let whole = subst (λ (s : List ℕ). AreMessages format s later left) (sym (append-nil stream)) are' in
    let c = messages_continue format law stream [] rest left messages later are whole in
    go c.further c.same (sym (append-nil rest) ∙ c.after) (λ m ms e. All-head format.is_value m ms
    (All-behind format.is_value messages (m ∷ ms)
    (subst (All format.is_value) (c.same ∙ ap (λ (xs : List M). messages ++ xs) e) are'.each)))
  where
    go : (further : List M) → later ≡ messages ++ further → rest ≡ flat_map format.encoding further ++ left →
        ((m : M) (ms : List M) → further ≡ m ∷ ms → format.is_value m) → (messages ≡ later) × (rest ≡ left)
    go [] same after value = (sym (same ∙ append-nil messages), after)
    go (m ∷ ms) same after value =
        absurd (are.stuck m (flat_map format.encoding ms ++ left) (value m ms refl)
        (after ∙ append_assoc (format.encoding m) (flat_map format.encoding ms) left))

-- messages that are joined in order are those of their stream
pub are_joined : {M : Type 0} (format : Format M) → IsNeverEmpty format → (messages : List M) →
    All format.is_value messages → AreMessages format (flat_map format.encoding messages) messages []
are_joined format some messages each = record {
  whole = sym (append-nil (flat_map format.encoding messages));
  each = each;
  stuck = nothing_stuck format [] some refl;
}

-- ---- the messages of a stream that comes in pieces

-- the messages of a stream with a piece appended are its own, and then those of its undecoded tail with the piece appended
pub messages_of_pieces : {M : Type 0} (format : Format M) (stream piece rest left : List ℕ) (messages further : List M) →
    AreMessages format stream messages rest → AreMessages format (rest ++ piece) further left →
    AreMessages format (stream ++ piece) (messages ++ further) left
messages_of_pieces {M} format stream piece rest left messages further are are' =
    let encoded : List M → List ℕ = flat_map format.encoding in
    record {
      whole = ap (λ (t : List ℕ). t ++ piece) are.whole ∙ (append_assoc (encoded messages) rest piece ∙
          (ap (λ (t : List ℕ). encoded messages ++ t) are'.whole ∙
          (sym (append_assoc (encoded messages) (encoded further) left) ∙
          ap (λ (t : List ℕ). t ++ left) (sym (flat_map-append format.encoding messages further)))));
      each = All-append format.is_value messages further are.each are'.each;
      stuck = are'.stuck;
    }

-- ---- the messages of a stream whose tail is over

-- a front of no bytes is empty
pub front_empty : (front rest : List ℕ) → front ++ rest ≡ [] → front ≡ []
front_empty [] rest e = refl
front_empty (b ∷ front) rest e = absurd cc

-- a tail that is over stays so
pub over_behind : {M : Type 0} (reading : List ℕ → Reading M) (rest more : List ℕ) → IsOver reading rest →
    IsOver reading (rest ++ more)
over_behind reading rest more over = record {
  some = λ e. over.some (front_empty rest more e);
  refusal = over.refusal;
  refused = λ further. ap reading (append_assoc rest more further) ∙ over.refused (more ++ further);
}

-- no message begins it
pub over_stuck : {M : Type 0} (format : Format M) → IsLawful format → (rest : List ℕ) → IsOver format.reading rest →
    IsStuck format rest
over_stuck format law rest over m more v p =
    let refused = over.refused [] in
    let read = law.again m more v in
    let same = ap format.reading (append-nil rest ∙ p) in
    absurd cc

-- the longer streams have the same messages,
pub over_messages : {M : Type 0} (format : Format M) → IsLawful format → (stream rest more : List ℕ) (messages : List M) →
    AreMessages format stream messages rest → IsOver format.reading rest →
    AreMessages format (stream ++ more) messages (rest ++ more)
over_messages format law stream rest more messages are over = record {
  whole = ap (λ (t : List ℕ). t ++ more) are.whole ∙ append_assoc (flat_map format.encoding messages) rest more;
  each = are.each;
  stuck = over_stuck format law (rest ++ more) (over_behind format.reading rest more over);
}

-- and the same fault
pub over_fault : {M : Type 0} (reading : List ℕ → Reading M) (place : ℕ) (rest more : List ℕ) (fault : Option Fault) →
    IsFault reading place rest fault → IsOver reading rest → IsFault reading place (rest ++ more) fault
over_fault reading place rest more None h over = absurd (over.some h)
over_fault {M} reading place rest more (Some fault) h over =
    let here : reading rest ≡ Err over.refusal = ap reading (sym (append-nil rest)) ∙ over.refused [] in (
      λ e. over.some (front_empty rest more e),
      h.1,
      subst (λ (r : Reading M). Fails false fault.error r) (here ∙ sym (over.refused more)) h.2,
    )

-- what is left of bytes behind a prefix of them
pub front_dropped : (front rest whole : List ℕ) (count : ℕ) → whole ≡ front ++ rest → count + length rest ≡ length whole →
    drop count whole ≡ rest
front_dropped front rest whole count is len =
    let size : count ≡ length front = let l = ap length is in omega (arith, l, len, length-append front rest) in
    ap (drop count) is ∙ (ap (λ (n : ℕ). drop n (front ++ rest)) size ∙ drop-append_seam front rest)

-- ---- the fault of a stream

-- where reading was refused, its error is the fault there
pub fault_here : {M : Type 0} (reading : List ℕ → Reading M) (rest : List ℕ) (place at : ℕ) (stop : Option Error) →
    at ≡ place → IsStop reading rest stop → IsFault reading place rest (fault_of at stop)
fault_here reading rest place at None same h = h
fault_here reading rest place at (Some e) same h = (h.0, same, h.1)

-- the fault at the place where the undecoded tail begins is the stream's
pub fault_is : {M : Type 0} (format : Format M) (stream rest : List ℕ) (messages : List M) (place : ℕ)
    (stop : Option Error) (fault : Option Fault) → AreMessages format stream messages rest →
    place + length rest ≡ length stream → IsStop format.reading rest stop → fault ≡ fault_of place stop →
    IsFault format.reading (length (flat_map format.encoding messages)) rest fault
fault_is format stream rest messages place stop fault are at h same =
    let ends = length (flat_map format.encoding messages) in
    let len = ap length are.whole in
    let here : place ≡ ends = omega (arith, length-append (flat_map format.encoding messages) rest) in
    subst (λ (f : Option Fault). IsFault format.reading ends rest f) (sym same)
    (fault_here format.reading rest ends place stop here h)
