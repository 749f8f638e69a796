-- Reading a stream message after message.
use Rattle.std.proofs.Common.{◌≡◌, ◌≢◌, ℕ, ◌+◌, ◌≤◌, Bool, false, Result, Option, Some, None, List, [], ◌∷◌, ◌++◌, length, Ok, refl, sym, ap, subst, ◌∙◌, arith, append_assoc, append-nil, length-append}
use Rattle.std.specs.Prelude.{All}
use Rattle.std.specs.List.{flat_map}
use Rattle.std.specs.Option.{is_none}
use Rattle.std.proofs.lemmas.Grind.{flat_map-append}
use Rattle.std.proofs.lemmas.List.Elements.{All-nil, All-push}
use Rattle.simplex_base.specs.Reading.{IsBytes, Refusal, Fails}
use Rattle.simplex_base.specs.Format.{Format, IsLawful}
use Rattle.simplex_base.specs.FormatLaws.{IsBytes-after}
use Rattle.simplex_base.specs.declared.codec.error.Error.{Error}
use Rattle.simplex_base.specs.declared.codec.error.Error.TheVariants as errors
use Rattle.simplex_stream.specs.Messages.{IsStuck}
use Rattle.simplex_stream.specs.Progress.{IsProgress, IsShown, FollowsOn}
use Rattle.simplex_stream.specs.StreamLaws.{IsNeverEmpty, nothing_stuck}

-- the encodings of the messages so far are a prefix of the stream, and the messages are recorded
pub record SoFar {M : Type 0} (format : Format M) (Recorded : List M → Type 0)
    (stream rest : List ℕ) (read : ℕ) : Type 0 where
  pub messages : List M
  pub whole : stream ≡ flat_map format.encoding messages ++ rest
  pub each : All format.is_value messages
  pub read_is : read ≡ length messages
  pub room : read + length rest ≤ length stream
  pub recorded : Recorded messages

pub so_far_start : {M : Type 0} (format : Format M) (Recorded : List M → Type 0) (stream : List ℕ) →
    Recorded [] → SoFar format Recorded stream stream 0
so_far_start format Recorded stream recorded = record {
  messages = [];
  whole = refl;
  each = All-nil format.is_value;
  read_is = refl;
  room = omega arith;
  recorded = recorded;
}

-- one message more follows on
pub follows_next : {M V : Type 0} (follows : List M → V → V → Type 0) →
    ((ms : List M) (m : M) (a b c : V) → follows ms a b → follows (m ∷ []) b c → follows (ms ++ m ∷ []) a c) →
    (ms : List M) (m : M) (a b c : V) → FollowsOn follows ms a b → follows (m ∷ []) b c → FollowsOn follows (ms ++ m ∷ []) a c
follows_next {M} follows more ms m a b c on one first before led =
    subst (λ (ks : List M). follows ks first c) (append_assoc before ms (m ∷ []))
    (more (before ++ ms) m first b c (on first before led) one)

-- what one message more leaves: its value, and the bytes before and after it
pub record IsRead {M : Type 0} (format : Format M) (rest rest' : List ℕ) (m : M) : Type 0 where
  pub value : format.is_value m
  pub parts : rest ≡ format.encoding m ++ rest'
  pub size : length rest ≡ length (format.encoding m) + length rest'

-- the message that was read of some bytes
pub was_read : {M : Type 0} (format : Format M) (rest rest' : List ℕ) (m : M) → IsLawful format → IsBytes rest →
    format.reading rest ≡ Ok (m, rest') → IsRead format rest rest' m
was_read format rest rest' m law bytes e =
    let t = law.takes rest m rest' bytes e in
    record { value = t.value; parts = t.parts; size = ap length t.parts ∙ length-append (format.encoding m) rest' }

-- the message that was read of the rest of a stream and shown
pub record WasShown {M V : Type 0} (format : Format M) (follows : List M → V → V → Type 0) (rest rest' : List ℕ)
    (a b : V) : Type 0 where
  pub message : M
  pub read : IsRead format rest rest' message
  pub taken : follows (message ∷ []) a b

pub was_shown : {M V : Type 0} (format : Format M) (follows : List M → V → V → Type 0) {Recorded : List M → Type 0}
    (stream rest rest' : List ℕ) (read : ℕ) {stop : Option Error} (a b : V) → IsLawful format → IsBytes stream →
    SoFar format Recorded stream rest read → stop ≡ None →
    IsShown format.reading follows (is_none stop) rest rest' a b → WasShown format follows rest rest' a b
was_shown format follows stream rest rest' read a b law fit far none shown =
    let (m, e, on) = subst (λ s. IsShown format.reading follows (is_none s) rest rest' a b) none shown in
    let bytes = IsBytes-after (flat_map format.encoding far.messages) rest (subst IsBytes far.whole fit) in
    record { message = m; read = was_read format rest rest' m law bytes e; taken = on }

-- one message was read
pub so_far_next : {M : Type 0} (format : Format M) (Recorded Recorded' : List M → Type 0) (stream rest rest' : List ℕ)
    (read : ℕ) (m : M) → IsNeverEmpty format → SoFar format Recorded stream rest read → IsRead format rest rest' m →
    ((ms : List M) → Recorded ms → Recorded' (ms ++ m ∷ [])) → SoFar format Recorded' stream rest' (read + 1)
so_far_next {M} format Recorded Recorded' stream rest rest' read m some far one keep =
    let encoded : List M → List ℕ = flat_map format.encoding in
    let longer = some m in
    let room = far.room in
    let size = one.size in
    let joined : encoded (far.messages ++ m ∷ []) ≡ encoded far.messages ++ format.encoding m =
    flat_map-append format.encoding far.messages (m ∷ []) ∙
    ap (λ (t : List ℕ). encoded far.messages ++ t) (append-nil (format.encoding m)) in
    record {
      messages = far.messages ++ m ∷ [];
      whole = far.whole ∙ (ap (λ (t : List ℕ). encoded far.messages ++ t) one.parts ∙
          (sym (append_assoc (encoded far.messages) (format.encoding m) rest') ∙
          ap (λ (t : List ℕ). t ++ rest') (sym joined)));
      each = All-push format.is_value far.messages m far.each one.value;
      read_is = ap (λ (n : ℕ). n + 1) far.read_is ∙ sym (length-append far.messages (m ∷ []));
      room = omega arith;
      recorded = keep far.messages far.recorded;
    }

-- where reading refuses, no message's encoding begins
refused_stuck : {M : Type 0} (format : Format M) (rest : List ℕ) (e : Error) → IsLawful format →
    Fails false e (format.reading rest) → IsStuck format rest
refused_stuck {M} format rest e law fails m more v p =
    go e (subst (Fails false e) (ap format.reading p ∙ law.again m more v) fails)
  where
    go : (e : Error) → Fails {X = M × List ℕ} false e (Ok (m, more)) → ⊥
    go errors.EndOfBuffer h = absurd cc
    go errors.InvalidVarint h = absurd cc
    go errors.InvalidBool h = absurd cc
    go (errors.Invalid a b) h = absurd cc
    go errors.ExtraData h = absurd cc
    go errors.OutOfMemory h = absurd cc

-- an error other than `OutOfMemory` is a refusal of the bytes
pub fails_whatever : {X : Type 0} (memory : Bool) (e : Error) (read : Result X Refusal) → e ≢ errors.OutOfMemory →
    Fails memory e read → Fails false e read
fails_whatever memory errors.EndOfBuffer read other h = h
fails_whatever memory errors.InvalidVarint read other h = h
fails_whatever memory errors.InvalidBool read other h = h
fails_whatever memory (errors.Invalid subject reason) read other h = h
fails_whatever memory errors.ExtraData read other h = h
fails_whatever memory errors.OutOfMemory read other h = absurd (other refl)

-- reading was refused: no more messages stand there
pub progress_at_refusal : {M : Type 0} (format : Format M) (Recorded : List M → Type 0) (stream rest : List ℕ) (read : ℕ)
    (e : Error) → IsLawful format → SoFar format Recorded stream rest read → rest ≢ [] →
    Fails false e (format.reading rest) → IsProgress format Recorded stream rest read (Some e)
progress_at_refusal format Recorded stream rest read e law far some fails = record {
  messages = far.messages;
  are_messages = record { whole = far.whole; each = far.each; stuck = refused_stuck format rest e law fails };
  read_is = far.read_is;
  stop_is = (some, fails);
  recorded = far.recorded;
}

-- nothing is left
pub progress_at_end : {M : Type 0} (format : Format M) (Recorded : List M → Type 0) (stream rest : List ℕ) (read : ℕ) →
    IsNeverEmpty format → SoFar format Recorded stream rest read → rest ≡ [] →
    IsProgress format Recorded stream rest read None
progress_at_end format Recorded stream rest read some far none = record {
  messages = far.messages;
  are_messages = record { whole = far.whole; each = far.each; stuck = nothing_stuck format rest some none };
  read_is = far.read_is;
  stop_is = none;
  recorded = far.recorded;
}

-- a list is empty exactly where its length is 0
pub none_left : {A : Type 0} (xs : List A) → length xs ≡ 0 → xs ≡ []
none_left [] e = refl
none_left (x ∷ xs) e = absurd (omega arith)

pub some_left : {A : Type 0} (xs : List A) → length xs ≢ 0 → xs ≢ []
some_left xs some e = some (ap length e)
