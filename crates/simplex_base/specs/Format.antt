-- Formats: which values there are, how each is encoded, and how it is read.
use Rattle.std.specs.Prelude.{◌≡◌, ◌++◌, ◌∷◌, [], ◌==◌, ⊤, ℕ, Bool, true, false, IsTrue, List, Ok, Err, nat_lt, take, drop, length, if◌then◌else◌}
use Rattle.simplex_base.specs.Reading.{Reading, Refusal, ◌>>=◌, IsBytes, end_of_buffer, invalid_bool}

-- x is a value, and the bytes are its encoding and then the rest
pub record Encoded {T : Type 0} (is_value : T → Type 0) (encoding : T → List ℕ) (bytes : List ℕ) (x : T)
    (rest : List ℕ) : Type 0 where
  pub value : is_value x
  pub parts : bytes ≡ encoding x ++ rest

-- Reading gives the value whose encoding is a prefix of the input, and gives it wherever there is one.
pub record Lawful {T : Type 0} (is_value : T → Type 0) (encoding : T → List ℕ) (reading : List ℕ → Reading T) : Type 0 where
  pub takes : (bytes : List ℕ) (x : T) (rest : List ℕ) → IsBytes bytes → reading bytes ≡ Ok (x, rest) →
      Encoded is_value encoding bytes x rest
  pub again : (x : T) (rest : List ℕ) → is_value x → reading (encoding x ++ rest) ≡ Ok (x, rest)

-- the format of a type
pub record Format (T : Type 0) : Type 1 where
  pub is_value : T → Type 0
  pub encoding : T → List ℕ
  pub reading : List ℕ → Reading T

abbrev pub IsLawful : {T : Type 0} → Format T → Type 0
IsLawful f = Lawful f.is_value f.encoding f.reading

-- ---- a type that can be read

-- what `Read` states of a type that is read under a configuration
abbrev pub Readable : Type 0 → Type 0 → Type 1
Readable C T = record {
  is_value : T → Type 0;
  encoding : T → List ℕ;
  fits : C → T → Type 0;
  reading : C → List ℕ → Reading T;
  takes_memory : Bool;
}

-- the format of the values that are read under this configuration
abbrev pub format_under : {C T : Type 0} → Readable C T → C → Format T
format_under type cfg = record { is_value = type.fits cfg; encoding = type.encoding; reading = type.reading cfg }

-- the format of a type that needs no configuration
abbrev pub format_of : {T : Type 0} → Readable Unit T → Format T
format_of type = format_under type tt

-- ---- one part after the other

abbrev pub BothAre : {A B : Type 0} → (A → Type 0) → (B → Type 0) → A × B → Type 0
BothAre is_a is_b p = is_a p.0 × is_b p.1

abbrev pub both_encoded : {A B : Type 0} → (A → List ℕ) → (B → List ℕ) → A × B → List ℕ
both_encoded first second p = first p.0 ++ second p.1

abbrev pub both_at : {A B : Type 0} → (List ℕ → Reading A) → (List ℕ → Reading B) → List ℕ → Reading (A × B)
both_at first second bytes = first bytes >>= λ a. second a.1 >>= λ b. Ok ((a.0, b.0), b.1)

abbrev pub both : {A B : Type 0} → Format A → Format B → Format (A × B)
both f g = record {
  is_value = BothAre f.is_value g.is_value;
  encoding = both_encoded f.encoding g.encoding;
  reading = both_at f.reading g.reading;
}

-- ---- a value made of its parts

abbrev pub made_at : {A B : Type 0} → (A → B) → (List ℕ → Reading A) → List ℕ → Reading B
made_at make read bytes = read bytes >>= λ a. Ok (make a.0, a.1)

abbrev pub made : {A B : Type 0} → (A → B) → (B → A) → Format A → Format B
made make parts f =
    record { is_value = λ b. f.is_value (parts b); encoding = λ b. f.encoding (parts b); reading = made_at make f.reading }

-- ---- a fixed number of bytes

-- a list of exactly this many bytes
pub record IsFixed (size : ℕ) (bytes : List ℕ) : Type 0 where
  pub len : length bytes ≡ size
  pub fit : IsBytes bytes

-- the value of the first size bytes
abbrev pub fixed_at : {T : Type 0} → ℕ → (List ℕ → T) → List ℕ → Reading T
fixed_at size of_bytes bytes =
    if nat_lt (length bytes) size then Err end_of_buffer else Ok (of_bytes (take size bytes), drop size bytes)

abbrev pub fixed : {T : Type 0} → ℕ → (T → List ℕ) → (List ℕ → T) → Format T
fixed size bytes_of of_bytes =
    record { is_value = λ x. IsFixed size (bytes_of x); encoding = bytes_of; reading = fixed_at size of_bytes }

-- ---- a value that meets a condition, which is tested after its last part

abbrev pub tested_at : {T : Type 0} → (T → Bool) → Refusal → (List ℕ → Reading T) → List ℕ → Reading T
tested_at test refusal read bytes = read bytes >>= λ x. if test x.0 then Ok x else Err refusal

abbrev pub tested : {T : Type 0} → (T → Bool) → Refusal → Format T → Format T
tested test refusal f =
    record { is_value = λ x. f.is_value x × IsTrue (test x); encoding = f.encoding; reading = tested_at test refusal f.reading }

-- ---- a boolean: 0 for false, 1 for true

abbrev pub truth_encoding : Bool → List ℕ
truth_encoding b = (if b then 1 else 0) ∷ []

abbrev pub truth_at : List ℕ → Reading Bool
truth_at [] = Err end_of_buffer
truth_at (b ∷ bytes) = if b == 0 then Ok (false, bytes) else (if b == 1 then Ok (true, bytes) else Err invalid_bool)

abbrev pub truth : Format Bool
truth = record { is_value = λ b. ⊤; encoding = truth_encoding; reading = truth_at }
