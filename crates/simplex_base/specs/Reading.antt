-- What reading a prefix of some bytes gives, and what a call that reads may return.
use Rattle.std.specs.Prelude.{◌≡◌, ◌==◌, ◌&&◌, Bool, true, false, IsTrue, if◌then◌else◌, length, ℕ, ◌<◌, List, Result, Ok, Err, slice_index_or}
use Rattle.std.specs.Str.{bytes_eq}
use Rattle.simplex_base.specs.declared.codec.error.Error.{Error}
use Rattle.simplex_base.specs.declared.codec.error.Error.TheVariants as errors

-- why something can't be read
pub data Refusal : Type 0 where
  end_of_buffer : Refusal
  invalid_varint : Refusal
  invalid_bool : Refusal
  invalid : List ℕ → List ℕ → Refusal
  extra_data : Refusal

-- a value and the bytes after it, or the refusal
abbrev pub Reading : Type 0 → Type 0
Reading T = Result (T × List ℕ) Refusal

-- what comes after a step that gave something
infixl 10 ◌>>=◌
abbrev pub ◌>>=◌ : {A B : Type 0} → Result A Refusal → (A → Result B Refusal) → Result B Refusal
(Ok x) >>= f = f x
(Err e) >>= f = Err e

-- each is a byte
abbrev pub IsBytes : List ℕ → Type 0
IsBytes bytes = (i : ℕ) → slice_index_or bytes i 0 < 256

-- whether two errors are the same: the variant, and of an invalid value its type and the condition
abbrev pub same_error : Error → Error → Bool
same_error errors.EndOfBuffer errors.EndOfBuffer = true
same_error errors.InvalidVarint errors.InvalidVarint = true
same_error errors.InvalidBool errors.InvalidBool = true
same_error (errors.Invalid type condition) (errors.Invalid other_type other_condition) =
    bytes_eq type.now other_type.now && bytes_eq condition.now other_condition.now
same_error errors.ExtraData errors.ExtraData = true
same_error errors.OutOfMemory errors.OutOfMemory = true
same_error _ _ = false

-- an error of the code is this refusal, or `OutOfMemory` where the call may allocate
abbrev pub Fails : {X : Type 0} → Bool → Error → Result X Refusal → Type 0
Fails memory errors.EndOfBuffer read = read ≡ Err end_of_buffer
Fails memory errors.InvalidVarint read = read ≡ Err invalid_varint
Fails memory errors.InvalidBool read = read ≡ Err invalid_bool
Fails memory (errors.Invalid subject reason) read = read ≡ Err (invalid subject.now reason.now)
Fails memory errors.ExtraData read = read ≡ Err extra_data
Fails memory errors.OutOfMemory read = IsTrue memory

-- A call returned what reading gives, and moved the input past the value. An error leaves the input as it was.
abbrev pub Gives : {T : Type 0} → Bool → Result T Error → List ℕ → List ℕ → Reading T → Type 0
Gives memory (Ok x) old new read = read ≡ Ok (x, new)
Gives memory (Err e) old new read = (new ≡ old) × Fails memory e read

-- the same where the call returned the rest of the input too
abbrev pub GivesRest : {X T : Type 0} → Bool → (X → T × List ℕ) → Result X Error → Reading T → Type 0
GivesRest memory parts (Ok x) read = read ≡ Ok (parts x)
GivesRest memory parts (Err e) read = Fails memory e read

-- the same where all of the input is to be read
abbrev pub GivesAll : {T : Type 0} → Bool → Result T Error → Result T Refusal → Type 0
GivesAll memory (Ok x) read = read ≡ Ok x
GivesAll memory (Err e) read = Fails memory e read

-- a value that is all of the bytes
abbrev pub all_of : {T : Type 0} → (List ℕ → Reading T) → List ℕ → Result T Refusal
all_of read bytes = read bytes >>= λ x. if length x.1 == 0 then Ok x.0 else Err extra_data
