-- What further bytes change of a reading: nothing, unless the bytes ended too early.
use Rattle.std.specs.Prelude.{◌≡◌, ◌++◌, ◌+◌, ◌<◌, ◌≤◌, ◌⊎◌, ℕ, List, Ok, Err, IfOk, length}
use Rattle.simplex_base.specs.Reading.{Reading, end_of_buffer}

-- what was read, with more bytes behind it
abbrev pub before : {T : Type 0} → List ℕ → Reading T → Reading T
before more (Ok x) = Ok (x.0, x.1 ++ more)
before more (Err refusal) = Err refusal

-- the bytes end too early, and are shorter than the longest encoding
pub record EndsEarly {T : Type 0} (reading : List ℕ → Reading T) (longest : ℕ) (bytes : List ℕ) : Type 0 where
  pub refused : reading bytes ≡ Err end_of_buffer
  pub short : length bytes < longest

-- the value or the refusal is the same whatever bytes follow, and a value takes no more bytes than the longest encoding
pub record IsSettled {T : Type 0} (reading : List ℕ → Reading T) (longest : ℕ) (bytes : List ℕ) : Type 0 where
  pub same : (more : List ℕ) → reading (bytes ++ more) ≡ before more (reading bytes)
  pub within : IfOk (reading bytes) (λ x. length bytes ≤ longest + length x.1)

-- Each refusal but `end_of_buffer` is final: it is the refusal of every longer input too. Bytes refused by `end_of_buffer`
-- are shorter than the longest encoding.
abbrev pub IsFinal : {T : Type 0} → (List ℕ → Reading T) → ℕ → Type 0
IsFinal reading longest = (bytes : List ℕ) → EndsEarly reading longest bytes ⊎ IsSettled reading longest bytes
