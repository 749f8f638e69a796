-- Where a stream stops being messages, and why.
use Rattle.std.specs.Prelude.{◌≡◌, ◌≢◌, ℕ, List, [], Option, Some, None, false}
use Rattle.simplex_base.specs.Reading.{Reading, Fails}
use Rattle.simplex_base.specs.declared.codec.error.Error.{Error}
use Rattle.simplex_stream.specs.declared.fault.Fault.{Fault}

-- No fault where the undecoded tail is empty; else the byte where it begins, and the error that reading a message
-- there returns.
abbrev pub IsFault : {M : Type 0} → (List ℕ → Reading M) → ℕ → List ℕ → Option Fault → Type 0
IsFault reading place rest None = rest ≡ []
IsFault reading place rest (Some fault) = (rest ≢ []) × (fault.place ≡ place) × Fails false fault.error (reading rest)

-- the fault at a place, if reading was refused there
abbrev pub fault_of : ℕ → Option Error → Option Fault
fault_of place None = None
fault_of place (Some error) = Some (record { place = place; error = error })
