-- What is refused is no message.
use Rattle.std.proofs.Common.{◌≡◌, Bool, Ok, refl}
use Rattle.simplex_base.specs.Reading.{Fails}
use Rattle.simplex_base.specs.declared.codec.error.Error.{Error}
use Rattle.simplex_base.specs.declared.codec.error.Error.TheVariants as errors

-- no error but that of memory is of a value
pub never_fails : {X : Type 0} (memory : Bool) (e : Error) (x : X) → (e ≡ errors.OutOfMemory → ⊥) → Fails memory e (Ok x) → ⊥
never_fails memory errors.EndOfBuffer x other fails = absurd cc
never_fails memory errors.InvalidVarint x other fails = absurd cc
never_fails memory errors.InvalidBool x other fails = absurd cc
never_fails memory (errors.Invalid subject reason) x other fails = absurd cc
never_fails memory errors.ExtraData x other fails = absurd cc
never_fails memory errors.OutOfMemory x other fails = other refl
