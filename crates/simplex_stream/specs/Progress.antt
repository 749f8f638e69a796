-- What was read of a stream.
use Rattle.std.specs.Prelude.{◌≡◌, ◌+◌, ◌∷◌, [], ◌++◌, ℕ, List, length, Option, Ok, Bool, true, false}
use Rattle.simplex_base.specs.Reading.{Reading}
use Rattle.simplex_base.specs.Format.{Format}
use Rattle.simplex_base.specs.declared.codec.error.Error.{Error}
use Rattle.simplex_stream.specs.Messages.{AreMessages, IsStop}

-- the stream's messages, `read` of them, were read up to the undecoded tail `rest`, `stop` says why none follows, and the
-- messages are recorded
pub record IsProgress {M : Type 0} (format : Format M) (Recorded : List M → Type 0)
    (stream rest : List ℕ) (read : ℕ) (stop : Option Error) : Type 0 where
  pub messages : List M
  pub are_messages : AreMessages format stream messages rest
  pub read_is : read ≡ length messages
  pub stop_is : IsStop format.reading rest stop
  pub recorded : Recorded messages

-- with these messages behind them, the messages that led to the first state lead to the second
abbrev pub FollowsOn : {M V : Type 0} → (List M → V → V → Type 0) → List M → V → V → Type 0
FollowsOn {M} {V} follows messages a b =
    (first : V) (before : List M) → follows before first a → follows (before ++ messages) first b

-- where the first state has room for some bytes and more, the second has room for those that are left and more
abbrev pub LeavesRoom : {V : Type 0} → (V → ℕ → Type 0) → ℕ → ℕ → V → V → Type 0
LeavesRoom has_room bytes left a b = (more : ℕ) → has_room a (bytes + more) → has_room b (left + more)

-- the message at the front of some bytes was read and leads on from the first state, or all is as it was
abbrev pub IsShown : {M V : Type 0} → (List ℕ → Reading M) → (List M → V → V → Type 0) → Bool → List ℕ → List ℕ → V → V → Type 0
IsShown {M} reading follows true old new a b = (m : M) × (reading old ≡ Ok (m, new)) × follows (m ∷ []) a b
IsShown reading follows false old new a b = (new ≡ old) × (b ≡ a)
