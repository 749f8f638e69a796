-- The messages that a watcher holds, which can stand for those that its window took.
use Rattle.std.specs.Prelude.{◌≡◌, ℕ, [], All, IfSome, IsTrue, List, Option, Vec}
use Rattle.std.specs.Global.{Global}
use Rattle.std.specs.List.{flat_map}
use Rattle.simplex_base.specs.Positions.{Round}
use Rattle.simplex_evidence.specs.Activity.{activity_round}
use Rattle.simplex_evidence.specs.declared.types.activity.Activity.{Activity}
use Rattle.simplex_rules.specs.Independence.{in_rounds, is_from}
use Rattle.simplex_rules.specs.Interchange.{HaveSameState}
use Rattle.simplex_stream.specs.Messages.{AreMessages}
use Rattle.simplex_audit.specs.Basis.{Basis}

-- The bytes are the encodings of messages that have the state of others from a floor on. If the others can be read, they can.
pub record StandsFor {S D C P G : Type 0} (basis : Basis S D C P G) (floor : Round) (taken : List (Activity S D C P G))
    (bytes : List ℕ) : Type 0 where
  pub messages : List (Activity S D C P G)
  pub encoded : bytes ≡ flat_map basis.format.encoding messages
  pub values : All basis.format.is_value taken → All basis.format.is_value messages
  pub state : HaveSameState (in_rounds (is_from floor) basis.rules) messages taken

-- The bytes are whole messages, which have the state of others from a floor on. So they can stand for these there: with any
-- messages before and any behind, the evidence and the splits are the same.
pub record Holds {S D C P G : Type 0} (basis : Basis S D C P G) (floor : Round) (taken : List (Activity S D C P G))
    (bytes : List ℕ) : Type 0 where
  pub messages : List (Activity S D C P G)
  pub are_messages : AreMessages basis.format bytes messages []
  pub state : HaveSameState (in_rounds (is_from floor) basis.rules) messages taken

-- and none of them is of a round below the floor
pub record HoldsNoOther {S D C P G : Type 0} (basis : Basis S D C P G) (floor : Round) (taken : List (Activity S D C P G))
    (bytes : List ℕ) : Type 0 where
  pub holds : Holds basis floor taken bytes
  pub above : All (λ m. IsTrue (is_from floor (activity_round m))) holds.messages

-- they have it and can be read if the others can, if anything is held
abbrev pub StandsIfHeld : {S D C P G : Type 0} → Basis S D C P G → Round → List (Activity S D C P G) →
    Option (Vec ℕ Global) → Type 0
StandsIfHeld basis floor taken held = IfSome held (λ bytes. StandsFor basis floor taken bytes.items)
