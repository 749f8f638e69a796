-- The messages of a stream, cut by the classes of their rounds.
use Rattle.std.specs.Prelude.{◌≡◌, ◌<◌, ◌==◌, ℕ, List, [], ◌++◌, length, map, filter, slice_get, Some, All, Vec}
use Rattle.std.specs.Global.{Global}
use Rattle.std.specs.List.{flat_map}
use Rattle.simplex_base.specs.Format.{Format}
use Rattle.simplex_base.specs.Positions.{Round}
use Rattle.simplex_stream.specs.Fault.{IsFault}
use Rattle.simplex_stream.specs.Messages.{AreMessages}
use Rattle.simplex_shards.specs.declared.split.Scatter.{Scatter}
use Rattle.simplex_shards.specs.declared.split.Shards.{Shards}

-- the messages of the rounds of one class, in their order
abbrev pub of_class : {M : Type 0} → (M → Round) → (Round → ℕ) → ℕ → List M → List M
of_class round class i messages = filter (λ m. class (round m) == i) messages

-- what each of some parts has
abbrev pub items_in : {A : Type 0} → Vec (Vec A Global) Global → List (List A)
items_in parts = map (λ part. part.items) parts.items

-- the bytes of each part
abbrev pub bytes_of : Shards → List (List ℕ)
bytes_of shards = items_in shards.parts

-- These are the parts of some messages, so many. Each part is whole messages: exactly those whose rounds are of its class, in
-- their order. So each message stands in one part, that of its class.
pub record AreParts {M : Type 0} (format : Format M) (round : M → Round) (class : Round → ℕ) (classes : ℕ) (messages : List M)
    (parts : List (List ℕ)) : Type 0 where
  pub count : length parts ≡ classes
  pub one : All (λ m. class (round m) < classes) messages
  pub each : (i : ℕ) (part : List ℕ) → slice_get parts i ≡ Some part →
      AreMessages format part (of_class round class i messages) []

-- The stream is cut into the parts of its messages, up to its end or first fault.
pub record IsSplit {M : Type 0} (format : Format M) (round : M → Round) (class : Round → ℕ) (classes : ℕ) (stream : List ℕ)
    (shards : Shards) : Type 0 where
  pub messages : List M
  pub rest : List ℕ
  pub are_messages : AreMessages format stream messages rest
  pub read_is : shards.read ≡ length messages
  pub fault_is : IsFault format.reading (length (flat_map format.encoding messages)) rest shards.fault
  pub parts_are : AreParts format round class classes messages (bytes_of shards)

-- the bytes of each part so far
abbrev pub parts_of : Scatter → List (List ℕ)
parts_of scatter = items_in scatter.parts

-- these messages were appended, each to the part of its class
pub record Scatters {M : Type 0} (round : M → Round) (class : Round → ℕ) (encoding : M → List ℕ) (messages : List M)
    (old new : Scatter) : Type 0 where
  pub count : length (parts_of new) ≡ length (parts_of old)
  pub grown : (i : ℕ) (part : List ℕ) → slice_get (parts_of old) i ≡ Some part →
      slice_get (parts_of new) i ≡ Some (part ++ flat_map encoding (of_class round class i messages))
