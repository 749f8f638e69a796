-- The messages of a stream in one order, each once.
use Rattle.std.specs.Prelude.{◌≡◌, ◌↔◌, ◌⊎◌, ℕ, List, [], length, map, Contains}
use Rattle.std.specs.Cmp.Lexicographic.{slice_cmp}
use Rattle.std.specs.List.{flat_map}
use Rattle.std.specs.List.Sorted.{IsStrictlySortedBy}
use Rattle.std.specs.Ordering.{nat_cmp}
use Rattle.std.specs.declared.cmp.Ordering.{Ordering}
use Rattle.simplex_base.specs.Format.{Format}
use Rattle.simplex_stream.specs.Fault.{IsFault}
use Rattle.simplex_stream.specs.Messages.{AreMessages}
use Rattle.simplex_shards.specs.declared.canonical.CanonicalForm.{CanonicalForm}
use Rattle.simplex_shards.specs.declared.canonical.Collector.{Collector}

-- byte strings are ordered as `memcmp` orders them, and a prefix stands before what is longer
abbrev pub bytes_cmp : List ℕ → List ℕ → Ordering
bytes_cmp = slice_cmp nat_cmp

-- two lists have the same elements, in any order and however often
abbrev pub HaveSameElements : {X : Type 0} → List X → List X → Type 0
HaveSameElements {X} xs ys = (x : X) → Contains xs x ↔ Contains ys x

-- The bytes are whole messages: those of the stream up to its end or first fault, each once, in the ascending order of their
-- encodings.
pub record IsCanonical {M : Type 0} (format : Format M) (stream : List ℕ) (form : CanonicalForm) : Type 0 where
  pub messages : List M
  pub rest : List ℕ
  pub are_messages : AreMessages format stream messages rest
  pub read_is : form.read ≡ length messages
  pub fault_is : IsFault format.reading (length (flat_map format.encoding messages)) rest form.fault
  pub chosen : List M
  pub are_chosen : AreMessages format form.bytes.items chosen []
  pub ascending : IsStrictlySortedBy bytes_cmp (map format.encoding chosen)
  pub same : HaveSameElements messages chosen

-- two streams have the same messages, in any order and however often
pub record HaveSameMessages {M : Type 0} (format : Format M) (stream other : List ℕ) : Type 0 where
  pub messages : List M
  pub others : List M
  pub rest : List ℕ
  pub left : List ℕ
  pub are_messages : AreMessages format stream messages rest
  pub are_others : AreMessages format other others left
  pub same : HaveSameElements messages others

-- the encodings that were collected
abbrev pub collected : Collector → List (List ℕ)
collected collector = map (λ message. message.items) collector.messages.keys

-- the encodings of these messages were collected, and no others
pub record Collects {M : Type 0} (encoding : M → List ℕ) (messages : List M) (old new : Collector) : Type 0 where
  pub has : (bytes : List ℕ) →
      Contains (collected new) bytes ↔ (Contains (collected old) bytes ⊎ Contains (map encoding messages) bytes)
