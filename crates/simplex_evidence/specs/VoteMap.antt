-- The first item of each signer: a finite map from signers, walked in their order.
use Rattle.std.specs.Prelude.{◌≡◌, ℕ, ◌+◌, ◌<◌, ◌==◌, List, length, All, Option, Some, find, map, nat_eq, nat_lt, ◌≤◌, slice_index_or}
use Rattle.std.specs.List.{AllPairs, filter}
use Rattle.std.specs.Set.{distinct_count}

-- how many participants there are, and the items of those that have one, in the order of their numbers
pub record VoteMap (X : Type 0) : Type 0 where
  pub participants : ℕ
  pub items : List X

-- `signer` gives the participant that signed an item
module _ {X : Type 0} (signer : X → ℕ) where
  -- the first item of a signer
  abbrev pub item_of : List X → ℕ → Option X
  item_of items s = find (λ item. signer item == s) items

  -- the signers ascend, so none comes twice
  abbrev pub IsBySigner : List X → Type 0
  IsBySigner items = AllPairs (λ a b. signer a < signer b) items

  -- each signer is one of n participants
  abbrev pub AreParticipants : ℕ → List X → Type 0
  AreParticipants n items = All (λ item. signer item < n) items

  -- new has the item for its signer, and for every other signer what old has
  pub record AddsOnly (old new : List X) (item : X) : Type 0 where
    pub added : item_of new (signer item) ≡ Some item
    pub others : (s : ℕ) → (s ≡ signer item → ⊥) → item_of new s ≡ item_of old s
    pub longer : length new ≡ length old + 1

  -- for each of n participants the items hold the first that was inserted, and no other, in the order of the signers
  pub record IsFirsts (n : ℕ) (inserted items : List X) : Type 0 where
    pub ordered : IsBySigner items
    pub within : AreParticipants n items
    pub first : (s : ℕ) → s < n → item_of items s ≡ item_of inserted s

  -- how many of n participants signed some of these
  abbrev pub signers_among : ℕ → List X → ℕ
  signers_among n items = distinct_count nat_eq (filter (λ s. nat_lt s n) (map signer items))

-- the item of signer s would go to this place: smaller signers stand before it, and greater ones from it on
pub record IsGap {X : Type 0} (signer : X → ℕ) (items : List X) (s place : ℕ) : Type 0 where
  pub in_range : place ≤ length items
  pub smaller_before : (i : ℕ) (d : X) → i < place → signer (slice_index_or items i d) < s
  pub greater_after : (i : ℕ) (d : X) → place ≤ i → i < length items → s < signer (slice_index_or items i d)
