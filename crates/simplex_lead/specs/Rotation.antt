-- The order in which participants lead, and who leads a term.
use Rattle.std.specs.Prelude.{◌≡◌, ℕ, ◌+◌, ◌%◌, ◌^◌, ◌<◌, ◌⊎◌, List, ◌++◌, length, slice_index, map, Option, Some, None}
use Rattle.std.specs.List.{range_with_len}
use Rattle.std.specs.List.Sorted.{IsPermutation}
use Rattle.std.specs.Int.{to_be_bytes, w32}
use Rattle.std.specs.declared.cmp.Ordering.{Ordering}
use Rattle.std.specs.declared.cmp.Ordering.TheVariants.{Less, Equal}
use Rattle.simplex_base.specs.Positions.{Round}
use Rattle.simplex_base.specs.Terms.{term_of}
use Rattle.simplex_lead.specs.Terms.{Terms}

-- each of the numbers from 0 to n - 1 once
abbrev pub IsArrangement : ℕ → List ℕ → Type 0
IsArrangement n order = IsPermutation (range_with_len 0 n) order

-- what a rotation is made of: the seed of its order, and the structure of terms
pub record Settings : Type 0 where
  pub seed : Option (List ℕ)
  pub terms : Terms

-- the order of n participants: the one that is stored, if there is one, or else that of their numbers
abbrev pub entries : ℕ → Option (List ℕ) → List ℕ
entries n None = range_with_len 0 n
entries n (Some order) = order

-- a rotation: the order, and the structure of terms
pub record Rotation : Type 0 where
  pub order : List ℕ
  pub terms : Terms

module _ {D : Type 0} (compare : D → D → Ordering) (hash : List ℕ → D) where
  -- the hash by which participant i is placed: of the seed and the number in four bytes, the most significant first
  abbrev pub ticket : List ℕ → ℕ → D
  ticket seed i = hash (seed ++ to_be_bytes w32 i)

  -- participant i comes before j: by the hash, then by the number
  abbrev pub Precedes : List ℕ → ℕ → ℕ → Type 0
  Precedes seed i j =
      (compare (ticket seed i) (ticket seed j) ≡ Less) ⊎ ((compare (ticket seed i) (ticket seed j) ≡ Equal) × (i < j))

  -- a participant that stands earlier comes before
  abbrev pub RisesByHash : List ℕ → List ℕ → Type 0
  RisesByHash seed order = (i j : ℕ) → i < j → j < length order → Precedes seed (slice_index order i) (slice_index order j)

  -- the order of n participants: without a seed by their number, and with one by the hash
  abbrev pub IsOrder : Option (List ℕ) → ℕ → List ℕ → Type 0
  IsOrder None n order = order ≡ range_with_len 0 n
  IsOrder (Some seed) n order = IsArrangement n order × RisesByHash seed order

  -- the rotation that settings make of n participants: in their order, and in terms of their structure
  abbrev pub IsRotation : Settings → ℕ → Rotation → Type 0
  IsRotation settings n rotation = IsOrder settings.seed n rotation.order × (rotation.terms ≡ settings.terms)

-- who leads a term of an epoch, the sum being taken of 64 bits
abbrev pub leader : List ℕ → ℕ → ℕ → ℕ
leader order epoch term = slice_index order (((epoch + term) % 2 ^ 64) % length order)

-- in as many terms of one epoch as there are participants, from a first one on, each leads once
abbrev pub EachLeadsOnce : List ℕ → ℕ → ℕ → Type 0
EachLeadsOnce order epoch first =
    IsArrangement (length order) (map (λ i. leader order epoch (first + i)) (range_with_len 0 (length order)))

-- who leads a round
abbrev pub leader_of_round : Rotation → Round → ℕ
leader_of_round rotation round = leader rotation.order round.epoch (term_of rotation.terms.term_length round.view)
