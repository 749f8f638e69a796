-- A map from rounds to values, whose values lie in a slab at places of their own.
use Rattle.std.specs.Prelude.{◌≡◌, ◌≢◌, ⊤, ℕ, List, [], ◌∷◌, Option, Some, cond}
use Rattle.std.specs.BTreeMap as tree
use Rattle.std.specs.List.{filter_map}
use Rattle.std.specs.List.Sorted.{IsStrictlySortedBy}
use Rattle.std.specs.Map.{keys_of, lookup}
use Rattle.std.specs.Option.{IsSome, option_map}
use Rattle.std.specs.declared.cmp.Ordering.{Ordering}
use Rattle.simplex_base.specs.Positions.{Round}
use Rattle.simplex_rules.specs.Accusation.{round_cmp}
use Rattle.slab.specs.Slab as slab

-- no round has this place
abbrev pub IsFree : ℕ → List (Round × ℕ) → Type 0
IsFree place [] = ⊤
IsFree place (e ∷ entries) = (e.1 ≢ place) × IsFree place entries

module _ {V : Type 0} where
  -- the value of a round
  abbrev pub get : (Round → Round → Ordering) → List (Round × V) → Round → Option V
  get cmp entries round = lookup (tree.is_at (cmp round)) entries

  -- the rounds ascend
  abbrev pub IsOrdered : (Round → Round → Ordering) → List (Round × V) → Type 0
  IsOrdered cmp entries = IsStrictlySortedBy cmp (keys_of entries)

  -- new has this at the round, and at each other round what old has
  abbrev pub Updates : List (Round × V) → List (Round × V) → Round → Option V → Type 0
  Updates old new round value =
      (other : Round) → get round_cmp new other ≡ cond (tree.is_at (round_cmp round) other) value (get round_cmp old other)

  -- ---- where the values lie

  -- the values at the places of rounds
  abbrev pub placed : (ℕ → Option V) → List (Round × ℕ) → List (Round × V)
  placed at entries = filter_map (λ e. option_map (λ v. (e.0, v)) (at e.1)) entries

  -- each round has a value, at a place of its own
  abbrev pub ArePlaced : (ℕ → Option V) → List (Round × ℕ) → Type 0
  ArePlaced at [] = ⊤
  ArePlaced at (e ∷ entries) = IsSome (at e.1) × IsFree e.1 entries × ArePlaced at entries

-- what is remembered of the last round is its place
abbrev pub IsPlaceOf : tree.BTreeMap Round ℕ → Option (Round × ℕ) → Type 0
IsPlaceOf places last =
    (round : Round) (place : ℕ) → last ≡ Some (round, place) → tree.get round_cmp places round ≡ Some place

-- each round has a place of its own, and that of the last round is known
pub record IsSound {V : Type 0} (places : tree.BTreeMap Round ℕ) (values : slab.Slab V) (last : Option (Round × ℕ)) :
    Type 0 where
  pub are_placed : ArePlaced (slab.get values) places.entries
  pub is_place : IsPlaceOf places last
