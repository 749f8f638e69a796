-- Where the recorded votes of a round stand.
use Rattle.std.specs.Prelude.{◌≡◌, ℕ, ◌+◌, ◌||◌, Bool, false, List, [], ◌∷◌, ◌++◌, length, map, Option, Some, if◌then◌else◌}
use Rattle.simplex_scheme.specs.Kind.{same_kind}
use Rattle.simplex_scheme.specs.declared.kind.VoteKind.{VoteKind}
use Rattle.simplex_scheme.specs.declared.kind.VoteKind.TheVariants as kinds
use Rattle.simplex_evidence.specs.VoteMap.{item_of}
use Rattle.simplex_ballots.specs.Ballots.{vote_key}
use Rattle.simplex_ballots.specs.declared.firsts.First.{First}
use Rattle.simplex_ballots.specs.declared.index.Index.{Index}
use Rattle.simplex_ballots.specs.declared.placed.Placed.{Placed}

-- the order of the recorded votes of a round
abbrev pub placed_key : Placed → ℕ
placed_key placed = vote_key placed.signer placed.kind placed.is_other

-- where a vote stands among the ballots
abbrev pub place_of : Placed → ℕ
place_of placed = placed.place

-- whether it is a nullify, or its signer has an earlier vote of its kind
abbrev pub is_second : Placed → Bool
is_second placed = same_kind placed.kind kinds.Nullify || placed.is_other

-- then its signer
abbrev pub second_signer : Placed → List ℕ
second_signer placed = if is_second placed then placed.signer ∷ [] else []

-- ---- the earliest votes of a kind

-- one of a kind
abbrev pub as_placed : VoteKind → First → Placed
as_placed kind first = record { signer = first.signer; kind = kind; is_other = false; place = first.place }

-- those of a kind
abbrev pub firsts_in : Index → VoteKind → List First
firsts_in index kinds.Notarize = index.notarizes
firsts_in index kinds.Nullify = index.nullifies
firsts_in index kinds.Finalize = index.finalizes

-- ---- all votes

-- the votes of an index
abbrev pub places_in : Index → List Placed
places_in index =
    map (as_placed kinds.Notarize) index.notarizes ++
    (map (as_placed kinds.Nullify) index.nullifies ++
    (map (as_placed kinds.Finalize) index.finalizes ++ index.others))

-- the vote of a signer and kind, the earliest or the other, if there is one
abbrev pub placed_at : Index → ℕ → VoteKind → Bool → Option Placed
placed_at index signer kind is_other = item_of placed_key (places_in index) (vote_key signer kind is_other)

-- one vote more stands there, and every other stands where it stood
pub record PlacesOne (before after : Index) (placed : Placed) : Type 0 where
  pub added : placed_at after placed.signer placed.kind placed.is_other ≡ Some placed
  pub others : (signer : ℕ) (kind : VoteKind) (is_other : Bool) →
      (vote_key signer kind is_other ≡ placed_key placed → ⊥) →
      placed_at after signer kind is_other ≡ placed_at before signer kind is_other
  pub longer : length (places_in after) ≡ length (places_in before) + 1
