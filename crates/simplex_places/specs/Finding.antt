-- What a finder does with messages.
use Rattle.std.specs.Prelude.{◌≡◌, ℕ, ◌+◌, Bool, List, length}
use Rattle.std.specs.List.{flat_map}
use Rattle.std.specs.declared.cmp.Ordering.{Ordering}
use Rattle.simplex_places.specs.FirstPlaces.{NotesAlong}
use Rattle.simplex_places.specs.declared.first_places.Carried.{Carried}
use Rattle.simplex_places.specs.declared.first_places.Finder.{Finder}

-- the votes of these messages were noted, the first message beginning at the place: `votes` gives the votes of a message that
-- begins at a place, each with where it stands
pub record Finds {M V K : Type 0} (cmp : K → K → Ordering) (eq : K → K → Bool) (key_of : V → K)
    (votes : ℕ → M → List (V × Carried)) (encoding : M → List ℕ) (messages : List M) (old new : Finder K) : Type 0 where
  pub noted : NotesAlong cmp eq key_of votes encoding old.place old.places new.places messages
  pub place_is : new.place ≡ old.place + length (flat_map encoding messages)
