-- The files of the parts.
use Rattle.std.specs.Prelude.{◌≡◌, ◌<◌, ◌++◌, ℕ, List, [], codes, decimal, get_or, length}
use Rattle.simplex_splitting.specs.declared.complaints.Trouble.{Trouble}
use Rattle.simplex_splitting.specs.declared.complaints.Trouble.TheVariants.{PartNamed}

-- a file has the name of the part of a class
abbrev pub NamesPart : List ℕ → ℕ → List ℕ → Type 0
NamesPart prefix classes name =
    (class : ℕ) × (class < classes) × (name ≡ prefix ++ (codes "." ++ decimal class))

-- The file at this place has the name of a part, and none before it.
pub record IsFirstPart (prefix : List ℕ) (classes : ℕ) (names : List (List ℕ)) (place : ℕ) : Type 0 where
  pub within : place < length names
  pub named : NamesPart prefix classes (get_or names place [])
  pub before : (k : ℕ) → k < place → ¬ NamesPart prefix classes (get_or names k [])

-- the trouble is that of the first file with the name of a part
abbrev pub IsPartNamed : List ℕ → ℕ → List (List ℕ) → Trouble → Type 0
IsPartNamed prefix classes names (PartNamed place) = IsFirstPart prefix classes names place
IsPartNamed prefix classes names _ = ⊥
