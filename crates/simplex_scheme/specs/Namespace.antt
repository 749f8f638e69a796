-- The byte strings under which a committee signs.
use Rattle.std.specs.Prelude.{◌≡◌, ◌≢◌, ◌↔◌, ℕ, List, ◌++◌, codes}

-- the namespace of each kind of vote, and that of seeds
pub record Names : Type 0 where
  pub notarize : List ℕ
  pub nullify : List ℕ
  pub finalize : List ℕ
  pub seed : List ℕ

-- the names of a base: the base, and then what the kind adds
abbrev pub names_of : List ℕ → Names
names_of base = record {
  notarize = base ++ codes "_NOTARIZE";
  nullify = base ++ codes "_NULLIFY";
  finalize = base ++ codes "_FINALIZE";
  seed = base ++ codes "_SEED";
}

-- a name is none of three others
abbrev pub IsNoneOf : List ℕ → List ℕ → List ℕ → List ℕ → Type 0
IsNoneOf name first second third = (name ≢ first) × (name ≢ second) × (name ≢ third)

-- a name of one kind is no name of another kind
pub record AreApart (these those : Names) : Type 0 where
  pub notarize : IsNoneOf these.notarize those.nullify those.finalize those.seed
  pub nullify : IsNoneOf these.nullify those.notarize those.finalize those.seed
  pub finalize : IsNoneOf these.finalize those.notarize those.nullify those.seed
  pub seed : IsNoneOf these.seed those.notarize those.nullify those.finalize

-- two bases have the same name of a kind exactly where they are the same base
pub record DetermineBases (base other : List ℕ) : Type 0 where
  pub notarize : ((names_of base).notarize ≡ (names_of other).notarize) ↔ (base ≡ other)
  pub nullify : ((names_of base).nullify ≡ (names_of other).nullify) ↔ (base ≡ other)
  pub finalize : ((names_of base).finalize ≡ (names_of other).finalize) ↔ (base ≡ other)
  pub seed : ((names_of base).seed ≡ (names_of other).seed) ↔ (base ≡ other)
