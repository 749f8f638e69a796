-- Committees by their sizes.
use Rattle.std.specs.Prelude.{◌≡◌, ◌≢◌, ℕ, ◌≤◌, List, [], ◌∷◌, All, length}
use Rattle.simplex_scheme.specs.Committees.{Schedule, Every, Listed, AreRising}
use Rattle.simplex_schemes.specs.Vouched.{VouchedScheme, of_size}

-- each epoch with the committee of its size
abbrev pub pairs_of : List ℕ → List ℕ → List (ℕ × VouchedScheme)
pairs_of [] sizes = []
pairs_of (epoch ∷ epochs) [] = []
pairs_of (epoch ∷ epochs) (size ∷ sizes) = (epoch, of_size size) ∷ pairs_of epochs sizes

-- The committees are those of the sizes: without epochs one for every epoch, of the one size; else for each epoch one of the
-- size at its place, and the epochs rise strictly. Each has a participant.
abbrev pub AreSizes : List ℕ → List ℕ → Schedule VouchedScheme → Type 0
AreSizes epochs sizes (Every committee) = (epochs ≡ []) × ((n : ℕ) × (sizes ≡ n ∷ []) × (1 ≤ n) × (committee ≡ of_size n))
AreSizes epochs sizes (Listed pairs) =
    (epochs ≢ []) × (length epochs ≡ length sizes) × All (λ n. 1 ≤ n) sizes × AreRising pairs × (pairs ≡ pairs_of epochs sizes)

-- The sizes, and the epochs if there are some, are those of committees.
abbrev pub AreCommitteeSizes : List ℕ → List ℕ → Type 0
AreCommitteeSizes epochs sizes = (committees : Schedule VouchedScheme) × AreSizes epochs sizes committees
