-- What the arguments of `audit_split` begin with.
use Rattle.std.specs.Prelude.{◌≡◌, ◌≢◌, ◌≤◌, ◌<◌, ◌^◌, ℕ, List, [], ◌∷◌, Option, None, Some, codes, decimal}
use Rattle.std.specs.Int.NonZero.{non_zero_u32_get}
use Rattle.simplex_cli.specs.Options.{AreBehindOption}
use Rattle.simplex_cli.specs.declared.verdicts.SignatureSize.{SignatureSize}
use Rattle.simplex_cli.specs.declared.verdicts.SignatureSize.TheVariants.{Bytes48, Bytes64, Bytes96}
use Rattle.simplex_splitting.specs.declared.options.Division.{Division}
use Rattle.simplex_splitting.specs.declared.options.Options.{Options}

-- how many bytes a signature has, without a verdict
abbrev pub bytes_signed : Option SignatureSize → ℕ
bytes_signed None = 32
bytes_signed (Some Bytes48) = 48
bytes_signed (Some Bytes64) = 64
bytes_signed (Some Bytes96) = 96

-- the words are how many bytes signatures have, 32 unless said, a seed, 0 unless said, and words behind
abbrev pub AreBehindHead : List (List ℕ) → Option SignatureSize → ℕ → List (List ℕ) → Type 0
AreBehindHead words signature seed behind =
    (between : List (List ℕ)) × AreBehindOption (codes "--signature") 32 words (bytes_signed signature) between
    × AreBehindOption (codes "--seed") 0 between seed behind

-- the words are a bound, a number of classes and a prefix, and one file or more behind
abbrev pub AreOfCut : List (List ℕ) → Division → List (List ℕ) → Type 0
AreOfCut words division files =
    (words ≡ decimal (non_zero_u32_get division.bound) ∷ decimal (non_zero_u32_get division.classes) ∷ division.prefix.now
    ∷ files)
    × (non_zero_u32_get division.bound < 2 ^ 32) × (non_zero_u32_get division.classes ≤ 65536) × (files ≢ [])

-- the words are the options, each in its place if it is there, what inputs are cut into, and files behind
abbrev pub AreBehindOptions : List (List ℕ) → Options → List (List ℕ) → Type 0
AreBehindOptions words options files =
    (between : List (List ℕ)) × AreBehindHead words options.signature options.seed between
    × AreOfCut between options.division files
