-- What arguments say of signatures that the caller verified.
use Rattle.std.specs.Prelude.{◌≡◌, ℕ, List, [], ◌∷◌, Option, Some, None, codes, decimal}
use Rattle.simplex_scheme.specs.Committees.{Schedule}
use Rattle.simplex_schemes.specs.Vouched.{VouchedScheme, of_size}
use Rattle.simplex_cli.specs.Arguments.{AreNoneOr, IsCommitteeSize, NameCommittees, Naming}
use Rattle.simplex_cli.specs.declared.verdicts.SignatureSize.{SignatureSize}
use Rattle.simplex_cli.specs.declared.verdicts.SignatureSize.TheVariants.{Bytes48, Bytes64, Bytes96}

-- how many bytes a signature has without its verdict, as a text
abbrev pub size_text : SignatureSize → List ℕ
size_text Bytes48 = codes "48"
size_text Bytes64 = codes "64"
size_text Bytes96 = codes "96"

-- the words begin with the option
abbrev pub BeginWithVerdicts : List (List ℕ) → Type 0
BeginWithVerdicts words = (behind : List (List ℕ)) × (words ≡ codes "--verdicts" ∷ behind)

-- the words are `--verdicts`, how many bytes a signature has, and words behind it, or without the option they are these words
abbrev pub AreBehindVerdicts : List (List ℕ) → Option SignatureSize → List (List ℕ) → Type 0
AreBehindVerdicts words None behind = (BeginWithVerdicts words → ⊥) × (behind ≡ words)
AreBehindVerdicts words (Some size) behind = words ≡ codes "--verdicts" ∷ size_text size ∷ behind

-- the texts are one number of participants
abbrev pub AreCount : List (List ℕ) → ℕ → Type 0
AreCount texts count = (texts ≡ decimal count ∷ []) × IsCommitteeSize count

-- by how many participants the committee has
abbrev pub by_count : Naming VouchedScheme
by_count = record {
  names = λ texts committee. (count : ℕ) × AreCount texts count × (committee ≡ of_size count);
  may = λ texts. (count : ℕ) × AreCount texts count;
}

-- there are no texts, or they name these committees by their numbers of participants
abbrev pub AreCountsGiven : List (List ℕ) → Option (Schedule VouchedScheme) → Type 0
AreCountsGiven = AreNoneOr (NameCommittees by_count)

-- there are texts, and they name no committees so
abbrev pub AreNoCountsGiven : List (List ℕ) → Type 0
AreNoCountsGiven texts = (committees : Option (Schedule VouchedScheme)) → ¬ AreCountsGiven texts committees
