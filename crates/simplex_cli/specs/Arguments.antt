-- What the arguments of a program name.
use Rattle.std.specs.Prelude.{⊤, ◌≡◌, ◌≢◌, ◌⊎◌, ℕ, ◌<◌, ◌≤◌, ◌^◌, List, [], ◌∷◌, ◌++◌, length, Option, Some, None, Result, Ok, Err, All, String, string_bytes, codes, decimal, drop, map}
use Rattle.std.specs.Global.{Global}
use Rattle.hex.specs.Hex.{decode_sized}
use Rattle.hex.specs.declared.error.FromHexError.{FromHexError}
use Rattle.simplex_schemes.specs.Plain.{PlainScheme}
use Rattle.simplex_schemes.specs.PlainCommittee.{AreCommitteeKeys, IsPlainCommittee}
use Rattle.simplex_scheme.specs.Committees.{Schedule, Every, Listed, AreRising}

-- the words of the arguments of a process: those after the program's name
abbrev pub words_of : List (String Global) → List (List ℕ)
words_of given = map string_bytes (drop 1 given)

-- the key of these bytes
abbrev pub key_of : Result (List ℕ) FromHexError → Option (List ℕ)
key_of (Ok bytes) = Some bytes
key_of (Err e) = None

-- the key that a text names: 64 hexadecimal digits of either case
abbrev pub key_named : List ℕ → Option (List ℕ)
key_named text = key_of (decode_sized text 32)

-- a key in front of others, where all are there
abbrev pub with_key : Option (List ℕ) → Option (List (List ℕ)) → Option (List (List ℕ))
with_key None keys = None
with_key (Some key) None = None
with_key (Some key) (Some keys) = Some (key ∷ keys)

-- the keys that texts name, in the order of the texts
abbrev pub keys_named : List (List ℕ) → Option (List (List ℕ))
keys_named [] = Some []
keys_named (text ∷ texts) = with_key (key_named text) (keys_named texts)

-- a committee may have this many keys: at least one, fewer than 2^32
abbrev pub IsCommitteeSize : ℕ → Type 0
IsCommitteeSize count = (1 ≤ count) × (count < 2 ^ 32)

-- each text names a key, and a committee may have as many
abbrev pub NameKeys : List (List ℕ) → Type 0
NameKeys texts = (keys : List (List ℕ)) × (keys_named texts ≡ Some keys) × IsCommitteeSize (length keys)

-- the texts name these keys: as many as a committee may have, and none twice
pub record AreKeyTexts (texts : List (List ℕ)) (keys : List (List ℕ)) : Type 0 where
  pub named : keys_named texts ≡ Some keys
  pub are_keys : AreCommitteeKeys keys

-- the texts name no such keys
abbrev pub AreNoKeys : List (List ℕ) → Type 0
AreNoKeys texts = (keys : List (List ℕ)) → ¬ AreKeyTexts texts keys

-- the scheme verifies for the committee whose keys the texts name, in any order: a participant's number is the place of its
-- key among them in ascending order
pub record IsNamedCommittee (namespace : List ℕ) (texts : List (List ℕ)) (scheme : PlainScheme) : Type 0 where
  pub keys : List (List ℕ)
  pub named : AreKeyTexts texts keys
  pub committee : IsPlainCommittee namespace keys scheme

-- the text begins a group: its first byte is an `@`
abbrev pub BeginsGroup : List ℕ → Type 0
BeginsGroup text = (rest : List ℕ) × (text ≡ codes "@" ++ rest)

-- there are no texts, or the first begins a group
abbrev pub StandsBeforeGroup : List (List ℕ) → Type 0
StandsBeforeGroup [] = ⊤
StandsBeforeGroup (text ∷ texts) = BeginsGroup text

-- the text that begins the group of an epoch: `@` and the epoch in decimal
abbrev pub epoch_text : ℕ → List ℕ
epoch_text epoch = codes "@" ++ decimal epoch

-- How texts name the committees of a scheme: which committee they name, and which texts may name one.
pub record Naming (S : Type 0) : Type 1 where
  pub names : List (List ℕ) → S → Type 0
  pub may : List (List ℕ) → Type 0

-- what has to hold of it: there is a text at least, none begins a group, and texts that name a committee may name one
pub record IsNaming {S : Type 0} (naming : Naming S) : Type 0 where
  pub some : (committee : S) → ¬ naming.names [] committee
  pub apart : (texts : List (List ℕ)) (committee : S) → naming.names texts committee → All (λ text. ¬ BeginsGroup text) texts
  pub may : (texts : List (List ℕ)) (committee : S) → naming.names texts committee → naming.may texts

-- the texts name no committee
abbrev pub NameNone : {S : Type 0} → Naming S → List (List ℕ) → Type 0
NameNone {S} naming texts = (committee : S) → ¬ naming.names texts committee

-- by the keys of its participants, under a namespace
abbrev pub by_keys : List ℕ → Naming PlainScheme
by_keys namespace = record { names = IsNamedCommittee namespace; may = NameKeys }

-- the texts are groups, each of the text of its epoch and the texts that name its committee
abbrev pub AreGroups : {S : Type 0} → Naming S → List (List ℕ) → List (ℕ × S) → Type 0
AreGroups naming texts [] = texts ≡ []
AreGroups naming texts (pair ∷ pairs) =
    (own rest : List (List ℕ)) × (texts ≡ epoch_text pair.0 ∷ (own ++ rest)) × (pair.0 < 2 ^ 64)
    × naming.names own pair.1 × AreGroups naming rest pairs

-- the texts name one committee for every epoch, or in groups one for each of some epochs, which rise strictly
abbrev pub NameCommittees : {S : Type 0} → Naming S → List (List ℕ) → Schedule S → Type 0
NameCommittees naming texts (Every committee) = naming.names texts committee
NameCommittees naming texts (Listed pairs) = (pairs ≢ []) × AreRising pairs × AreGroups naming texts pairs

-- the texts name no committees
abbrev pub NameNoCommittees : {S : Type 0} → Naming S → List (List ℕ) → Type 0
NameNoCommittees {S} naming texts = (committees : Schedule S) → ¬ NameCommittees naming texts committees

-- the texts begin with groups whose epochs rise, and behind them come the text of an epoch above theirs and texts that may
-- name a committee
pub record BeginAsGroups {S : Type 0} (naming : Naming S) (texts : List (List ℕ)) : Type 0 where
  pub before : List (List ℕ)
  pub pairs : List (ℕ × S)
  pub epoch : ℕ
  pub own : List (List ℕ)
  pub rest : List (List ℕ)
  pub texts_are : texts ≡ before ++ epoch_text epoch ∷ (own ++ rest)
  pub groups : AreGroups naming before pairs
  pub rising : AreRising pairs
  pub above : All (λ pair. pair.0 < epoch) pairs
  pub small : epoch < 2 ^ 64
  pub may : naming.may own
  pub ends : StandsBeforeGroup rest

-- the texts may name a committee, or begin as groups do
abbrev pub BeginAsCommittees : {S : Type 0} → Naming S → List (List ℕ) → Type 0
BeginAsCommittees naming texts = naming.may texts ⊎ BeginAsGroups naming texts

-- the words are a namespace and texts that name these committees
abbrev pub AreArguments : List (List ℕ) → Schedule PlainScheme → Type 0
AreArguments words committees =
    (namespace : List ℕ) × (texts : List (List ℕ)) × (words ≡ namespace ∷ texts)
    × NameCommittees (by_keys namespace) texts committees

-- the words are no namespace and texts that name committees
abbrev pub AreNoArguments : List (List ℕ) → Type 0
AreNoArguments words = (committees : Schedule PlainScheme) → ¬ AreArguments words committees

-- the words are a namespace and texts that name keys, or that begin as groups do
abbrev pub BeginAsArguments : List (List ℕ) → Type 0
BeginAsArguments words =
    (namespace : List ℕ) × (texts : List (List ℕ)) × (words ≡ namespace ∷ texts)
    × BeginAsCommittees (by_keys namespace) texts

-- there are no words, or they name these committees
abbrev pub AreNoneOr : {S : Type 0} → (List (List ℕ) → Schedule S → Type 0) → List (List ℕ) → Option (Schedule S) → Type 0
AreNoneOr Name words None = words ≡ []
AreNoneOr Name words (Some committees) = Name words committees

-- there are no words, or they name these committees as the arguments of `audit` do
abbrev pub AreGiven : List (List ℕ) → Option (Schedule PlainScheme) → Type 0
AreGiven = AreNoneOr AreArguments

-- there are words, and they name no committees
abbrev pub AreNotGiven : List (List ℕ) → Type 0
AreNotGiven words = (committees : Option (Schedule PlainScheme)) → ¬ AreGiven words committees
