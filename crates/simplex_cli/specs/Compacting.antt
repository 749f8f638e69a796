-- What `audit_compact` makes of its arguments and its input.
use Rattle.std.specs.Prelude.{◌≡◌, ◌⊎◌, ℕ, ◌<◌, ◌^◌, IfSome, IsTrue, List, ◌∷◌, Option, codes, decimal}
use Rattle.std.specs.Io.KnownBytes.{Consumes, IsAtEnd}
use Rattle.simplex_base.specs.Positions.{Round}
use Rattle.simplex_schemes.specs.Plain.{PlainScheme}
use Rattle.simplex_scheme.specs.Committees.{Schedule}
use Rattle.simplex_rules.specs.Independence.{first_round}
use Rattle.simplex_stream.specs.declared.fault.Fault.{Fault}
use Rattle.simplex_audit.specs.Basis.{basis_from}
use Rattle.simplex_audit.specs.CompactedInput.{BeginsCompaction, WritesCompaction}
use Rattle.simplex_audit.specs.Outcome.{ReaderUse, WriterUse}
use Rattle.simplex_audit.specs.declared.compacted_input.Compacted.{Compacted}
use Rattle.simplex_cli.specs.Answer.{Bases, Ending, WritingEnds}
use Rattle.simplex_cli.specs.Arguments.{AreArguments}

-- the words begin with the option
abbrev pub BeginWithFloor : List (List ℕ) → Type 0
BeginWithFloor words = (behind : List (List ℕ)) × (words ≡ codes "--floor" ∷ behind)

-- the words are `--floor`, a floor and words behind it, or without the option the floor is the first round
abbrev pub AreFromFloor : List (List ℕ) → Round → List (List ℕ) → Type 0
AreFromFloor words floor behind =
    ((words ≡ codes "--floor" ∷ decimal floor.epoch ∷ decimal floor.view ∷ behind)
    × (floor.epoch < 2 ^ 64) × (floor.view < 2 ^ 64))
    ⊎ ((BeginWithFloor words → ⊥) × (floor ≡ first_round) × (behind ≡ words))

-- the words name a floor, and behind it committees as the arguments of `audit` do
abbrev pub NameFloor : List (List ℕ) → Round → Schedule PlainScheme → Type 0
NameFloor words floor committees =
    (behind : List (List ℕ)) × AreFromFloor words floor behind × AreArguments behind committees

-- they do not
abbrev pub NameNoFloor : List (List ℕ) → Type 0
NameNoFloor words = (floor : Round) (committees : Schedule PlainScheme) → ¬ NameFloor words floor committees

-- A whole input was read, and exactly its compaction was written and flushed, by the committees and from the floor that the
-- arguments name.
pub record IsCompactedInput (basis : Bases) (words : List (List ℕ)) (reader : ReaderUse) (writer : WriterUse)
    (fault : Option Fault) : Type 0 where
  pub floor : Round
  pub committees : Schedule PlainScheme
  pub input : List ℕ
  pub said : Compacted
  pub named : NameFloor words floor committees
  pub consumed : Consumes reader.before reader.after input
  pub ended : IsAtEnd reader.after
  pub written : WritesCompaction (basis_from floor (basis committees)) input said writer.before writer.after
  pub flushed : IsTrue writer.flushed
  pub fault_is : said.fault ≡ fault

-- A front of the compaction of an input was written, perhaps nothing or the whole.
pub record IsCompactionBegun (basis : Bases) (words : List (List ℕ)) (reader : ReaderUse) (writer : WriterUse) : Type 0 where
  pub floor : Round
  pub committees : Schedule PlainScheme
  pub named : NameFloor words floor committees
  pub written : IfSome reader.before (λ input.
      BeginsCompaction (basis_from floor (basis committees)) input writer.before writer.after)

-- what holds of the arguments, of the reader and of the writer after an ending
abbrev pub CompactEnds : Bases → List (List ℕ) → ReaderUse → WriterUse → Ending → Type 0
CompactEnds basis words reader writer =
    WritingEnds (NameNoFloor words) (IsCompactedInput basis words reader writer) (IsCompactionBegun basis words reader writer)
    reader writer
