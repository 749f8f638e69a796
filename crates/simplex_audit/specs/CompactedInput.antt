-- What is compacted of an input that comes in pieces, and what is written of it.
use Rattle.std.specs.Prelude.{◌≡◌, ◌⊎◌, ◌++◌, All, ℕ, IsTrue, List, [], Option}
use Rattle.std.specs.List.{flat_map}
use Rattle.std.specs.Io.KnownBytes.{Appends}
use Rattle.simplex_base.specs.Format.{IsLawful}
use Rattle.simplex_base.specs.Positions.{Round}
use Rattle.simplex_evidence.specs.declared.types.activity.Activity.{Activity}
use Rattle.simplex_detector.specs.Detector.{Recalls}
use Rattle.simplex_rules.specs.News.{compacted}
use Rattle.simplex_rules.specs.declared.judging.Judging.TheVariants.{From}
use Rattle.simplex_stream.specs.Decoder.{HasDecoded, bytes_fed, decoding_over}
use Rattle.simplex_stream.specs.Messages.{AreMessages}
use Rattle.simplex_stream.specs.Text.{AppendsBeginning}
use Rattle.simplex_audit.specs.Basis.{Basis, basis_from}
use Rattle.simplex_audit.specs.Compaction.{IsCompacted}
use Rattle.simplex_audit.specs.declared.compacted_input.Compacted.{Compacted}
use Rattle.simplex_audit.specs.declared.compacted_input.InputCompactor.{InputCompactor}

module _ {S D C P G : Type 0} (basis : Basis S D C P G) where
  -- what is kept of messages, as bytes
  abbrev pub kept_bytes : List (Activity S D C P G) → List ℕ
  kept_bytes messages = flat_map basis.format.encoding (compacted basis.rules messages)

  -- the compaction of an input was written, and it is said how many of its messages were read, up to which fault
  pub record WritesCompaction (input : List ℕ) (said : Compacted) (old new : Option (List ℕ)) : Type 0 where
    pub bytes : List ℕ
    pub compacted : IsCompacted basis input bytes said.read said.fault
    pub written : Appends old new bytes

  -- a front of the compaction of an input was written, perhaps nothing or the whole
  abbrev pub BeginsCompaction : List ℕ → Option (List ℕ) → Option (List ℕ) → Type 0
  BeginsCompaction input old new =
      (messages : List (Activity S D C P G)) (rest : List ℕ) → AreMessages basis.format input messages rest →
      AppendsBeginning old new (kept_bytes messages)

-- ---- inside

-- how many bytes were fed
abbrev pub fed_of : {S D P G : Type 0} → InputCompactor S D P G → ℕ
fed_of state = bytes_fed state.decoder

-- what was kept and not written yet
abbrev pub unwritten : {S D P G : Type 0} → InputCompactor S D P G → List ℕ
unwritten state = state.compactor.kept.items

-- The messages of an input from a floor on were compacted, or those of a front of it behind which nothing can be read. What is
-- kept of them was written, but for what is not written yet.
pub record HasCompacted {S D C P G : Type 0} (is_value : Activity S D C P G → Type 0) (floor : Round) (whole : Basis S D C P G)
    (state : InputCompactor S D P G) (input : List ℕ) (old new : Option (List ℕ)) : Type 0 where
  pub readable : IsLawful whole.format
  pub judging : state.compactor.recorder.judging ≡ From floor
  pub front : List ℕ
  pub behind : List ℕ
  pub parts : input ≡ front ++ behind
  pub unread : (behind ≡ []) ⊎ IsTrue (decoding_over state.decoder)
  pub messages : List (Activity S D C P G)
  pub decoded : HasDecoded whole.format front messages state.decoder
  pub recalls : Recalls (basis_from floor whole).rules messages state.compactor.recorder.detector
  pub values : All is_value (compacted (basis_from floor whole).rules messages)
  pub bytes : List ℕ
  pub written : Appends old new bytes
  pub kept : kept_bytes (basis_from floor whole) messages ≡ bytes ++ unwritten state
