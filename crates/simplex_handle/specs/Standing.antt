-- What is said of an auditor of any scheme, said of one whose signatures have some size, or which has keys.
use Rattle.std.specs.Prelude.{ℕ, List}
use Rattle.simplex_base.specs.Format.{Format}
use Rattle.simplex_base.specs.Positions.{Round}
use Rattle.simplex_scheme.specs.Committees.{Schedule}
use Rattle.simplex_scheme.specs.declared.scheme.Attestation.{Attestation}
use Rattle.simplex_schemes.specs.Plain.{PlainScheme}
use Rattle.simplex_schemes.specs.Vouched.{VouchedScheme}
use Rattle.simplex_evidence.specs.declared.types.activity.Activity.{Activity}
use Rattle.simplex_places.specs.Places.{message_places}
use Rattle.simplex_places.specs.declared.places.Placed.{Placed}
use Rattle.simplex_places.specs.declared.repeats.Unverified.{Unverified}
use Rattle.simplex_border.specs.declared.answer.ReportSummary.{ReportSummary}
use Rattle.simplex_tracker.specs.Live.{Follows}
use Rattle.simplex_tracker.specs.declared.live.LiveAuditor.{LiveAuditor}
use Rattle.simplex_handle.specs.Replies as replies
use Rattle.simplex_handle.specs.Roster.{Bases, BasisOf, Encodings, Of48, Of64, Of96, OfKeys, Roster, signature_in, size_in}
use Rattle.simplex_handle.specs.declared.auditor.AnyAuditor.{AnyAuditor}
use Rattle.simplex_handle.specs.declared.auditor.AnyAuditor.TheVariants.{Keyed, Vouched48, Vouched64, Vouched96}

abbrev pub Live : Type 0 → Type 0
Live S = LiveAuditor S (List ℕ) (List ℕ) (List ℕ)

-- something that can be said of an auditor before and after a call, whatever its scheme
abbrev pub Relation : Type 1
Relation = (S : Type 0) → BasisOf S → Schedule S → Live S → Live S → Type 0

-- it is said of two auditors of the roster's kind
abbrev pub Between : Bases → Relation → Roster → AnyAuditor → AnyAuditor → Type 0
Between bases R (Of48 committees) (Vouched48 old) (Vouched48 new) = R VouchedScheme bases.of_48 committees old new
Between bases R (Of64 committees) (Vouched64 old) (Vouched64 new) = R VouchedScheme bases.of_64 committees old new
Between bases R (Of96 committees) (Vouched96 old) (Vouched96 new) = R VouchedScheme bases.of_96 committees old new
Between bases R (OfKeys committees) (Keyed old) (Keyed new) = R PlainScheme bases.of_keys committees old new
Between bases R _ _ _ = ⊥

-- ---- what is said

-- the attestations of a message that begins at a place, from how payloads and signatures are encoded
abbrev pub placed_by : Format (List ℕ) → Format (List ℕ) → (S : Type 0) → ℕ →
    Activity S (List ℕ) (List (Attestation S (List ℕ) (List ℕ))) (List ℕ) (List ℕ) → List Placed
placed_by payload signature S = message_places payload signature (λ certificate. certificate)

-- it follows a stream from a floor on
abbrev pub Following : Round → List ℕ → Relation
Following floor stream = λ S basis committees old new. Follows floor basis committees stream old

-- it was fed what another one held, or nothing
abbrev pub Beginning : List ℕ → Relation
Beginning held = λ S basis committees old new. replies.Begins basis committees held old

module _ (floor : Round) (stream : List ℕ) where
  -- a piece was fed, or nothing lost
  abbrev pub Feeding : List ℕ → ℕ → Relation
  Feeding piece status = λ S basis committees old new.
      replies.Feeds floor basis committees stream piece status old new

  -- all below a floor was given up
  abbrev pub Pruning : Round → Relation
  Pruning lowest = λ S basis committees old new. replies.Prunes floor basis committees stream lowest old new

  -- the report was put into a buffer
  abbrev pub Reporting : List ℕ → List ℕ → ReportSummary → ℕ → Relation
  Reporting before after summary status = λ S basis committees old new.
      replies.Reports floor basis committees stream (λ bytes. bytes) before after summary status old new

  -- the recorded votes were counted
  abbrev pub Counting : ℕ → ℕ → Relation
  Counting count status = λ S basis committees old new.
      replies.Counts floor basis committees stream count status old new

  -- what is held was put into a buffer
  abbrev pub Saving : List ℕ → List ℕ → ℕ → ℕ → Relation
  Saving before after size status = λ S basis committees old new.
      replies.Saves floor basis committees stream before after size status old new

  -- what waited was put into a buffer
  abbrev pub Telling : List ℕ → List ℕ → ℕ → ℕ → Relation
  Telling before after size status = λ S basis committees old new.
      replies.Tells floor basis committees stream (λ bytes. bytes) before after size status old new

  -- what has to be verified of a piece before it is fed was put into a buffer
  abbrev pub Deferring : Encodings → List ℕ → List Unverified → List Unverified → ℕ → ℕ → ℕ → Roster → Relation
  Deferring encodings bytes before after needed whole status roster = λ S basis committees old new.
      replies.Defers floor basis committees stream (placed_by encodings.payload (signature_in encodings roster) S)
      (size_in roster) bytes before after needed whole status old new
