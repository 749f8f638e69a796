-- Which stream an auditor follows that owns its committees, and what it holds of it.
use Rattle.std.specs.Prelude.{◌≡◌, ◌⊎◌, ℕ, ◌+◌, Bool, All, List, [], ◌++◌, Option, Some, None, map}
use Rattle.std.specs.Int.{from_bool}
use Rattle.std.specs.Option.{is_some}
use Rattle.simplex_base.specs.Positions.{Round}
use Rattle.simplex_scheme.specs.Committees.{Schedule}
use Rattle.simplex_votes.specs.Votes.{SignedVote}
use Rattle.simplex_evidence.specs.Contradiction.{Equivocation}
use Rattle.simplex_evidence.specs.declared.types.activity.Activity.{Activity}
use Rattle.simplex_rules.specs.Accusation.{Accusation, accused_by}
use Rattle.simplex_alarm.specs.Alarm.{Told}
use Rattle.simplex_alarm.specs.Alerts.{times_accused}
use Rattle.simplex_rules.specs.Evidence.{evidence_of}
use Rattle.simplex_rules.specs.Interchange.{HaveSameState}
use Rattle.simplex_rules.specs.News.{FewAreKept, compacted}
use Rattle.simplex_rules.specs.Rules.{valid_votes}
use Rattle.simplex_rules.specs.Arising.{splits_arising}
use Rattle.simplex_rules.specs.Values.{evidence_value}
use Rattle.simplex_alarm.specs.declared.alarm.News.{News}
use Rattle.simplex_rules.specs.declared.split.Split.{Split}
use Rattle.simplex_stream.specs.Messages.{AreMessages, IsOver}
use Rattle.simplex_audit.specs.Basis.{Basis, basis_from}
use Rattle.simplex_tracker.specs.Tracking.{IsQuiet, Tracks}
use Rattle.simplex_tracker.specs.declared.live.LiveAuditor.{LiveAuditor}
use Rattle.simplex_tracker.specs.declared.tracker.Tracker.{Tracker}

-- Some bytes can stand for a stream: their messages have the state of the stream's, and both have the same undecoded tail. So
-- with any bytes behind them both have the same evidence and the same splits, as messages with the same state do.
pub record CanStandFor {S D C P G : Type 0} (basis : Basis S D C P G) (bytes stream : List ℕ) : Type 0 where
  pub messages : List (Activity S D C P G)
  pub others : List (Activity S D C P G)
  pub rest : List ℕ
  pub bytes_are : AreMessages basis.format bytes messages rest
  pub stream_is : AreMessages basis.format stream others rest
  pub state : HaveSameState basis.rules messages others

-- they are as few as a compaction leaves
pub record IsShort {S D C P G : Type 0} (basis : Basis S D C P G) (bytes : List ℕ) : Type 0 where
  pub messages : List (Activity S D C P G)
  pub rest : List ℕ
  pub bytes_are : AreMessages basis.format bytes (compacted basis.rules messages) rest
  pub few : FewAreKept basis.rules messages

-- a stream is tracked, and all that arose in it was taken
pub record TracksAll {S D C P G : Type 0} (floor : Round) (basis : Basis S D C P G) (stream : List ℕ)
    (tracker : Tracker S D P G) : Type 0 where
  pub told : Told D G
  pub tracks : Tracks floor basis told stream tracker
  pub quiet : IsQuiet tracker

-- a stream is tracked, or it is what is held, which is tracked again when it is wanted
abbrev pub IsTracked : {S D C P G : Type 0} → Round → Basis S D C P G → List ℕ → List ℕ → Option (Tracker S D P G) → Type 0
IsTracked floor basis held stream None = stream ≡ held
IsTracked floor basis held stream (Some tracker) = TracksAll floor basis stream tracker

-- the messages that an auditor holds, and the bytes behind them
abbrev pub held_by : {S D P G : Type 0} → LiveAuditor S D P G → List ℕ
held_by live = live.log.items

-- what arose and was not handed over yet
abbrev pub evidence_waiting : {S D P G : Type 0} → LiveAuditor S D P G → List (Equivocation D G)
evidence_waiting live = map evidence_value live.news.evidence.items

abbrev pub splits_waiting : {S D P G : Type 0} → LiveAuditor S D P G → List Split
splits_waiting live = live.news.splits.items

-- An auditor of these committees follows a stream from a floor on: it was fed exactly the stream, and what it holds can stand
-- for it. All that arose in it was handed over or waits to be.
pub record Follows {S D C P G : Type 0} (floor : Round) (basis : Schedule S → Basis S D C P G) (committees : Schedule S)
    (stream : List ℕ) (live : LiveAuditor S D P G) : Type 0 where
  pub floor_is : live.floor ≡ floor
  pub committees_are : live.committees ≡ committees
  pub held : CanStandFor (basis_from floor (basis committees)) (held_by live) stream
  pub tracked : IsTracked floor (basis committees) (held_by live) stream live.tracker

-- Some evidence is exactly what votes have and fewer votes before them had not, each once.
pub record ArisesBetween {D G : Type 0} (eq : D → D → Bool) (before after : List (SignedVote D G))
    (es : List (Equivocation D G)) : Type 0 where
  pub sound : All (λ e. evidence_of eq after (accused_by e) ≡ Some e) es
  pub once : (n : Accusation) → from_bool (is_some (evidence_of eq before n)) + times_accused es n
      ≡ from_bool (is_some (evidence_of eq after n))

-- The evidence and the splits are what a stream has and a prefix of it had not: each evidence once, and each split as often as
-- more participants are accused in its round.
pub record AreNews {S D C P G : Type 0} (basis : Basis S D C P G) (before after : List ℕ) (es : List (Equivocation D G))
    (splits : List Split) : Type 0 where
  pub messages : List (Activity S D C P G)
  pub rest : List ℕ
  pub before_is : AreMessages basis.format before messages rest
  pub later : List (Activity S D C P G)
  pub left : List ℕ
  pub after_is : AreMessages basis.format after later left
  pub evidence : ArisesBetween basis.rules.eq (valid_votes basis.rules messages) (valid_votes basis.rules later) es
  pub splits_are : splits_arising basis.rules [] messages ++ splits ≡ splits_arising basis.rules [] later

-- A stream has a fault behind which nothing can be read, whatever follows.
pub record HasEnded {S D C P G : Type 0} (basis : Basis S D C P G) (stream : List ℕ) : Type 0 where
  pub messages : List (Activity S D C P G)
  pub rest : List ℕ
  pub are_messages : AreMessages basis.format stream messages rest
  pub over : IsOver basis.format.reading rest

-- what waits is as it was
pub record WaitSame {S D P G : Type 0} (old new : News S D P G) : Type 0 where
  pub evidence : new.evidence.items ≡ old.evidence.items
  pub splits : new.splits.items ≡ old.splits.items

-- A stream is tracked with a piece appended, and what the piece completes waits behind what waited.
pub record Advances {S D C P G : Type 0} (floor : Round) (basis : Basis S D C P G) (stream piece : List ℕ)
    (tracker : Tracker S D P G) (old new : News S D P G) : Type 0 where
  pub tracks : TracksAll floor basis (stream ++ piece) tracker
  pub evidence : List (Equivocation D G)
  pub splits : List Split
  pub are_news : AreNews (basis_from floor basis) stream (stream ++ piece) evidence splits
  pub evidence_waits : map evidence_value new.evidence.items ≡ map evidence_value old.evidence.items ++ evidence
  pub splits_wait : new.splits.items ≡ old.splits.items ++ splits

module _ {S D C P G : Type 0} (floor : Round) (basis : Schedule S → Basis S D C P G) (committees : Schedule S)
    (stream : List ℕ) where
  -- a piece was fed, and what it completes waits behind what waited
  pub record TakesPiece (piece : List ℕ) (old new : LiveAuditor S D P G) : Type 0 where
    pub follows : Follows floor basis committees (stream ++ piece) new
    pub evidence : List (Equivocation D G)
    pub splits : List Split
    pub are_news : AreNews (basis_from floor (basis committees)) stream (stream ++ piece) evidence splits
    pub evidence_waits : evidence_waiting new ≡ evidence_waiting old ++ evidence
    pub splits_wait : splits_waiting new ≡ splits_waiting old ++ splits

  -- Nothing was fed and nothing lost: the auditor follows the stream as before, or it follows what it holds, which can stand
  -- for the stream. What waits is as before.
  pub record LosesNothing (old new : LiveAuditor S D P G) : Type 0 where
    pub follows : Follows floor basis committees stream new
        ⊎ (CanStandFor (basis_from floor (basis committees)) (held_by new) stream
        × Follows floor basis committees (held_by new) new)
    pub evidence_waits : evidence_waiting new ≡ evidence_waiting old
    pub splits_wait : splits_waiting new ≡ splits_waiting old
