-- What is known of a stream that comes in pieces, and what arose in it.
use Rattle.std.specs.Prelude.{◌≡◌, ℕ, ◌-◌, ◌^◌, ◌==◌, Bool, List, [], length, min}
use Rattle.simplex_base.specs.Format.{IsLawful}
use Rattle.simplex_base.specs.Positions.{Round}
use Rattle.simplex_evidence.specs.declared.types.activity.Activity.{Activity}
use Rattle.simplex_alarm.specs.Alarm.{Sounds, SoundsMore, Told}
use Rattle.simplex_alarm.specs.Alerts.{untold}
use Rattle.simplex_detector.specs.Detector.{Recalls, RecallsMore}
use Rattle.simplex_rules.specs.Recorded.{votes_recorded}
use Rattle.simplex_rules.specs.Rules.{HaveCommittees, Rules, valid_votes}
use Rattle.simplex_rules.specs.declared.judging.Judging.{Judging}
use Rattle.simplex_rules.specs.declared.judging.Judging.TheVariants.{From}
use Rattle.simplex_stream.specs.Decoder.{HasDecoded, bytes_fed, decoding_over}
use Rattle.simplex_stream.specs.Messages.{AreMessages}
use Rattle.simplex_audit.specs.Basis.{Basis, basis_from}
use Rattle.simplex_tracker.specs.declared.tracker.Sight.{Sight}
use Rattle.simplex_tracker.specs.declared.tracker.Tracker.{Tracker}

-- these messages were recorded, judged from the same floor on as before, and what arose in them was noted
pub record SeesMore {S D C P G : Type 0} (rules : Judging → Rules S D C P G) (messages : List (Activity S D C P G))
    (old new : Sight S D P G) : Type 0 where
  pub floor : new.floor ≡ old.floor
  pub recalls : RecallsMore (rules (From old.floor)) messages old.detector new.detector
  pub sounds : SoundsMore (rules (From old.floor)) messages old.detector old.alarm new.alarm

-- how many bytes it was fed
abbrev pub fed_of : {S D P G : Type 0} → Tracker S D P G → ℕ
fed_of tracker = bytes_fed tracker.decoder

-- whether nothing that follows can be read
abbrev pub tracking_over : {S D P G : Type 0} → Tracker S D P G → Bool
tracking_over tracker = decoding_over tracker.decoder

-- nothing that arose is left to take
pub record IsQuiet {S D P G : Type 0} (tracker : Tracker S D P G) : Type 0 where
  pub evidence : untold tracker.sight.alarm.evidence ≡ []
  pub splits : tracker.sight.alarm.splits.untold.items ≡ []

-- A stream is tracked from a floor on: its messages are decoded, their state is known, and what was told of them and what is
-- left to take are together what arose there.
pub record Tracks {S D C P G : Type 0} (floor : Round) (basis : Basis S D C P G) (told : Told D G) (stream : List ℕ)
    (tracker : Tracker S D P G) : Type 0 where
  pub floor_is : tracker.sight.floor ≡ floor
  pub bound_is : tracker.bound ≡ basis.bound
  pub readable : IsLawful basis.format
  pub members : HaveCommittees basis.rules
  pub messages : List (Activity S D C P G)
  pub decoded : HasDecoded basis.format stream messages tracker.decoder
  pub recalls : Recalls (basis_from floor basis).rules messages tracker.sight.detector
  pub sounds : Sounds (basis_from floor basis).rules messages told tracker.sight.alarm

-- so many votes of a stream's messages are recorded, up to 2^64 - 1
pub record HasVotes {S D C P G : Type 0} (basis : Basis S D C P G) (stream : List ℕ) (count : ℕ) : Type 0 where
  pub messages : List (Activity S D C P G)
  pub rest : List ℕ
  pub are_messages : AreMessages basis.format stream messages rest
  pub count_is : count ≡ min (votes_recorded basis.rules.eq (valid_votes basis.rules messages)) (2 ^ 64 - 1)

-- whether a stream ends with a whole message, or is empty: no bytes are left behind its last whole message
pub record EndsWhole {S D C P G : Type 0} (basis : Basis S D C P G) (stream : List ℕ) (whole : Bool) : Type 0 where
  pub messages : List (Activity S D C P G)
  pub rest : List ℕ
  pub are_messages : AreMessages basis.format stream messages rest
  pub whole_is : whole ≡ (length rest == 0)
