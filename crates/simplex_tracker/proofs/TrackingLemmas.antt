-- What is known of a stream from piece to piece.
use Rattle.std.proofs.Common.{Bool, ◌≡◌, ℕ, ◌+◌, ◌-◌, ◌^◌, Option, List, ◌++◌, length, min, sym, ap, subst, ◌∙◌}
use Rattle.std.specs.Ordering.{ord_max}
use Rattle.simplex_base.specs.Format.{Format}
use Rattle.simplex_base.specs.Positions.{Round}
use Rattle.simplex_base.specs.declared.codec.error.Error.{Error}
use Rattle.simplex_evidence.specs.declared.types.activity.Activity.{Activity}
use Rattle.simplex_rules.specs.Accusation.{round_cmp}
use Rattle.simplex_alarm.specs.Alarm.{Sounds, SoundsMore, SoundsUntold, Told, told_from, told_then}
use Rattle.simplex_detector.specs.Detector.{Recalls, RecallsMore}
use Rattle.simplex_rules.specs.Evidence.{IsEvidence}
use Rattle.simplex_rules.specs.Independence.{FloorsRise, in_rounds, is_from}
use Rattle.simplex_rules.specs.Recorded.{votes_recorded}
use Rattle.simplex_rules.specs.Rules.{HaveCommittees, Rules, valid_votes}
use Rattle.simplex_rules.specs.Splits.{AreSplits}
use Rattle.simplex_alarm.specs.declared.alarm.Alarm.{Alarm}
use Rattle.simplex_alarm.specs.declared.alarm.News.{News}
use Rattle.simplex_detector.specs.declared.detector.Detector.{Detector}
use Rattle.simplex_stream.specs.Decoder.{DecodesMore, HasDecoded, bytes_fed, messages_read, undecoded}
use Rattle.simplex_stream.specs.Fault.{fault_of}
use Rattle.simplex_stream.specs.Messages.{IsStop, IsStuck}
use Rattle.simplex_stream.specs.StreamLaws.{fault_is}
use Rattle.simplex_stream.specs.declared.decoder.Decoder.{Decoder}
use Rattle.simplex_audit.specs.Basis.{Basis, basis_from}
use Rattle.simplex_audit.specs.Report.{IsReport, evidence_in}
use Rattle.simplex_audit.specs.declared.audit.Report.{Report}
use Rattle.simplex_tracker.specs.Tracking.{HasVotes, SeesMore, Tracks}
use Rattle.simplex_tracker.specs.declared.tracker.Sight.{Sight}
use Rattle.simplex_tracker.specs.declared.tracker.Tracker.{Tracker}

module _ {S D C P G : Type 0} (basis : Basis S D C P G) where
  -- what a part of the rounds has committees for, if all have
  abbrev pub PartsHaveCommittees : Type 0
  PartsHaveCommittees = (part : Round → Bool) → HaveCommittees basis.rules → HaveCommittees (in_rounds part basis.rules)

  -- a piece is decoded, and the messages that it completes are seen
  pub tracks_on : (format : ℕ → Format (Activity S D C P G)) (old : Tracker S D P G) (decoder : Decoder) (sight : Sight S D P G)
      (piece : List ℕ) → basis.format ≡ format basis.bound → PartsHaveCommittees →
      DecodesMore (format old.bound)
      (λ more. SeesMore (λ judging. (basis_from old.sight.floor basis).rules) more old.sight sight) piece old.decoder decoder →
      (floor : Round) (told : Told D G) (stream : List ℕ) → Tracks floor basis told stream old →
      Tracks floor basis told (stream ++ piece) (record old { decoder = decoder; sight = sight })
  tracks_on format old decoder sight piece reads parts decodes floor told stream h =
      let same : basis.format ≡ format old.bound = reads ∙ ap format (sym h.bound_is) in
      let Decoded : Format (Activity S D C P G) → Type 0 = λ f. HasDecoded f stream h.messages old.decoder in
      let (more, decoded, seen) = decodes stream h.messages (subst Decoded same h.decoded) in
      let judged = (basis_from floor basis).rules in
      let recalls : RecallsMore judged more old.sight.detector sight.detector =
      subst (λ (f : Round). RecallsMore (basis_from f basis).rules more old.sight.detector sight.detector) h.floor_is
      seen.recalls in
      let sounds : SoundsMore judged more old.sight.detector old.sight.alarm sight.alarm =
      subst (λ (f : Round). SoundsMore (basis_from f basis).rules more old.sight.detector old.sight.alarm sight.alarm)
      h.floor_is seen.sounds in
      record {
        floor_is = seen.floor ∙ h.floor_is;
        bound_is = h.bound_is;
        readable = h.readable;
        members = h.members;
        messages = h.messages ++ more;
        decoded = subst (λ (f : Format (Activity S D C P G)). HasDecoded f (stream ++ piece) (h.messages ++ more) decoder)
            (sym same) decoded;
        recalls = recalls h.messages h.recalls;
        sounds = sounds h.messages told (parts (is_from floor) h.members) h.recalls h.sounds;
      }

  -- what was left is taken
  pub tracks_told : (old : Tracker S D P G) (alarm : Alarm S D P G) (news : News S D P G) →
      SoundsUntold C news old.sight.alarm alarm → (floor : Round) (told : Told D G) (stream : List ℕ) →
      Tracks floor basis told stream old →
      Tracks floor basis (told_then told news) stream (record old { sight = record old.sight { alarm = alarm } })
  tracks_told old alarm news takes floor told stream h = record {
    floor_is = h.floor_is;
    bound_is = h.bound_is;
    readable = h.readable;
    members = h.members;
    messages = h.messages;
    decoded = h.decoded;
    recalls = h.recalls;
    sounds = takes.sounds (basis_from floor basis).rules h.messages told h.sounds;
  }

  -- what is below a floor is given up
  pub tracks_pruned : (old : Tracker S D P G) (floor highest : Round) (detector : Detector S D P G) (alarm : Alarm S D P G) →
      FloorsRise basis.rules → highest ≡ ord_max round_cmp old.sight.floor floor →
      ((rules : Rules S D C P G) (messages : List (Activity S D C P G)) → Recalls rules messages old.sight.detector →
      Recalls (in_rounds (is_from floor) rules) messages detector) →
      ((rules : Rules S D C P G) (messages : List (Activity S D C P G)) (told : Told D G) →
      Sounds rules messages told old.sight.alarm →
      Sounds (in_rounds (is_from floor) rules) messages (told_from floor told) alarm) →
      (low : Round) (told : Told D G) (stream : List ℕ) → Tracks low basis told stream old →
      Tracks (ord_max round_cmp low floor) basis (told_from floor told) stream
      (record old { sight = record { floor = highest; detector = detector; alarm = alarm } })
  tracks_pruned old floor highest detector alarm rise top recalls sounds low told stream h =
      let judged = (basis_from low basis).rules in
      record {
        floor_is = top ∙ ap (λ f. ord_max round_cmp f floor) h.floor_is;
        bound_is = h.bound_is;
        readable = h.readable;
        members = h.members;
        messages = h.messages;
        decoded = h.decoded;
        recalls = subst (λ (r : Rules S D C P G). Recalls r h.messages detector) (rise.higher low floor)
            (recalls judged h.messages h.recalls);
        sounds = subst (λ (r : Rules S D C P G). Sounds r h.messages (told_from floor told) alarm) (rise.higher low floor)
            (sounds judged h.messages told h.sounds);
      }

  -- the report of what is known is that of the stream
  pub tracks_reported : (under : Round → Rules S D C P G) (tracker : Tracker S D P G) (report : Report S D P G) (place : ℕ)
      (stop : Option Error) → ((f : Round) → under f ≡ (basis_from f basis).rules) → PartsHaveCommittees →
      place + length (undecoded tracker.decoder) ≡ bytes_fed tracker.decoder → report.read ≡ messages_read tracker.decoder →
      report.fault ≡ fault_of place stop →
      (tracker.bound ≡ basis.bound → IsStuck basis.format (undecoded tracker.decoder) →
      IsStop basis.format.reading (undecoded tracker.decoder) stop) →
      ((f : Round) (messages : List (Activity S D C P G)) → Recalls (under f) messages tracker.sight.detector →
      IsEvidence (under f).eq (valid_votes (under f) messages) (evidence_in report)) →
      ((f : Round) (messages : List (Activity S D C P G)) → HaveCommittees (under f) →
      Recalls (under f) messages tracker.sight.detector → AreSplits (under f) messages report.splits.items) →
      (floor : Round) (told : Told D G) (stream : List ℕ) → Tracks floor basis told stream tracker →
      IsReport (basis_from floor basis) stream report
  tracks_reported under tracker report place stop same parts at count fault why evidence splits floor told stream h =
      let recalled : Recalls (under floor) h.messages tracker.sight.detector =
      subst (λ (r : Rules S D C P G). Recalls r h.messages tracker.sight.detector) (sym (same floor)) h.recalls in
      let are = h.decoded.are_messages in
      record {
        messages = h.messages;
        rest = undecoded tracker.decoder;
        are_messages = are;
        read_is = count ∙ h.decoded.read_is;
        fault_is = fault_is basis.format stream (undecoded tracker.decoder) h.messages place stop report.fault are
            (at ∙ h.decoded.fed_is) (why h.bound_is are.stuck) fault;
        evidence_is = subst (λ (r : Rules S D C P G). IsEvidence r.eq (valid_votes r h.messages) (evidence_in report))
            (same floor) (evidence floor h.messages recalled);
        splits_are = subst (λ (r : Rules S D C P G). AreSplits r h.messages report.splits.items) (same floor)
            (splits floor h.messages (subst HaveCommittees (sym (same floor)) (parts (is_from floor) h.members)) recalled);
      }

  -- the number of the recorded votes
  pub tracks_votes : (under : Round → Rules S D C P G) (tracker : Tracker S D P G) (count : ℕ) →
      ((f : Round) → under f ≡ (basis_from f basis).rules) →
      ((f : Round) (messages : List (Activity S D C P G)) → Recalls (under f) messages tracker.sight.detector →
      count ≡ min (votes_recorded (under f).eq (valid_votes (under f) messages)) (2 ^ 64 - 1)) →
      (floor : Round) (told : Told D G) (stream : List ℕ) → Tracks floor basis told stream tracker →
      HasVotes (basis_from floor basis) stream count
  tracks_votes under tracker count same counts floor told stream h = record {
    messages = h.messages;
    rest = undecoded tracker.decoder;
    are_messages = h.decoded.are_messages;
    count_is = subst (λ (r : Rules S D C P G). count ≡ min (votes_recorded r.eq (valid_votes r h.messages)) (2 ^ 64 - 1))
        (same floor) (counts floor h.messages
        (subst (λ (r : Rules S D C P G). Recalls r h.messages tracker.sight.detector) (sym (same floor)) h.recalls));
  }
