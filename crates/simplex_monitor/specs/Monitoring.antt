-- Which stream a monitor listens to, and what it knows of it.
use Rattle.std.specs.Prelude.{◌≡◌, ◌⊎◌, ◌++◌, ◌*◌, ◌-◌, ◌^◌, ◌≤◌, ℕ, Bool, IsTrue, List, [], Option, Vec, is_some, length, min}
use Rattle.std.specs.Global.{Global}
use Rattle.std.specs.List.{flat_map}
use Rattle.simplex_base.specs.Format.{Format, IsLawful}
use Rattle.simplex_scheme.specs.Committees.{Schedule}
use Rattle.simplex_evidence.specs.Contradiction.{Equivocation}
use Rattle.simplex_evidence.specs.declared.types.activity.Activity.{Activity}
use Rattle.simplex_alarm.specs.Alarm.{Told, told_from, told_then}
use Rattle.simplex_alarm.specs.Alerts.{IsEachOnce}
use Rattle.simplex_rules.specs.Evidence.{IsEvidence}
use Rattle.simplex_rules.specs.Independence.{in_rounds, is_from}
use Rattle.simplex_rules.specs.Recorded.{votes_recorded}
use Rattle.simplex_rules.specs.Rules.{HaveCommittees, Rules, valid_votes}
use Rattle.simplex_rules.specs.Arising.{splits_arising}
use Rattle.simplex_rules.specs.Splits.{AreSplits}
use Rattle.simplex_alarm.specs.declared.alarm.News.{News}
use Rattle.simplex_rules.specs.declared.split.Split.{Split}
use Rattle.simplex_stream.specs.Fault.{IsFault}
use Rattle.simplex_stream.specs.Messages.{AreMessages}
use Rattle.simplex_stream.specs.declared.fault.Fault.{Fault}
use Rattle.simplex_stream.specs.Decoder.{HasDecoded, bytes_fed, decoding_over}
use Rattle.simplex_audit.specs.Basis.{Basis}
use Rattle.simplex_monitor.specs.Bounded.{views_of}
use Rattle.simplex_monitor.specs.Taken.{AreTaken}
use Rattle.simplex_monitor.specs.Watching.{Watches}
use Rattle.simplex_monitor.specs.Window.{IsInOrder, floor_of}
use Rattle.simplex_monitor.specs.declared.monitor.Monitor.{Monitor}
use Rattle.simplex_monitor.specs.declared.watcher.Watcher.{Watcher}
use Rattle.simplex_monitor.specs.declared.window.Window.{Window}

-- how many bytes a monitor was fed
abbrev pub fed_of : {S D P G : Type 0} → Monitor S D P G → ℕ
fed_of monitor = bytes_fed monitor.decoder

-- whether nothing that follows can be read
abbrev pub listening_over : {S D P G : Type 0} → Monitor S D P G → Bool
listening_over monitor = decoding_over monitor.decoder

-- what it knows of the messages that its window took
abbrev pub watcher_of : {S D P G : Type 0} → Monitor S D P G → Watcher S D P G
watcher_of monitor = monitor.watcher

-- the bytes that it holds for a restart, if it does
abbrev pub held_of : {S D P G : Type 0} → Monitor S D P G → Option (Vec ℕ Global)
held_of monitor = monitor.watcher.held

-- A monitor of these committees, under which reading is lawful and nothing is valid without a committee, has listened to a
-- stream since its window began as `start`: it has decoded the messages of the stream, or those of a front of it behind which
-- nothing can be read. Its window has taken those messages that it takes when they come, and the monitor knows their state and
-- what arose in them, from its floor on. `told` is all that it told.
pub record Listens {S D C P G : Type 0} (basis : Schedule S → Basis S D C P G) (start : Window) (committees : Schedule S)
    (told : Told D G) (stream : List ℕ) (monitor : Monitor S D P G) : Type 0 where
  pub ordered : IsInOrder start
  pub committees_are : monitor.committees.now ≡ committees
  pub bound_is : monitor.bound ≡ (basis committees).bound
  pub readable : IsLawful (basis committees).format
  pub members : HaveCommittees (basis committees).rules
  pub sizes : (epoch : ℕ) → (basis committees).rules.size epoch ≤ (basis committees).bound
  pub terms : 1 ≤ start.lookahead.term_length
  pub front : List ℕ
  pub behind : List ℕ
  pub parts : stream ≡ front ++ behind
  pub unread : (behind ≡ []) ⊎ IsTrue (listening_over monitor)
  pub messages : List (Activity S D C P G)
  pub decoded : HasDecoded (basis committees).format front messages monitor.decoder
  pub taken : List (Activity S D C P G)
  pub below : ℕ
  pub above : ℕ
  pub are_taken : AreTaken (basis committees).rules start [] messages taken below above
  pub watches : Watches (basis committees) start taken told below above (watcher_of monitor)

-- whether messages are held is as it was
abbrev pub HoldsAsBefore : {S D P G : Type 0} → Monitor S D P G → Monitor S D P G → Type 0
HoldsAsBefore old new = is_some (held_of new) ≡ is_some (held_of old)

-- so it is after a monitor that has listened to some stream
abbrev pub KeepsHolding : {S D C P G : Type 0} → (Schedule S → Basis S D C P G) → Monitor S D P G → Monitor S D P G → Type 0
KeepsHolding {S} {D} {C} {P} {G} basis old new =
    (start : Window) (committees : Schedule S) (told : Told D G) (stream : List ℕ) →
    Listens basis start committees told stream old → HoldsAsBefore old new

module _ {S D C P G : Type 0} (rules : Rules S D C P G) (taken : List (Activity S D C P G)) where
  -- the rules under which nothing below the floor of a monitor is valid
  abbrev pub retained : Monitor S D P G → Rules S D C P G
  retained monitor = in_rounds (is_from (floor_of (watcher_of monitor).window)) rules

  -- the evidence of what was taken, from the floor on
  abbrev pub HasEvidence : Monitor S D P G → List (Equivocation D G) → Type 0
  HasEvidence monitor es = IsEvidence rules.eq (valid_votes (retained monitor) taken) es

  -- the splits of what was taken, from the floor on
  abbrev pub HasSplits : Monitor S D P G → List Split → Type 0
  HasSplits monitor splits = AreSplits (retained monitor) taken splits

  -- how many votes of what was taken are recorded, from the floor on
  abbrev pub HasVotes : Monitor S D P G → ℕ → Type 0
  HasVotes monitor count = count ≡ min (votes_recorded rules.eq (valid_votes (retained monitor) taken)) (2 ^ 64 - 1)

  -- What is told now is, with what was told before of the rounds from the floor on, exactly what arose there: the evidence,
  -- each once, and the splits, each as often as it changed. Nothing else changes.
  pub record TellsRest (told : Told D G) (news : News S D P G) (old new : Monitor S D P G) : Type 0 where
    pub evidence : IsEachOnce rules.eq (valid_votes (retained old) taken)
        (told_then (told_from (floor_of (watcher_of old).window) told) news).evidence
    pub splits : (told_then (told_from (floor_of (watcher_of old).window) told) news).splits
        ≡ splits_arising (retained old) [] taken
    pub window : (watcher_of new).window ≡ (watcher_of old).window

-- at most five votes are recorded of each participant of the greatest committee in each view that the window looks at
abbrev pub AreFewVotes : {S D C P G : Type 0} → Basis S D C P G → Monitor S D P G → ℕ → Type 0
AreFewVotes basis monitor count = count ≤ views_of (watcher_of monitor).window * (5 * basis.bound)

-- where a stream of these messages stops being messages
abbrev pub EndsAt : {M : Type 0} → Format M → List ℕ → List M → Option Fault → Type 0
EndsAt format stream messages fault =
    (rest : List ℕ) × AreMessages format stream messages rest
    × IsFault format.reading (length (flat_map format.encoding messages)) rest fault
