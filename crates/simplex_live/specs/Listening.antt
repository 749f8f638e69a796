-- What is heard of an input, and what is written of it.
use Rattle.std.specs.Prelude.{◌≡◌, ◌+◌, ◌-◌, ◌^◌, ℕ, ◌++◌, Bool, List, [], IsTrue, false, is_some, length, min, option_map, true}
use Rattle.std.specs.Io.KnownBytes.{Consumes, IsAtEnd}
use Rattle.simplex_scheme.specs.Committees.{Schedule}
use Rattle.simplex_alarm.specs.Alarm.{Told, nothing_told}
use Rattle.simplex_alarm.specs.declared.alarm.News.{News}
use Rattle.simplex_stream.specs.declared.fault.Fault.{Fault}
use Rattle.simplex_audit.specs.Basis.{Basis}
use Rattle.simplex_audit.specs.Outcome.{ReaderUse, WriterUse}
use Rattle.simplex_monitor.specs.Hearing.{AllTold, Heard, HearsBeginning, told_by}
use Rattle.simplex_monitor.specs.Monitoring.{EndsAt, HasVotes, Listens, held_of}
use Rattle.simplex_monitor.specs.declared.monitor.Monitor.{Monitor}
use Rattle.simplex_monitor.specs.declared.window.Window.{Window}
use Rattle.simplex_live.specs.Options.{lookahead_of, window_of}
use Rattle.simplex_live.specs.declared.listening.Totals.{Totals}

-- what a fault behind a state of so many bytes is in the input, of which so many bytes were read before
abbrev pub moved : ℕ → ℕ → Fault → Fault
moved held base fault = record { place = min (fault.place - held + base) (2 ^ 64 - 1); error = fault.error }

-- the totals of an input behind a state of so many bytes and messages
abbrev pub behind_state : ℕ → ℕ → ℕ → Totals → Totals
behind_state held before base totals = record {
  fault = option_map (moved held base) totals.fault;
  read = totals.read - before;
  votes = totals.votes;
  below = totals.below;
  above = totals.above;
}

module _ {S D C P G : Type 0} (basis : Schedule S → Basis S D C P G) where
  -- how many messages a monitor has read
  abbrev pub HasRead : Monitor S D P G → ℕ → Type 0
  HasRead monitor count =
      (start : Window) (committees : Schedule S) (told : Told D G) (stream : List ℕ)
      (listens : Listens basis start committees told stream monitor) → count ≡ length listens.messages

  -- what a monitor has heard, in numbers, and where its stream stops being messages
  pub record AddsUp (monitor : Monitor S D P G) (totals : Totals) : Type 0 where
    pub read : HasRead monitor totals.read
    pub votes : (start : Window) (committees : Schedule S) (told : Told D G) (stream : List ℕ)
        (listens : Listens basis start committees told stream monitor) →
        HasVotes (basis committees).rules listens.taken monitor totals.votes
    pub below : (start : Window) (committees : Schedule S) (told : Told D G) (stream : List ℕ)
        (listens : Listens basis start committees told stream monitor) → totals.below ≡ min listens.below (2 ^ 64 - 1)
    pub above : (start : Window) (committees : Schedule S) (told : Told D G) (stream : List ℕ)
        (listens : Listens basis start committees told stream monitor) → totals.above ≡ min listens.above (2 ^ 64 - 1)
    pub ends : (start : Window) (committees : Schedule S) (told : Told D G) (stream : List ℕ)
        (listens : Listens basis start committees told stream monitor) →
        EndsAt (basis committees).format stream listens.messages totals.fault

  -- A monitor before it hears the input: it began with the window that the options name, took messages that a state held, has
  -- told all that arose in them, and holds messages. Without a state the window is as it begins, there were no messages, and
  -- none are held.
  pub record IsReady (retained ahead : ℕ) (kept : Bool) (held : List ℕ) (committees : Schedule S) (first : Monitor S D P G) :
      Type 0 where
    pub start : Window
    pub known : List (News S D P G)
    pub listens : Listens basis start committees (told_by nothing_told known) held first
    pub retains : start.view_retention ≡ retained
    pub looks : start.lookahead ≡ lookahead_of ahead
    pub anew : kept ≡ false → (start ≡ window_of retained ahead) × (held ≡ [])
    pub told : kept ≡ true → AllTold first
    pub holds : is_some (held_of first) ≡ kept

  module _ (bytes_of : D → List ℕ) (reader : ReaderUse) (writer : WriterUse) where
    -- From a monitor on the whole input was heard, and exactly the lines of what was told were written. So much adds up.
    pub record IsHeard (first : Monitor S D P G) (skipped base : ℕ) (totals : Totals) : Type 0 where
      pub input : List ℕ
      pub next : Monitor S D P G
      pub consumed : Consumes reader.before reader.after input
      pub ended : IsAtEnd reader.after
      pub heard : Heard basis bytes_of first input next writer.before writer.after
      pub flushed : IsTrue writer.flushed
      pub before : ℕ
      pub has_read : HasRead first before
      pub all : Totals
      pub adds_up : AddsUp next all
      pub totals_are : totals ≡ behind_state skipped before base all

    -- a front of the lines of what was read was written, perhaps nothing or all
    pub record IsHeardInPart (first : Monitor S D P G) : Type 0 where
      pub input : List ℕ
      pub more : List ℕ
      pub consumed : Consumes reader.before reader.after (input ++ more)
      pub begun : HearsBeginning basis bytes_of first input writer.before writer.after
