-- What a monitor told of an input that came in pieces, and what was written of it.
use Rattle.std.specs.Prelude.{◌≡◌, ◌++◌, ◌+◌, ◌≤◌, ℕ, List, [], ◌∷◌, Option, length, map}
use Rattle.std.specs.List.{flat_map}
use Rattle.std.specs.Io.KnownBytes.{Appends}
use Rattle.simplex_scheme.specs.Committees.{Schedule}
use Rattle.simplex_alarm.specs.Alarm.{Told, told_then}
use Rattle.simplex_alarm.specs.Alerts.{untold}
use Rattle.simplex_rules.specs.Line.{line_of}
use Rattle.simplex_rules.specs.Splits.{split_line}
use Rattle.simplex_rules.specs.Values.{evidence_value}
use Rattle.simplex_alarm.specs.declared.alarm.News.{News}
use Rattle.simplex_stream.specs.Text.{AppendsBeginning}
use Rattle.simplex_audit.specs.Basis.{Basis}
use Rattle.simplex_audit.specs.Run.{text_of}
use Rattle.simplex_monitor.specs.Monitoring.{KeepsHolding, Listens, fed_of, watcher_of}
use Rattle.simplex_monitor.specs.declared.monitor.Monitor.{Monitor}
use Rattle.simplex_monitor.specs.declared.window.Window.{Window}

-- the lines of what arose: those of the evidence, and then those of the splits
abbrev pub news_text : {S D P G : Type 0} → (D → List ℕ) → News S D P G → List ℕ
news_text bytes_of news =
    text_of (line_of bytes_of) (map evidence_value news.evidence.items) ++ text_of split_line news.splits.items

-- what was told, and then what is told look by look
abbrev pub told_by : {S D P G : Type 0} → Told D G → List (News S D P G) → Told D G
told_by told [] = told
told_by told (news ∷ rest) = told_by (told_then told news) rest

-- a monitor has told all that arose
pub record AllTold {S D P G : Type 0} (monitor : Monitor S D P G) : Type 0 where
  pub evidence : untold (watcher_of monitor).alarm.evidence ≡ []
  pub splits : (watcher_of monitor).alarm.splits.untold.items ≡ []

-- A monitor becomes another when it listens on to an input, and tells what arises in some looks.
pub record Hears {S D C P G : Type 0} (basis : Schedule S → Basis S D C P G) (first : Monitor S D P G) (input : List ℕ)
    (looks : List (News S D P G)) (next : Monitor S D P G) : Type 0 where
  pub fed : fed_of next ≤ fed_of first + length input
  pub listens : (start : Window) (committees : Schedule S) (told : Told D G) (stream : List ℕ) →
      Listens basis start committees told stream first →
      Listens basis start committees (told_by told looks) (stream ++ input) next
  pub holds : KeepsHolding basis first next

-- the same, and all that arose is told and written
pub record Heard {S D C P G : Type 0} (basis : Schedule S → Basis S D C P G) (bytes_of : D → List ℕ) (first : Monitor S D P G)
    (input : List ℕ) (next : Monitor S D P G) (old new : Option (List ℕ)) : Type 0 where
  pub looks : List (News S D P G)
  pub hears : Hears basis first input looks next
  pub told : AllTold next
  pub written : Appends old new (flat_map (news_text bytes_of) looks)

-- A front was written of the lines of what a monitor would tell of an input, perhaps nothing or the whole.
pub record HearsBeginning {S D C P G : Type 0} (basis : Schedule S → Basis S D C P G) (bytes_of : D → List ℕ)
    (first : Monitor S D P G) (input : List ℕ) (old new : Option (List ℕ)) : Type 0 where
  pub next : Monitor S D P G
  pub looks : List (News S D P G)
  pub hears : Hears basis first input looks next
  pub written : AppendsBeginning old new (flat_map (news_text bytes_of) looks)
