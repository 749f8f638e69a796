-- What a watcher knows of the messages that its window took, and what each message does to it.
use Rattle.std.specs.Prelude.{◌≡◌, ℕ, ◌+◌, ◌-◌, ◌^◌, ◌⊎◌, Bool, min, List, [], ◌∷◌, ◌++◌}
use Rattle.std.specs.Option.{is_some}
use Rattle.std.specs.Ordering.{ord_max}
use Rattle.simplex_base.specs.Positions.{Round}
use Rattle.simplex_scheme.specs.declared.kind.VoteKind.{VoteKind}
use Rattle.simplex_evidence.specs.Activity.{activity_round}
use Rattle.simplex_evidence.specs.declared.types.activity.Activity.{Activity}
use Rattle.simplex_rules.specs.Accusation.{round_cmp}
use Rattle.simplex_alarm.specs.Alarm.{Sounds, Told, told_from}
use Rattle.simplex_detector.specs.Detector.{Recalls}
use Rattle.simplex_rules.specs.FirstCertified.{certified_subjects, first_certified}
use Rattle.simplex_rules.specs.Independence.{in_rounds, is_from}
use Rattle.simplex_rules.specs.Rules.{HaveCommittees}
use Rattle.simplex_rules.specs.Splits.{is_certified_message}
use Rattle.simplex_audit.specs.Basis.{Basis}
use Rattle.simplex_monitor.specs.Holding.{StandsIfHeld}
use Rattle.simplex_monitor.specs.Taken.{AreTaken, window_of}
use Rattle.simplex_monitor.specs.Window.{AdmitsCertificate, IsInOrder, floor_of}
use Rattle.simplex_monitor.specs.declared.watcher.Watcher.{Watcher}
use Rattle.simplex_monitor.specs.declared.window.Window.{Window}

-- whether messages are held is as it was
abbrev pub HoldsAsBefore : {S D P G : Type 0} → Watcher S D P G → Watcher S D P G → Type 0
HoldsAsBefore old new = is_some new.held ≡ is_some old.held

-- so is it, and the counts of what was left out are as they were
pub record KeepsCounts {S D P G : Type 0} (old new : Watcher S D P G) : Type 0 where
  pub below : new.below ≡ old.below
  pub above : new.above ≡ old.above
  pub holding : HoldsAsBefore old new

module _ {S D C P G : Type 0} (basis : Basis S D C P G) where
  -- What is known is the state of the messages from a floor on. What was told of these rounds and what was not are what arose
  -- there: the evidence, each once, and the splits, each as often as it changed. What is held can stand for the messages there.
  pub record HoldsFrom (floor : Round) (taken : List (Activity S D C P G)) (told : Told D G)
      (watcher : Watcher S D P G) : Type 0 where
    pub recalls : Recalls (in_rounds (is_from floor) basis.rules) taken watcher.detector
    pub sounds : Sounds (in_rounds (is_from floor) basis.rules) taken (told_from floor told) watcher.alarm
    pub stands : StandsIfHeld basis floor taken watcher.held

  -- The window, which began as `start`, has taken these messages and left out so many others, below it and above it. What is
  -- held is the state of the taken messages from its floor on; `told` is all that was told since it began.
  pub record Watches (start : Window) (taken : List (Activity S D C P G)) (told : Told D G) (below above : ℕ)
      (watcher : Watcher S D P G) : Type 0 where
    pub window_is : watcher.window ≡ window_of basis.rules start taken
    pub holds : HoldsFrom (floor_of watcher.window) taken told watcher
    pub below_is : watcher.below ≡ min below (2 ^ 64 - 1)
    pub above_is : watcher.above ≡ min above (2 ^ 64 - 1)

  -- More messages came, of which some were taken.
  pub record WatchesFurther (start : Window) (before messages : List (Activity S D C P G)) (told : Told D G)
      (below above : ℕ) (watcher : Watcher S D P G) : Type 0 where
    pub taken : List (Activity S D C P G)
    pub lower : ℕ
    pub higher : ℕ
    pub are_taken : AreTaken basis.rules start before messages taken lower higher
    pub watches : Watches start (before ++ taken) told (below + lower) (above + higher) watcher

  -- What was known of any messages becomes what is known of them and those that were taken of some more. Whether messages are
  -- held is as it was.
  abbrev pub WatchesMore : List (Activity S D C P G) → Watcher S D P G → Watcher S D P G → Type 0
  WatchesMore messages old new =
      HoldsAsBefore old new
      × ((start : Window) (before : List (Activity S D C P G)) (told : Told D G) (below above : ℕ) →
      IsInOrder start → HaveCommittees basis.rules → Watches start before told below above old →
      WatchesFurther start before messages told below above new)

  -- ---- inside

  -- one message more is recorded
  pub record RecordsOne (m : Activity S D C P G) (old new : Watcher S D P G) : Type 0 where
    pub window : new.window ≡ old.window
    pub counts : KeepsCounts old new
    pub holds : (taken : List (Activity S D C P G)) (told : Told D G) → HaveCommittees basis.rules →
        HoldsFrom (floor_of old.window) taken told old → HoldsFrom (floor_of old.window) (taken ++ m ∷ []) told new

  -- `certified` tells whether a message so far certifies a subject of a kind in a round, or whether the last message does
  abbrev pub TellsIfCertified : Activity S D C P G → Round → VoteKind → Watcher S D P G → Bool → Type 0
  TellsIfCertified m round kind watcher certified =
      let judged = in_rounds (is_from (floor_of watcher.window)) basis.rules in
      (taken : List (Activity S D C P G)) → Recalls judged (taken ++ m ∷ []) watcher.detector →
      (certified ≡ is_some (first_certified (certified_subjects judged (taken ++ m ∷ [])) round kind))
      ⊎ (certified ≡ is_certified_message basis.rules m)

  -- what is below a floor is given up
  abbrev pub PrunesTo : Round → Watcher S D P G → Watcher S D P G → Type 0
  PrunesTo floor old new =
      (low : Round) (taken : List (Activity S D C P G)) (told : Told D G) →
      HoldsFrom low taken told old → HoldsFrom (ord_max round_cmp low floor) taken told new

  -- the window's floor rises, and what is below it is given up
  abbrev pub KeepsFrom : Watcher S D P G → Watcher S D P G → Type 0
  KeepsFrom old new =
      (start : Window) (before taken : List (Activity S D C P G)) (told : Told D G) → IsInOrder start →
      old.window ≡ window_of basis.rules start before → HoldsFrom (floor_of old.window) taken told old →
      HoldsFrom (floor_of new.window) taken told new

  -- the window is moved by a message that was recorded
  pub record Advances (m : Activity S D C P G) (old new : Watcher S D P G) : Type 0 where
    pub counts : KeepsCounts old new
    pub window : (start : Window) (before : List (Activity S D C P G)) → IsInOrder start →
        old.window ≡ window_of basis.rules start before → AdmitsCertificate old.window (activity_round m) →
        Recalls (in_rounds (is_from (floor_of old.window)) basis.rules) (before ++ m ∷ []) old.detector →
        new.window ≡ window_of basis.rules start (before ++ m ∷ [])
    pub holds : KeepsFrom old new
