-- How many views a window looks at. It bounds how many votes are recorded, whatever was sent.
use Rattle.std.specs.Prelude.{◌≡◌, ℕ, ◌+◌, ◌-◌, ◌<◌, ◌⊎◌, max, nat_eq, nat_lt, if◌then◌else◌}
use Rattle.simplex_base.specs.Positions.{Round}
use Rattle.simplex_lead.specs.Windows.{IsAdmitted, admitted_above}
use Rattle.simplex_lead.specs.declared.lookahead.Lookahead.{Lookahead}
use Rattle.simplex_monitor.specs.Window.{floor_of}
use Rattle.simplex_monitor.specs.declared.window.Window.{Window}

-- how many views of an epoch are looked at whose last certified view is `last`, from a lowest one on: those up to the last one,
-- and those that are admitted from it by a node that looks at least one view ahead
abbrev pub views_from : Lookahead → ℕ → ℕ → ℕ
views_from lookahead lowest last =
    (last + 1 - lowest) + admitted_above lookahead.term_length (max lookahead.optimistic_views 1) last

-- the first view of an epoch that is retained, which is not view 0
abbrev pub lowest_of : Window → ℕ → ℕ
lowest_of window epoch = if nat_eq epoch (floor_of window).epoch then max (floor_of window).view 1 else 1

-- the views of an epoch whose last certified view is `last`, and those of the next epoch, which may have none
abbrev pub views_of_epochs : Window → ℕ → ℕ → ℕ
views_of_epochs window epoch last =
    views_from window.lookahead (lowest_of window epoch) last + views_from window.lookahead 1 0

-- How many views a window looks at: those of the current epoch and of the next one, and until a round of the current epoch is
-- finalized also those of the last epoch that ended and of the one after it.
abbrev pub views_of : Window → ℕ
views_of window =
    views_of_epochs window window.current.epoch window.current.view
    + (if nat_lt (floor_of window).epoch window.current.epoch
    then views_of_epochs window window.ended.epoch window.ended.view else 0)

-- ---- inside

-- a view is looked at whose epoch's last certified view this is
abbrev pub IsInSight : Lookahead → ℕ → ℕ → Type 0
IsInSight lookahead last view = IsAdmitted lookahead.term_length (max lookahead.optimistic_views 1) last view

-- a round is below the last epoch that ended, or of an epoch that a window looks at and in sight there
abbrev pub IsNearby : Window → Round → Type 0
IsNearby window round =
    (round.epoch < window.ended.epoch)
    ⊎ ((round.epoch ≡ window.current.epoch) × IsInSight window.lookahead window.current.view round.view)
    ⊎ ((round.epoch ≡ window.current.epoch + 1) × IsInSight window.lookahead 0 round.view)
    ⊎ ((window.ended.epoch < window.current.epoch) × (round.epoch ≡ window.ended.epoch)
    × IsInSight window.lookahead window.ended.view round.view)
    ⊎ ((window.ended.epoch < window.current.epoch) × (round.epoch ≡ window.ended.epoch + 1)
    × IsInSight window.lookahead 0 round.view)
