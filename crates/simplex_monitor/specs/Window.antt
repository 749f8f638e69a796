-- Which rounds an auditor that listens takes messages of, and what moves its window.
use Rattle.std.specs.Prelude.{◌≡◌, ℕ, ◌+◌, ◌-◌, ◌<◌, ◌≤◌, ◌⊎◌, List, ◌∷◌, IsTrue}
use Rattle.std.specs.Ordering.{is_le, ord_max}
use Rattle.simplex_base.specs.Positions.{Round}
use Rattle.simplex_lead.specs.Windows.{FitsWindow, IsAdmitted}
use Rattle.simplex_lead.specs.declared.lookahead.Lookahead.{Lookahead}
use Rattle.simplex_rules.specs.Accusation.{round_cmp}
use Rattle.simplex_rules.specs.Independence.{is_from}
use Rattle.simplex_monitor.specs.Heads.{greatest, of_earlier_epochs}
use Rattle.simplex_monitor.specs.declared.window.Window.{Window}

-- ---- what moves a window

-- the window that begins at a round
abbrev pub first_window : Round → ℕ → Lookahead → Window
first_window start view_retention lookahead = record {
  finalized = start;
  current = start;
  ended = start;
  view_retention = view_retention;
  lookahead = lookahead;
}

-- The window after certificates: `certified` are the rounds of those that certify something, in any order, and `finalized` the
-- rounds of those that finalize.
abbrev pub window_after : Window → List Round → List Round → Window
window_after start certified finalized =
    let current = greatest start.current certified in record {
      finalized = greatest start.finalized finalized;
      current = current;
      ended = greatest start.ended (of_earlier_epochs current (start.current ∷ certified));
      view_retention = start.view_retention;
      lookahead = start.lookahead;
    }

-- the last round of an earlier epoch is not above the current round
abbrev pub IsInOrder : Window → Type 0
IsInOrder window = IsTrue (is_le (round_cmp window.ended window.current))

-- ---- what a window takes

-- the finalized round less the retention, or the first round of the epoch before the current one, if that is later
abbrev pub floor_of : Window → Round
floor_of window =
    ord_max round_cmp (record { epoch = window.finalized.epoch; view = window.finalized.view - window.view_retention })
    (record { epoch = window.ended.epoch; view = 0 })

-- a round is at the floor or above it, and its view is not view 0
abbrev pub AdmitsCertificate : Window → Round → Type 0
AdmitsCertificate window round = (0 < round.view) × IsTrue (is_from (floor_of window) round)

-- Where c is the last view of an epoch that has a certificate, view q of that epoch is at most c, or is admitted from c.
abbrev pub IsNear : Lookahead → ℕ → ℕ → Type 0
IsNear lookahead c q =
    (q ≤ c)
    ⊎ (FitsWindow lookahead.term_length c × IsAdmitted lookahead.term_length lookahead.optimistic_views c q)

-- Votes of a round are taken if they are retained, and near the last certificate of the round's epoch, which is the current
-- one, the one after it or the last that ended.
abbrev pub AdmitsVote : Window → Round → Type 0
AdmitsVote window round =
    AdmitsCertificate window round
    × (((round.epoch ≡ window.current.epoch) × IsNear window.lookahead window.current.view round.view)
    ⊎ ((round.epoch ≡ window.current.epoch + 1) × IsNear window.lookahead 0 round.view)
    ⊎ ((round.epoch ≡ window.ended.epoch) × (round.epoch < window.current.epoch)
    × IsNear window.lookahead window.ended.view round.view))
