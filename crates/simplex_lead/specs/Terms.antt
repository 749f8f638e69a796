-- The structure of terms: how long they are, when one is given up, and how far ahead of it a node looks.
use Rattle.std.specs.Prelude.{◌≡◌, ℕ, ◌<◌, Option, None, MatchOption}
use Rattle.std.specs.declared.time.Duration.{Duration}
use Rattle.std.specs.Duration.{as_nanos}

-- views of a term, the time after which it is given up, and the views of the lookahead
pub record Terms : Type 0 where
  pub term_length : ℕ
  pub stall_timeout : Option Duration
  pub optimistic_views : ℕ

-- terms of several views with a time that is not zero, where a node may look ahead
abbrev pub CanBeStable : ℕ → Duration → Type 0
CanBeStable term_length timeout = (1 < term_length) × (0 < as_nanos timeout)

-- terms of one view, which no node gives up or looks ahead of
abbrev pub rotating : Terms
rotating = record { term_length = 1; stall_timeout = None; optimistic_views = 0 }

-- there is a time exactly where terms have several views, and terms of one view have no lookahead
abbrev pub AreTerms : Terms → Type 0
AreTerms terms =
    MatchOption terms.stall_timeout ((terms.term_length ≡ 1) × (terms.optimistic_views ≡ 0))
    (λ timeout. CanBeStable terms.term_length timeout)
