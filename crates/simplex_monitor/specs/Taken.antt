-- Which messages a window takes, and how those that it took have moved it.
use Rattle.std.specs.Prelude.{◌≡◌, ℕ, ◌+◌, ◌⊎◌, IsTrue, List, [], ◌∷◌, ◌++◌, filter, map}
use Rattle.simplex_base.specs.Positions.{Round}
use Rattle.simplex_scheme.specs.Kind.{kind_of, same_kind}
use Rattle.simplex_scheme.specs.Subject.{round_of}
use Rattle.simplex_scheme.specs.declared.kind.VoteKind.TheVariants as kinds
use Rattle.simplex_evidence.specs.Activity.{activity_round}
use Rattle.simplex_evidence.specs.declared.types.activity.Activity.{Activity}
use Rattle.simplex_rules.specs.FirstCertified.{certified_subjects}
use Rattle.simplex_rules.specs.Rules.{Rules}
use Rattle.simplex_rules.specs.Splits.{is_certified_message}
use Rattle.simplex_monitor.specs.Window.{AdmitsCertificate, AdmitsVote, window_after}
use Rattle.simplex_monitor.specs.declared.window.Window.{Window}

module _ {S D C P G : Type 0} (rules : Rules S D C P G) where
  -- the rounds of what messages certify, in the messages' order
  abbrev pub certified_rounds : List (Activity S D C P G) → List Round
  certified_rounds messages = map round_of (certified_subjects rules messages)

  -- the rounds of those certified subjects that finalize
  abbrev pub finalized_rounds : List (Activity S D C P G) → List Round
  finalized_rounds messages =
      map round_of (filter (λ x. same_kind (kind_of x) kinds.Finalize) (certified_subjects rules messages))

  -- the window that began as `start`, after the messages that it took
  abbrev pub window_of : Window → List (Activity S D C P G) → Window
  window_of start taken = window_after start (certified_rounds taken) (finalized_rounds taken)

  -- A window takes a message if it admits votes of its round, or if the message certifies something and the window admits
  -- certificates of its round.
  abbrev pub Takes : Window → Activity S D C P G → Type 0
  Takes window m =
      AdmitsVote window (activity_round m)
      ⊎ (AdmitsCertificate window (activity_round m) × IsTrue (is_certified_message rules m))

  -- Of messages that come after those `before`, which the window took, these are taken: each that the window takes when it
  -- comes. Of the others `below` are of rounds that the window admits nothing of, and `above` of rounds that lie beyond it.
  abbrev pub AreTaken : Window → List (Activity S D C P G) → List (Activity S D C P G) → List (Activity S D C P G) → ℕ → ℕ →
      Type 0
  AreTaken start before [] taken below above = (taken ≡ []) × (below ≡ 0) × (above ≡ 0)
  AreTaken start before (m ∷ ms) taken below above =
      let window = window_of start before in
      (Takes window m × (rest : List (Activity S D C P G)) × (taken ≡ m ∷ rest)
      × AreTaken start (before ++ m ∷ []) ms rest below above)
      ⊎ ((AdmitsCertificate window (activity_round m) → ⊥) × (n : ℕ) × (below ≡ n + 1)
      × AreTaken start before ms taken n above)
      ⊎ (AdmitsCertificate window (activity_round m) × (Takes window m → ⊥) × (n : ℕ) × (above ≡ n + 1)
      × AreTaken start before ms taken below n)
