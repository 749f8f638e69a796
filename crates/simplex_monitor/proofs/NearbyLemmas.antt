-- Rounds that a window looks at, as it moves.
use Rattle.std.proofs.Common.{◌≡◌, ℕ, ◌+◌, ◌<◌, ◌≤◌, ◌⊎◌, List, [], ◌∷◌, ◌++◌, true, false, max, inl, inr, refl, sym, ap, subst, ◌∙◌, arith, cond}
use Rattle.std.proofs.lemmas.Bool.{cases_lt}
use Rattle.std.specs.Ordering.{is_lt, ord_max}
use Rattle.simplex_base.specs.Positions.{Round}
use Rattle.simplex_rules.specs.Accusation.{round_cmp}
use Rattle.simplex_lead.specs.declared.lookahead.Lookahead.{Lookahead}
use Rattle.simplex_monitor.specs.Bounded.{IsInSight, IsNearby}
use Rattle.simplex_monitor.specs.Window.{AdmitsVote, IsInOrder, IsNear, window_after}
use Rattle.simplex_monitor.specs.declared.window.Window.{Window}
use Rattle.simplex_monitor.proofs.AdmittedLemmas.{admitted_ahead, admitted_stay}
use Rattle.simplex_monitor.proofs.RoundOrder.{at_most_epoch, at_most_numbers, max_above_left, max_above_right}
use Rattle.simplex_monitor.proofs.WindowLemmas.{ended_at_most, max_epoch, moved_earlier, moved_here, moved_later}

-- the greater of two rounds is one of them
max_is : (a b : Round) → (ord_max round_cmp a b ≡ a) ⊎ (ord_max round_cmp a b ≡ b)
max_is a b =
    elim (is_lt (round_cmp b a)) as (λ t. (cond t a b ≡ a) ⊎ (cond t a b ≡ b)) [ true ↦ inl refl | false ↦ inr refl ]

-- what is in sight stays in sight
pub still : (look : Lookahead) → 1 ≤ look.term_length → (c d q : ℕ) → c ≤ d → IsInSight look c q → IsInSight look d q
still look terms c d q le is =
    admitted_stay look.term_length (max look.optimistic_views 1) c d q terms (omega arith) le is

-- a round that votes are taken of
pub voted_nearby : (window : Window) (round : Round) → AdmitsVote window round → IsNearby window round
voted_nearby window round (low, near) = go near
  where
    ahead : (c : ℕ) → IsNear window.lookahead c round.view → IsInSight window.lookahead c round.view
    ahead c (inl le) = inl le
    ahead c (inr (fits, is)) =
        admitted_ahead window.lookahead.term_length window.lookahead.optimistic_views c round.view is

    go : ((round.epoch ≡ window.current.epoch) × IsNear window.lookahead window.current.view round.view)
        ⊎ ((round.epoch ≡ window.current.epoch + 1) × IsNear window.lookahead 0 round.view)
        ⊎ ((round.epoch ≡ window.ended.epoch) × (round.epoch < window.current.epoch)
        × IsNear window.lookahead window.ended.view round.view) → IsNearby window round
    go (inl (here, is)) = inr (inl (here, ahead window.current.view is))
    go (inr (inl (next, is))) = inr (inr (inl (next, ahead 0 is)))
    go (inr (inr (at, lt, is))) =
        inr (inr (inr (inl (omega (arith, at, lt), at, ahead window.ended.view is))))

-- ---- one certified round more

module _ (start : Window) (certified finalized : List Round) (round : Round) where
  abbrev old : Window
  old = window_after start certified finalized

  abbrev new : Window
  new = window_after start (certified ++ round ∷ []) finalized

  -- the round itself
  pub certified_nearby : IsInOrder start → IsNearby new round
  certified_nearby ordered = elim (cases_lt round.epoch old.current.epoch) as (λ _. IsNearby new round) [
    | inl earlier ↦ subst (λ (w : Window). IsNearby w round) (moved_earlier start certified finalized round earlier)
        (elim (at_most_numbers round (ord_max round_cmp old.ended round) (max_above_right old.ended round))
        as (λ _. IsNearby (record old { ended = ord_max round_cmp old.ended round }) round) [
          | inl below ↦ inl below
          | inr at ↦ inr (inr (inr (inl (omega (arith, at.0, earlier), at.0, inl at.1))))
        ])
    | inr others ↦ elim (cases_lt old.current.epoch round.epoch) as (λ _. IsNearby new round) [
      | inl later ↦ subst (λ (w : Window). IsNearby w round) (moved_later start certified finalized round ordered later)
          (inr (inl (refl, inl (omega arith))))
      | inr same ↦
          let here : old.current.epoch ≡ round.epoch = omega (arith, others, same) in
          subst (λ (w : Window). IsNearby w round) (moved_here start certified finalized round here)
          (elim (at_most_numbers round (ord_max round_cmp old.current round) (max_above_right old.current round))
          as (λ _. IsNearby (record old { current = ord_max round_cmp old.current round }) round) [
            | inl below ↦ absurd (omega (arith, below, here, max_epoch old.current round here))
            | inr at ↦ inr (inl (at.0, inl at.1))
          ])
    ]
  ]

  module _ (ordered : IsInOrder start) (terms : 1 ≤ start.lookahead.term_length) (other : Round) where
    after_earlier : round.epoch < old.current.epoch → IsNearby old other → IsNearby new other
    after_earlier earlier near =
        subst (λ (w : Window). IsNearby w other) (moved_earlier start certified finalized round earlier) (go near)
      where
        ended : Round
        ended = ord_max round_cmp old.ended round

        up : (old.ended.epoch < ended.epoch) ⊎ ((old.ended.epoch ≡ ended.epoch) × (old.ended.view ≤ ended.view))
        up = at_most_numbers old.ended ended (max_above_left old.ended round)

        before : old.ended.epoch < ended.epoch → ended.epoch < old.current.epoch
        before lt = elim (max_is old.ended round) as (λ _. ended.epoch < old.current.epoch) [
          | inl same ↦ absurd (let e = ap (λ (r : Round). r.epoch) same in omega (arith, e, lt))
          | inr is ↦ let e = ap (λ (r : Round). r.epoch) is in omega (arith, e, earlier)
        ]

        go : IsNearby old other → IsNearby (record old { ended = ended }) other
        go (inl below) = inl (let e = at_most_epoch old.ended ended (max_above_left old.ended round) in omega (arith, below, e))
        go (inr (inl at)) = inr (inl at)
        go (inr (inr (inl next))) = inr (inr (inl next))
        go (inr (inr (inr (inl (lt, at, sight))))) = elim up as (λ _. IsNearby (record old { ended = ended }) other) [
          | inl higher ↦ inl (omega (arith, at, higher))
          | inr (same, le) ↦ inr (inr (inr (inl (
            omega (arith, same, lt),
            at ∙ same,
            still start.lookahead terms old.ended.view ended.view other.view le sight,
          ))))
        ]
        go (inr (inr (inr (inr (lt, at, sight))))) = elim up as (λ _. IsNearby (record old { ended = ended }) other) [
          | inl higher ↦ elim (cases_lt other.epoch ended.epoch) as (λ _. IsNearby (record old { ended = ended }) other) [
            | inl below ↦ inl below
            | inr above ↦ inr (inr (inr (inl (
              before higher,
              omega (arith, at, higher, above),
              still start.lookahead terms 0 ended.view other.view (omega arith) sight,
            ))))
          ]
          | inr (same, le) ↦ inr (inr (inr (inr (omega (arith, same, lt), omega (arith, at, same), sight))))
        ]

    after_later : old.current.epoch < round.epoch → IsNearby old other → IsNearby new other
    after_later later near =
        subst (λ (w : Window). IsNearby w other) (moved_later start certified finalized round ordered later) (go near)
      where
        low : old.ended.epoch ≤ old.current.epoch
        low = at_most_epoch old.ended old.current (ended_at_most start certified finalized round old ordered refl)

        go : IsNearby old other → IsNearby (record old { ended = old.current; current = round }) other
        go (inl below) = inl (omega (arith, below, low))
        go (inr (inl (at, sight))) = inr (inr (inr (inl (later, at, sight))))
        go (inr (inr (inl (next, sight)))) = inr (inr (inr (inr (later, next, sight))))
        go (inr (inr (inr (inl (lt, at, sight))))) = inl (omega (arith, at, lt))
        go (inr (inr (inr (inr (lt, at, sight))))) = elim (cases_lt other.epoch old.current.epoch)
            as (λ _. IsNearby (record old { ended = old.current; current = round }) other) [
              | inl below ↦ inl below
              | inr above ↦ inr (inr (inr (inl (
                later,
                omega (arith, at, lt, above),
                still start.lookahead terms 0 old.current.view other.view (omega arith) sight,
              ))))
            ]

    after_here : old.current.epoch ≡ round.epoch → IsNearby old other → IsNearby new other
    after_here same near =
        subst (λ (w : Window). IsNearby w other) (moved_here start certified finalized round same) (go near)
      where
        current : Round
        current = ord_max round_cmp old.current round

        epoch : current.epoch ≡ old.current.epoch
        epoch = max_epoch old.current round same

        up : old.current.view ≤ current.view
        up = elim (at_most_numbers old.current current (max_above_left old.current round)) as (λ _.
            old.current.view ≤ current.view) [ inl lt ↦ absurd (omega (arith, lt, epoch)) | inr at ↦ at.1 ]

        go : IsNearby old other → IsNearby (record old { current = current }) other
        go (inl below) = inl below
        go (inr (inl (at, sight))) =
            inr (inl (at ∙ sym epoch, still start.lookahead terms old.current.view current.view other.view up sight))
        go (inr (inr (inl (next, sight)))) = inr (inr (inl (omega (arith, next, epoch), sight)))
        go (inr (inr (inr (inl (lt, at, sight))))) = inr (inr (inr (inl (omega (arith, lt, epoch), at, sight))))
        go (inr (inr (inr (inr (lt, at, sight))))) = inr (inr (inr (inr (omega (arith, lt, epoch), at, sight))))

    -- a round that was nearby stays so
    pub stays_nearby : IsNearby old other → IsNearby new other
    stays_nearby near = elim (cases_lt round.epoch old.current.epoch) as (λ _. IsNearby new other) [
      | inl earlier ↦ after_earlier earlier near
      | inr others ↦ elim (cases_lt old.current.epoch round.epoch) as (λ _. IsNearby new other) [
        | inl later ↦ after_later later near
        | inr same ↦ after_here (omega (arith, others, same)) near
      ]
    ]
