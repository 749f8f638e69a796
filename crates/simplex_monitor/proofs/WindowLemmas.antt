-- What certificates move.
use Rattle.std.proofs.Common.{◌≡◌, ℕ, ◌+◌, ◌-◌, ◌⊎◌, ◌↔◌, Bool, true, false, List, [], ◌∷◌, ◌++◌, inl, inr, refl, sym, ap, subst, ◌∙◌, ◌<◌, ◌≤◌, cond, arith, append-nil}
use Rattle.std.proofs.lemmas.Bool.{cases_lt, le-ltb, lt-ltb}
use Rattle.std.proofs.lemmas.List.Elements.{Contains-append_right, filter-append}
use Rattle.std.specs.Ordering.{is_le, ord_max}
use Rattle.std.specs.Prelude.{Contains, filter, nat_lt}
use Rattle.simplex_base.specs.Positions.{Round}
use Rattle.simplex_rules.specs.Accusation.{round_cmp}
use Rattle.simplex_lead.specs.Windows.{FitsWindow, IsAdmitted, IsRetained}
use Rattle.simplex_monitor.specs.Heads.{greatest, of_earlier_epochs}
use Rattle.simplex_monitor.specs.Window.{AdmitsCertificate, AdmitsVote, IsInOrder, IsNear, floor_of, window_after}
use Rattle.simplex_monitor.specs.declared.window.Window.{Window}
use Rattle.simplex_monitor.proofs.RoundOrder.{AtMost, Contains-filter, Contains-from_filter, at_most_epoch, at_most_from_numbers, at_most_numbers, at_most_trans, greatest_above, greatest_least, max_above_left, max_above_right, max_least, at_most_from_not, earlier_at_most, filter_all, greatest_above_all, greatest_above_first, greatest_more, max_higher, max_lower}

-- the filter of epochs, after one round more
filter_more : (p : Round → Bool) (rounds : List Round) (round : Round) (b : Bool) → p round ≡ b →
    filter p (rounds ++ round ∷ []) ≡ filter p rounds ++ cond b (round ∷ []) []
filter_more p rounds round b e = filter-append p rounds (round ∷ []) ∙ ap (λ c. filter p rounds ++ cond c (round ∷ []) []) e

-- of rounds of one epoch the greater is of that epoch
pub max_epoch : (a b : Round) → a.epoch ≡ b.epoch → (ord_max round_cmp a b).epoch ≡ a.epoch
max_epoch a b same =
    elim (is_le (round_cmp b a)) as (λ t. is_le (round_cmp b a) ≡ t → (ord_max round_cmp a b).epoch ≡ a.epoch) [
      | true ↦ λ e. ap (λ (r : Round). r.epoch) (max_lower a b e)
      | false ↦ λ e. ap (λ (r : Round). r.epoch) (max_higher a b (at_most_from_not b a e)) ∙ sym same
    ] refl

module _ (start : Window) (certified finalized : List Round) (round : Round) where
  -- the last round of an earlier epoch, after one certificate more, if the current round is then this one
  ended_after : (head : Round) (b : Bool) → greatest start.current (certified ++ round ∷ []) ≡ head →
      nat_lt round.epoch head.epoch ≡ b →
      greatest start.ended (of_earlier_epochs (greatest start.current (certified ++ round ∷ []))
      (start.current ∷ (certified ++ round ∷ [])))
      ≡ greatest start.ended (of_earlier_epochs head (start.current ∷ certified) ++ cond b (round ∷ []) [])
  ended_after head b is test =
      ap (λ (h : Round). greatest start.ended (of_earlier_epochs h (start.current ∷ (certified ++ round ∷ [])))) is
      ∙ ap (greatest start.ended)
      (filter_more (λ q. nat_lt q.epoch head.epoch) (start.current ∷ certified) round b test)

  -- a certificate of an earlier epoch
  pub moved_earlier : round.epoch < (greatest start.current certified).epoch →
      record (window_after start certified finalized) {
        ended = ord_max round_cmp (window_after start certified finalized).ended round;
      }
      ≡ window_after start (certified ++ round ∷ []) finalized
  moved_earlier lt =
      let head = greatest start.current certified in
      let is : greatest start.current (certified ++ round ∷ []) ≡ head =
      greatest_more start.current certified round ∙ max_lower head round (ap is_le (earlier_at_most round head lt)) in
      let ends = ended_after head true is (lt-ltb round.epoch head.epoch lt)
      ∙ greatest_more start.ended (of_earlier_epochs head (start.current ∷ certified)) round in
      sym (λ i. record {
        finalized = greatest start.finalized finalized;
        current = is i;
        ended = ends i;
        view_retention = start.view_retention;
        lookahead = start.lookahead;
      })

  -- a certificate of a later epoch
  pub moved_later : IsInOrder start → (greatest start.current certified).epoch < round.epoch →
      record (window_after start certified finalized) {
        ended = greatest start.current certified;
        current = round;
      }
      ≡ window_after start (certified ++ round ∷ []) finalized
  moved_later ordered lt =
      let head = greatest start.current certified in
      let more = greatest_more start.current certified round in
      let is : greatest start.current (certified ++ round ∷ []) ≡ round =
      more ∙ max_higher head round (ap is_le (earlier_at_most head round lt)) in
      let all : of_earlier_epochs round (start.current ∷ certified) ++ [] ≡ start.current ∷ certified =
      append-nil (of_earlier_epochs round (start.current ∷ certified))
      ∙ filter_all (λ q. nat_lt q.epoch round.epoch) (start.current ∷ certified) (λ q here.
      let low : q.epoch ≤ head.epoch = at_most_epoch q head (greatest_above_first start.current certified q here) in
      lt-ltb q.epoch round.epoch (omega (arith, low, lt))) in
      let ends = ended_after round false is (le-ltb round.epoch round.epoch (omega arith)) ∙ ap (greatest start.ended) all
      ∙ ap (λ r. greatest r certified) (max_higher start.ended start.current ordered) in
      sym (λ i. record {
        finalized = greatest start.finalized finalized;
        current = is i;
        ended = ends i;
        view_retention = start.view_retention;
        lookahead = start.lookahead;
      })

  -- a certificate of the same epoch
  pub moved_here : (greatest start.current certified).epoch ≡ round.epoch →
      record (window_after start certified finalized) {
        current = ord_max round_cmp (greatest start.current certified) round;
      }
      ≡ window_after start (certified ++ round ∷ []) finalized
  moved_here same =
      let head = greatest start.current certified in
      let more = greatest_more start.current certified round in
      let epoch : (greatest start.current (certified ++ round ∷ [])).epoch ≡ head.epoch =
      ap (λ (r : Round). r.epoch) more ∙ max_epoch head round same in
      let test : nat_lt round.epoch (greatest start.current (certified ++ round ∷ [])).epoch ≡ false =
      le-ltb round.epoch _ (omega (arith, epoch, same)) in
      let ends = ended_after (greatest start.current (certified ++ round ∷ [])) false refl test
      ∙ ap (λ n. greatest start.ended (filter (λ (q : Round). nat_lt q.epoch n) (start.current ∷ certified) ++ [])) epoch
      ∙ ap (greatest start.ended) (append-nil (of_earlier_epochs head (start.current ∷ certified))) in
      sym (λ i. record {
        finalized = greatest start.finalized finalized;
        current = more i;
        ended = ends i;
        view_retention = start.view_retention;
        lookahead = start.lookahead;
      })

  -- a round that has a certificate is at most the current one
  pub certified_at_most : Contains certified round → AtMost round (greatest start.current certified)
  certified_at_most here = greatest_above_all start.current certified round here

  -- another certificate of such a round moves nothing
  pub stays_earlier : Contains certified round → round.epoch < (greatest start.current certified).epoch →
      ord_max round_cmp (window_after start certified finalized).ended round ≡ (window_after start certified finalized).ended
  stays_earlier here lt =
      let head = greatest start.current certified in
      let earlier = of_earlier_epochs head (start.current ∷ certified) in
      max_lower (greatest start.ended earlier) round (greatest_above_all start.ended earlier round
      (Contains-filter (λ q. nat_lt q.epoch head.epoch) (start.current ∷ certified) round
      (Contains-append_right (start.current ∷ []) certified round here) (lt-ltb round.epoch head.epoch lt)))

  pub stays_here : Contains certified round →
      ord_max round_cmp (greatest start.current certified) round ≡ greatest start.current certified
  stays_here here = max_lower (greatest start.current certified) round (certified_at_most here)

  -- ---- what the code returns

  pub answer_earlier : (w : Window) (ended : Round) → w ≡ window_after start certified finalized →
      ended ≡ ord_max round_cmp w.ended round → round.epoch < w.current.epoch →
      record w { ended = ended } ≡ window_after start (certified ++ round ∷ []) finalized
  answer_earlier w ended is here lt =
      (λ i. record (is i) { ended = (here ∙ ap (λ (v : Window). ord_max round_cmp v.ended round) is) i })
      ∙ moved_earlier (subst (λ (v : Window). round.epoch < v.current.epoch) is lt)

  pub answer_later : (w : Window) → IsInOrder start → w ≡ window_after start certified finalized →
      w.current.epoch < round.epoch →
      record w { ended = w.current; current = round } ≡ window_after start (certified ++ round ∷ []) finalized
  answer_later w ordered is lt =
      (λ i. record (is i) { ended = (is i).current; current = round })
      ∙ moved_later ordered (subst (λ (v : Window). v.current.epoch < round.epoch) is lt)

  pub answer_here : (w : Window) (head : Round) → w ≡ window_after start certified finalized →
      head ≡ ord_max round_cmp w.current round → w.current.epoch ≡ round.epoch →
      record w { current = head } ≡ window_after start (certified ++ round ∷ []) finalized
  answer_here w head is here same =
      (λ i. record (is i) { current = (here ∙ ap (λ (v : Window). ord_max round_cmp v.current round) is) i })
      ∙ moved_here (subst (λ (v : Window). v.current.epoch ≡ round.epoch) is same)

  pub again_earlier : (w : Window) (ended : Round) → w ≡ window_after start certified finalized →
      ended ≡ ord_max round_cmp w.ended round → round.epoch < w.current.epoch → Contains certified round →
      record w { ended = ended } ≡ w
  again_earlier w ended is here lt among =
      let stays : ord_max round_cmp w.ended round ≡ w.ended =
      subst (λ (v : Window). ord_max round_cmp v.ended round ≡ v.ended) (sym is)
      (stays_earlier among (subst (λ (v : Window). round.epoch < v.current.epoch) is lt)) in
      λ i. record w { ended = (here ∙ stays) i }

  pub again_here : (w : Window) (head : Round) → w ≡ window_after start certified finalized →
      head ≡ ord_max round_cmp w.current round → Contains certified round → record w { current = head } ≡ w
  again_here w head is here among =
      let stays : ord_max round_cmp w.current round ≡ w.current =
      subst (λ (v : Window). ord_max round_cmp v.current round ≡ v.current) (sym is) (stays_here among) in
      λ i. record w { current = (here ∙ stays) i }

  pub never_later : (w : Window) → w ≡ window_after start certified finalized → Contains certified round →
      w.current.epoch < round.epoch → ⊥
  never_later w is among lt =
      let low : round.epoch ≤ w.current.epoch = subst (λ (v : Window). round.epoch ≤ v.current.epoch) (sym is)
      (at_most_epoch round (greatest start.current certified) (certified_at_most among)) in
      omega (arith, low, lt)

  -- the last round of an earlier epoch is at most the current one
  pub ended_at_most : (w : Window) → IsInOrder start → w ≡ window_after start certified finalized → AtMost w.ended w.current
  ended_at_most w ordered is =
      let head = greatest start.current certified in
      let earlier = of_earlier_epochs head (start.current ∷ certified) in
      subst (λ (v : Window). AtMost v.ended v.current) (sym is)
      (greatest_least start.ended head earlier
      (at_most_trans start.ended start.current head ordered (greatest_above start.current certified))
      (λ q here. greatest_above_first start.current certified q
      (Contains-from_filter (λ r. nat_lt r.epoch head.epoch) (start.current ∷ certified) q here)))

-- a finalization more
pub answer_finalized : (start : Window) (certified finalized : List Round) (round : Round) (w : Window) (head : Round) →
    w ≡ window_after start certified finalized → head ≡ ord_max round_cmp w.finalized round →
    record w { finalized = head } ≡ window_after start certified (finalized ++ round ∷ [])
answer_finalized start certified finalized round w head is here =
    λ i. record (is i) {
      finalized = (here ∙ ap (λ (v : Window). ord_max round_cmp v.finalized round) is
          ∙ sym (greatest_more start.finalized finalized round)) i;
    }

pub again_finalized : (start : Window) (certified finalized : List Round) (round : Round) (w : Window) (head : Round) →
    w ≡ window_after start certified finalized → head ≡ ord_max round_cmp w.finalized round → Contains finalized round →
    record w { finalized = head } ≡ w
again_finalized start certified finalized round w head is here among =
    let stays : ord_max round_cmp w.finalized round ≡ w.finalized =
    subst (λ (v : Window). ord_max round_cmp v.finalized round ≡ v.finalized) (sym is)
    (max_lower (greatest start.finalized finalized) round (greatest_above_all start.finalized finalized round among)) in
    λ i. record w { finalized = (here ∙ stays) i }

-- the floor rises with the finalized round and with the last round of an earlier epoch
pub floor_rises : (a b : Window) → AtMost a.finalized b.finalized → AtMost a.ended b.ended →
    a.view_retention ≡ b.view_retention → AtMost (floor_of a) (floor_of b)
floor_rises a b up later same =
    let p : Round = record { epoch = a.finalized.epoch; view = a.finalized.view - a.view_retention } in
    let q : Round = record { epoch = a.ended.epoch; view = 0 } in
    let r : Round = record { epoch = b.finalized.epoch; view = b.finalized.view - b.view_retention } in
    let s : Round = record { epoch = b.ended.epoch; view = 0 } in
    let low : AtMost p r = at_most_from_numbers p r (lower a.finalized b.finalized a.view_retention b.view_retention same
    (at_most_numbers a.finalized b.finalized up)) in
    let first : AtMost q s = at_most_from_numbers q s (begins a.ended b.ended (at_most_numbers a.ended b.ended later)) in
    max_least p q (ord_max round_cmp r s) (at_most_trans p r (ord_max round_cmp r s) low (max_above_left r s))
    (at_most_trans q s (ord_max round_cmp r s) first (max_above_right r s))
  where
    lower : (f g : Round) (n m : ℕ) → n ≡ m → (f.epoch < g.epoch) ⊎ ((f.epoch ≡ g.epoch) × (f.view ≤ g.view)) →
        (f.epoch < g.epoch) ⊎ ((f.epoch ≡ g.epoch) × (f.view - n ≤ g.view - m))
    lower f g n m same h = elim h as (λ _. (f.epoch < g.epoch) ⊎ ((f.epoch ≡ g.epoch) × (f.view - n ≤ g.view - m)))
        [ inl lt ↦ inl lt | inr both ↦ inr (both.0, omega (arith, both.1, same)) ]

    begins : (f g : Round) → (f.epoch < g.epoch) ⊎ ((f.epoch ≡ g.epoch) × (f.view ≤ g.view)) →
        (f.epoch < g.epoch) ⊎ ((f.epoch ≡ g.epoch) × (0 ≤ 0))
    begins f g h = elim h as (λ _. (f.epoch < g.epoch) ⊎ ((f.epoch ≡ g.epoch) × (0 ≤ 0)))
        [ inl lt ↦ inl lt | inr both ↦ inr (both.0, omega arith) ]

-- in the finalized epoch the floor is that of the viewport
pub from_floor_retained : (w : Window) (round : Round) → round.epoch ≡ w.finalized.epoch → w.ended.epoch ≤ round.epoch →
    AtMost (floor_of w) round → w.finalized.view ≤ round.view + w.view_retention
from_floor_retained w round same before from =
    let p : Round = record { epoch = w.finalized.epoch; view = w.finalized.view - w.view_retention } in
    let q : Round = record { epoch = w.ended.epoch; view = 0 } in
    elim (at_most_numbers p round (at_most_trans p (floor_of w) round (max_above_left p q)
    from)) as (λ _. w.finalized.view ≤ round.view + w.view_retention)
    [ inl lt ↦ absurd (omega (arith, lt, same)) | inr both ↦ omega (arith, both.1) ]

pub retained_from_floor : (w : Window) (round : Round) → round.epoch ≡ w.finalized.epoch → w.ended.epoch ≤ round.epoch →
    w.finalized.view ≤ round.view + w.view_retention → AtMost (floor_of w) round
retained_from_floor w round same before retained =
    let p : Round = record { epoch = w.finalized.epoch; view = w.finalized.view - w.view_retention } in
    let q : Round = record { epoch = w.ended.epoch; view = 0 } in
    max_least p q round (at_most_from_numbers p round (inr (sym same, omega (arith, retained))))
    (at_most_from_numbers q round (begins w.ended.epoch round (cases_lt w.ended.epoch round.epoch) before))
  where
    begins : (e : ℕ) (r : Round) → (e < r.epoch) ⊎ (r.epoch ≤ e) → e ≤ r.epoch →
        (e < r.epoch) ⊎ ((e ≡ r.epoch) × (0 ≤ r.view))
    begins e r h le = elim h as (λ _. (e < r.epoch) ⊎ ((e ≡ r.epoch) × (0 ≤ r.view)))
        [ inl lt ↦ inl lt | inr ge ↦ inr (omega (arith, ge, le), omega arith) ]

pub retained : (w : Window) (round : Round) → round.epoch ≡ w.finalized.epoch → w.ended.epoch ≤ round.epoch →
    AdmitsCertificate w round ↔ IsRetained w.finalized.view w.view_retention round.view
retained w round same before = (
  (λ at. (at.0, from_floor_retained w round same before at.1)),
  (λ is. (is.0, retained_from_floor w round same before is.1)),
)

pub admitted : (w : Window) (round : Round) → round.epoch ≡ w.finalized.epoch → round.epoch ≡ w.current.epoch →
    w.ended.epoch ≤ round.epoch → FitsWindow w.lookahead.term_length w.current.view →
    AdmitsVote w round ↔ (IsRetained w.finalized.view w.view_retention round.view
    × IsAdmitted w.lookahead.term_length w.lookahead.optimistic_views w.current.view round.view)
admitted w round same here before fits = (
  (λ taken. ((retained w round same before).0 taken.0, near taken.1)),
  (λ is. ((retained w round same before).1 is.0, inl (here, inr (fits, is.1)))),
)
  where
    near : ((round.epoch ≡ w.current.epoch) × IsNear w.lookahead w.current.view round.view)
        ⊎ ((round.epoch ≡ w.current.epoch + 1) × IsNear w.lookahead 0 round.view)
        ⊎ ((round.epoch ≡ w.ended.epoch) × (round.epoch < w.current.epoch)
        × IsNear w.lookahead w.ended.view round.view) →
        IsAdmitted w.lookahead.term_length w.lookahead.optimistic_views w.current.view round.view
    near (inl (e, inl low)) = inl low
    near (inl (e, inr (fit, is))) = is
    near (inr (inl (next, is))) = absurd (omega (arith, here, next))
    near (inr (inr (e, lt, is))) = absurd (omega (arith, here, lt))
