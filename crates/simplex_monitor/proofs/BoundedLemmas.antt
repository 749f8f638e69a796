-- How many votes can be recorded of the rounds that a window looks at.
use Rattle.std.proofs.Common.{◌≡◌, ℕ, ◌+◌, ◌*◌, ◌-◌, ◌<◌, ◌≤◌, Bool, true, false, not, List, [], ◌∷◌, ◌++◌, cond, inl, inr, length, length-append, map, max, min, nat_eq, nat_lt, refl, sym, ap, subst, ◌∙◌, arith}
use Rattle.std.proofs.Math.Nat.{suc-mul}
use Rattle.std.proofs.lemmas.Bool.{cases_lt, false≢true, lt-ltb}
use Rattle.std.proofs.lemmas.List.{length-map}
use Rattle.std.proofs.lemmas.List.Elements.{Contains-append_left, Contains-append_right}
use Rattle.std.proofs.lemmas.List.Filters.{length-filter_both}
use Rattle.std.proofs.lemmas.List.FromFn.{get_or-range_with_len, length-range_with_len}
use Rattle.std.specs.List.{range_with_len}
use Rattle.std.specs.Prelude.{Contains, filter}
use Rattle.simplex_base.specs.Positions.{Round, same_round}
use Rattle.simplex_base.specs.Terms.{term_end}
use Rattle.simplex_base.specs.TermLaws.{end_after}
use Rattle.simplex_lead.specs.Windows.{next_start}
use Rattle.simplex_lead.specs.declared.lookahead.Lookahead.{Lookahead}
use Rattle.simplex_monitor.specs.Bounded.{IsInSight, IsNearby, lowest_of, views_from, views_of}
use Rattle.simplex_monitor.specs.Window.{floor_of}
use Rattle.simplex_monitor.specs.declared.window.Window.{Window}
use Rattle.simplex_monitor.proofs.NearbyLemmas.{still}
use Rattle.simplex_monitor.proofs.RoundOrder.{AtMost, Contains-cons_cases, Contains-from_filter, Contains-none, at_most_epoch, at_most_numbers, at_most_trans, max_above_right}

-- ---- counting by rounds

-- an element that is left passes
pub passes : {X : Type 0} (p : X → Bool) (xs : List X) (x : X) → Contains (filter p xs) x → p x ≡ true
passes p [] x h = absurd (Contains-none x h)
passes {X} p (y ∷ ys) x h = go (passes p ys x) (p y) refl h
  where
    go : (Contains (filter p ys) x → p x ≡ true) → (b : Bool) → p y ≡ b →
        Contains (cond b (y ∷ filter p ys) (filter p ys)) x → p x ≡ true
    go later true at here = elim (Contains-cons_cases y (filter p ys) x here) as (λ _. p x ≡ true)
        [ inl same ↦ subst (λ z. p z ≡ true) same at | inr rest ↦ later rest ]
    go later false at here = later here

-- a selection has no more that pass
no_more : {X : Type 0} (p q : X → Bool) (xs : List X) → length (filter p (filter q xs)) ≤ length (filter p xs)
no_more p q [] = omega arith
no_more {X} p q (x ∷ xs) = go (no_more p q xs) (q x) (p x) refl
  where
    go : length (filter p (filter q xs)) ≤ length (filter p xs) → (a b : Bool) → p x ≡ b →
        length (filter p (cond a (x ∷ filter q xs) (filter q xs))) ≤ length (cond b (x ∷ filter p xs) (filter p xs))
    go rest true b at = subst (λ c. length (cond c (x ∷ filter p (filter q xs)) (filter p (filter q xs)))
        ≤ length (cond b (x ∷ filter p xs) (filter p xs))) (sym at) (both rest b)
      where
        both : length (filter p (filter q xs)) ≤ length (filter p xs) → (c : Bool) →
            length (cond c (x ∷ filter p (filter q xs)) (filter p (filter q xs)))
            ≤ length (cond c (x ∷ filter p xs) (filter p xs))
        both less true = omega (arith, less)
        both less false = less
    go rest false true at = omega (arith, rest)
    go rest false false at = rest

same_here : (a b : Round) → a ≡ b → same_round b a ≡ true
same_here a b e = grind (arith, e)

-- if each of some elements is of one of some rounds, and of each round there are few, there are few in all
pub covered : {X : Type 0} (at : X → Round) (n : ℕ) (rounds : List Round) (xs : List X) →
    ((round : Round) → Contains rounds round → length (filter (λ x. same_round (at x) round) xs) ≤ n) →
    ((x : X) → Contains xs x → Contains rounds (at x)) → length xs ≤ length rounds * n
covered at n [] [] few among = omega arith
covered at n [] (x ∷ xs) few among = absurd (Contains-none (at x) (among x (0, omega arith, refl)))
covered {X} at n (r ∷ rounds) xs few among =
    let here : X → Bool = λ x. same_round (at x) r in
    let away : X → Bool = λ x. not (same_round (at x) r) in
    let both = length-filter_both here away (λ x. refl) xs in
    let first = few r (0, omega arith, refl) in
    let rest = covered at n rounds (filter away xs)
    (λ round r_in. let less = no_more (λ x. same_round (at x) round) away xs in
    let all = few round (Contains-append_right (r ∷ []) rounds round r_in) in omega (arith, less, all))
    (λ x x_in. elim (Contains-cons_cases r rounds (at x) (among x (Contains-from_filter away xs x x_in)))
    as (λ _. Contains rounds (at x)) [
      | inl is ↦ absurd (false≢true (sym (ap not (same_here r (at x) is)) ∙ passes away xs x x_in))
      | inr later ↦ later
    ]) in
    omega (arith, both, first, rest, suc-mul (length rounds) n)

-- ---- the rounds of a window

in_range : (a n q : ℕ) → a ≤ q → q < a + n → Contains (range_with_len a n) q
in_range a n q low high = (
  q - a,
  omega (arith, low, high, length-range_with_len a n),
  get_or-range_with_len a n (q - a) _ (omega (arith, low, high)) ∙ omega (arith, low),
)

in_map : {X Y : Type 0} (f : X → Y) (xs : List X) (x : X) → Contains xs x → Contains (map f xs) (f x)
in_map f [] x h = absurd (Contains-none x h)
in_map f (y ∷ ys) x h = elim (Contains-cons_cases y ys x h) as (λ _. Contains (f y ∷ map f ys) (f x)) [
  | inl same ↦ subst (λ z. Contains (f y ∷ map f ys) (f z)) same (0, omega arith, refl)
  | inr later ↦ Contains-append_right (f y ∷ []) (map f ys) (f x) (in_map f ys x later)
]

-- the views of an epoch that are looked at
abbrev views_list : Lookahead → ℕ → ℕ → List ℕ
views_list look lowest last =
    let l = look.term_length in
    let k = max look.optimistic_views 1 in
    range_with_len lowest (last + 1 - lowest)
    ++ (range_with_len (last + 1) (min (2 * k + 1) (term_end l last - last))
    ++ range_with_len (next_start l last) (min (max k 1) l + 2))

views_count : (look : Lookahead) (lowest last : ℕ) → length (views_list look lowest last) ≡ views_from look lowest last
views_count look lowest last =
    let l = look.term_length in
    let k = max look.optimistic_views 1 in
    let a = range_with_len lowest (last + 1 - lowest) in
    let b = range_with_len (last + 1) (min (2 * k + 1) (term_end l last - last)) in
    let c = range_with_len (next_start l last) (min (max k 1) l + 2) in
    omega (
      arith,
      length-append a (b ++ c),
      length-append b c,
      length-range_with_len lowest (last + 1 - lowest),
      length-range_with_len (last + 1) (min (2 * k + 1) (term_end l last - last)),
      length-range_with_len (next_start l last) (min (max k 1) l + 2),
    )

in_views : (look : Lookahead) → 1 ≤ look.term_length → (lowest last q : ℕ) → lowest ≤ q → IsInSight look last q →
    Contains (views_list look lowest last) q
in_views look terms lowest last q low sight = go sight
  where
    l : ℕ
    l = look.term_length

    k : ℕ
    k = max look.optimistic_views 1

    own : List ℕ
    own = range_with_len lowest (last + 1 - lowest)

    near : List ℕ
    near = range_with_len (last + 1) (min (2 * k + 1) (term_end l last - last))

    far : List ℕ
    far = range_with_len (next_start l last) (min (max k 1) l + 2)

    ends : last ≤ term_end l last
    ends = end_after l last terms

    first : q < lowest + (last + 1 - lowest) → Contains (own ++ (near ++ far)) q
    first high = Contains-append_left own (near ++ far) q (in_range lowest (last + 1 - lowest) q low high)

    second : last + 1 ≤ q → q < last + 1 + min (2 * k + 1) (term_end l last - last) → Contains (own ++ (near ++ far)) q
    second from high = Contains-append_right own (near ++ far) q (Contains-append_left near far q
        (in_range (last + 1) (min (2 * k + 1) (term_end l last - last)) q from high))

    third : next_start l last ≤ q → q < next_start l last + (min (max k 1) l + 2) → Contains (own ++ (near ++ far)) q
    third from high = Contains-append_right own (near ++ far) q (Contains-append_right near far q
        (in_range (next_start l last) (min (max k 1) l + 2) q from high))

    go : IsInSight look last q → Contains (own ++ (near ++ far)) q
    go (inl le) = first (omega (arith, low, le))
    go (inr (inl one)) = elim (cases_lt last (term_end l last)) as (λ _. Contains (own ++ (near ++ far)) q) [
      | inl more ↦ second (omega (arith, one)) (omega (arith, one, more))
      | inr none ↦ third (omega (arith, one, none, ends)) (omega (arith, one, none, ends))
    ]
    go (inr (inr (inl start))) = third (omega (arith, start)) (omega (arith, start))
    go (inr (inr (inr (inl at)))) = second (omega (arith, at.0)) (omega (arith, at.0, at.1, ends))
    go (inr (inr (inr (inr at)))) = third (omega (arith, at.0)) (omega (arith, at.0, at.1))

-- the rounds of an epoch
abbrev of_epoch : ℕ → List ℕ → List Round
of_epoch epoch views = map (λ view. record { epoch = epoch; view = view }) views

in_epoch : (epoch : ℕ) (views : List ℕ) (round : Round) → round.epoch ≡ epoch → Contains views round.view →
    Contains (of_epoch epoch views) round
in_epoch epoch views round same here =
    subst (λ e. Contains (of_epoch epoch views) (record { epoch = e; view = round.view })) (sym same)
    (in_map (λ view. record { epoch = epoch; view = view }) views round.view here)

abbrev epochs_list : Window → ℕ → ℕ → List Round
epochs_list window epoch last =
    of_epoch epoch (views_list window.lookahead (lowest_of window epoch) last)
    ++ of_epoch (epoch + 1) (views_list window.lookahead 1 0)

epochs_count : (window : Window) (epoch last : ℕ) → length (epochs_list window epoch last)
    ≡ views_from window.lookahead (lowest_of window epoch) last + views_from window.lookahead 1 0
epochs_count window epoch last =
    let look = window.lookahead in
    let a = views_list look (lowest_of window epoch) last in
    let b = views_list look 1 0 in
    length-append (of_epoch epoch a) (of_epoch (epoch + 1) b)
    ∙ ap (λ n. n + length (of_epoch (epoch + 1) b)) (length-map a (λ view. record { epoch = epoch; view = view }))
    ∙ ap (λ n. length a + n) (length-map b (λ view. record { epoch = epoch + 1; view = view }))
    ∙ ap (λ n. n + length b) (views_count look (lowest_of window epoch) last)
    ∙ ap (λ n. views_from look (lowest_of window epoch) last + n) (views_count look 1 0)

-- all rounds that a window looks at
abbrev pub rounds_list : Window → List Round
rounds_list window =
    epochs_list window window.current.epoch window.current.view
    ++ (cond (nat_lt (floor_of window).epoch window.current.epoch)
    (epochs_list window window.ended.epoch window.ended.view) [])

pub rounds_count : (window : Window) → length (rounds_list window) ≡ views_of window
rounds_count window =
    let here = epochs_list window window.current.epoch window.current.view in
    let before = epochs_list window window.ended.epoch window.ended.view in
    go (nat_lt (floor_of window).epoch window.current.epoch) here before
    (epochs_count window window.current.epoch window.current.view)
    (epochs_count window window.ended.epoch window.ended.view)
  where
    go : {n k : ℕ} (b : Bool) (xs ys : List Round) → length xs ≡ n → length ys ≡ k →
        length (xs ++ cond b ys []) ≡ n + cond b k 0
    go {n} true xs ys one other = length-append xs ys ∙ ap (λ i. i + length ys) one ∙ ap (λ i. n + i) other
    go false xs ys one other = length-append xs [] ∙ ap (λ i. i + 0) one

module _ (window : Window) (terms : 1 ≤ window.lookahead.term_length) (round : Round)
    (from : AtMost (floor_of window) round) (positive : 0 < round.view) where
  -- the lowest view of its epoch
  low : lowest_of window round.epoch ≤ round.view
  low = go (nat_eq round.epoch (floor_of window).epoch) refl
    where
      go : (b : Bool) → nat_eq round.epoch (floor_of window).epoch ≡ b →
          cond b (max (floor_of window).view 1) 1 ≤ round.view
      go true same = elim (at_most_numbers (floor_of window) round from) as (λ _. max (floor_of window).view 1 ≤ round.view) [
        | inl lt ↦ absurd (omega (arith, lt, same_numbers round.epoch (floor_of window).epoch same))
        | inr at ↦ omega (arith, at.1, positive)
      ]
        where
          same_numbers : (n k : ℕ) → nat_eq n k ≡ true → n ≡ k
          same_numbers n k e = grind (arith, e)
      go false other = omega (arith, positive)

  low_at : (epoch : ℕ) → round.epoch ≡ epoch → lowest_of window epoch ≤ round.view
  low_at epoch same = subst (λ e. lowest_of window e ≤ round.view) same low

  current_in : (epoch last : ℕ) → round.epoch ≡ epoch → IsInSight window.lookahead last round.view →
      Contains (epochs_list window epoch last) round
  current_in epoch last same sight =
      Contains-append_left (of_epoch epoch (views_list window.lookahead (lowest_of window epoch) last))
      (of_epoch (epoch + 1) (views_list window.lookahead 1 0)) round
      (in_epoch epoch (views_list window.lookahead (lowest_of window epoch) last) round same
      (in_views window.lookahead terms (lowest_of window epoch) last round.view (low_at epoch same) sight))

  next_in : (epoch last : ℕ) → round.epoch ≡ epoch + 1 → IsInSight window.lookahead 0 round.view →
      Contains (epochs_list window epoch last) round
  next_in epoch last same sight =
      Contains-append_right (of_epoch epoch (views_list window.lookahead (lowest_of window epoch) last))
      (of_epoch (epoch + 1) (views_list window.lookahead 1 0)) round
      (in_epoch (epoch + 1) (views_list window.lookahead 1 0) round same
      (in_views window.lookahead terms 1 0 round.view positive sight))

  here_in : Contains (epochs_list window window.current.epoch window.current.view) round → Contains (rounds_list window) round
  here_in here = Contains-append_left (epochs_list window window.current.epoch window.current.view)
      (cond (nat_lt (floor_of window).epoch window.current.epoch)
      (epochs_list window window.ended.epoch window.ended.view) []) round here

  before_in : round.epoch < window.current.epoch → Contains (epochs_list window window.ended.epoch window.ended.view) round →
      Contains (rounds_list window) round
  before_in lt here =
      let floor = at_most_epoch (floor_of window) round from in
      Contains-append_right (epochs_list window window.current.epoch window.current.view)
      (cond (nat_lt (floor_of window).epoch window.current.epoch)
      (epochs_list window window.ended.epoch window.ended.view) []) round
      (subst (λ b. Contains (cond b (epochs_list window window.ended.epoch window.ended.view) []) round)
      (sym (lt-ltb (floor_of window).epoch window.current.epoch (omega (arith, floor, lt)))) here)

  -- a round that a window looks at, from its floor on, is among its rounds
  pub nearby_in : IsNearby window round → Contains (rounds_list window) round
  nearby_in (inl below) =
      let p : Round = record { epoch = window.finalized.epoch; view = window.finalized.view - window.view_retention } in
      let q : Round = record { epoch = window.ended.epoch; view = 0 } in
      let ended = at_most_epoch q round (at_most_trans q (floor_of window) round (max_above_right p q) from) in
      absurd (omega (arith, below, ended))
  nearby_in (inr (inl (same, sight))) = here_in (current_in window.current.epoch window.current.view same sight)
  nearby_in (inr (inr (inl (next, sight)))) = here_in (next_in window.current.epoch window.current.view next sight)
  nearby_in (inr (inr (inr (inl (lt, same, sight))))) =
      before_in (omega (arith, same, lt)) (current_in window.ended.epoch window.ended.view same sight)
  nearby_in (inr (inr (inr (inr (lt, next, sight))))) = elim (cases_lt round.epoch window.current.epoch)
      as (λ _. Contains (rounds_list window) round) [
        | inl earlier ↦ before_in earlier (next_in window.ended.epoch window.ended.view next sight)
        | inr others ↦ here_in (current_in window.current.epoch window.current.view (omega (arith, lt, next, others))
            (still window.lookahead terms 0 window.current.view round.view (omega arith) sight))
      ]
