-- What a watcher knows, after each step.
use Rattle.std.proofs.Common.{◌≡◌, ℕ, ◌+◌, ◌-◌, ◌^◌, Bool, true, false, Option, Some, None, min, List, [], ◌∷◌, ◌++◌, inl, inr, refl, sym, ap, subst, ◌∙◌, cond, arith, append-nil}
use Rattle.std.proofs.lemmas.Bool.{false≢true, le-ltb}
use Rattle.std.proofs.lemmas.Option.{same_Some}
use Rattle.std.specs.Option.{is_some}
use Rattle.std.specs.Ordering.{is_le, ord_max}
use Rattle.std.specs.Prelude.{filter, IfSome, IsTrue, Vec, ◌↔◌, ◌&&◌}
use Rattle.std.specs.Global.{Global}
use Rattle.simplex_base.specs.Positions.{Round}
use Rattle.simplex_evidence.specs.Activity.{activity_round}
use Rattle.simplex_evidence.specs.Contradiction.{Equivocation}
use Rattle.simplex_evidence.specs.declared.types.activity.Activity.{Activity}
use Rattle.simplex_rules.specs.Accusation.{accused_by, round_cmp}
use Rattle.simplex_alarm.specs.Alarm.{Sounds, SoundsFrom, SoundsMore, Told, nothing_told, told_from}
use Rattle.simplex_detector.specs.Detector.{Recalls, RecallsMore}
use Rattle.simplex_rules.specs.Independence.{FloorsRise, evidence_within, in_rounds, is_from, splits_within}
use Rattle.simplex_rules.specs.FirstCertified.{certified_subjects, first_certified}
use Rattle.simplex_rules.specs.Rules.{HaveCommittees, Rules}
use Rattle.simplex_rules.specs.Splits.{is_split}
use Rattle.simplex_scheme.specs.declared.kind.VoteKind.{VoteKind}
use Rattle.simplex_alarm.specs.declared.alarm.Alarm.{Alarm}
use Rattle.simplex_detector.specs.declared.detector.Detector.{Detector}
use Rattle.simplex_rules.specs.declared.split.Split.{Split}
use Rattle.simplex_audit.specs.Basis.{Basis}
use Rattle.simplex_monitor.specs.Heads.{greatest}
use Rattle.simplex_monitor.specs.Taken.{Takes, window_of}
use Rattle.simplex_monitor.specs.Watching.{Advances, HoldsFrom, KeepsFrom, PrunesTo, RecordsOne, Watches, WatchesMore}
use Rattle.simplex_monitor.specs.Window.{AdmitsCertificate, IsInOrder, floor_of, window_after}
use Rattle.simplex_monitor.specs.declared.watcher.Watcher.{Watcher}
use Rattle.simplex_monitor.specs.declared.window.Window.{Window}
use Rattle.simplex_monitor.proofs.HoldingLemmas.{HoldsMore, StatesOfParts, stands_for_none, stands_higher}
use Rattle.simplex_monitor.proofs.RoundOrder.{at_most_from_not, at_most_trans, max_higher, max_lower}

-- ---- floors

both_first : (x y : Bool) → (x ≡ true → y ≡ true) → (x && y) ≡ x
both_first true true h = refl
both_first true false h = absurd (false≢true (h refl))
both_first false true h = refl
both_first false false h = refl

both_second : (x y : Bool) → (y ≡ true → x ≡ true) → (x && y) ≡ y
both_second true true h = refl
both_second true false h = refl
both_second false true h = absurd (false≢true (h refl))
both_second false false h = refl

-- from two floors on is from the higher on
both_floors : (low high round : Round) → (is_from low round && is_from high round) ≡ is_from (ord_max round_cmp low high) round
both_floors low high round = go (is_le (round_cmp high low)) refl
  where
    go : (b : Bool) → is_le (round_cmp high low) ≡ b →
        (is_from low round && is_from high round) ≡ is_from (ord_max round_cmp low high) round
    go true e = both_first (is_from low round) (is_from high round) (λ h. at_most_trans high low round e h)
        ∙ ap (λ r. is_from r round) (sym (max_lower low high e))
    go false e =
        let le = at_most_from_not high low e in
        both_second (is_from low round) (is_from high round) (λ h. at_most_trans low high round le h)
        ∙ ap (λ r. is_from r round) (sym (max_higher low high le))

-- filtering by one test and then by another is filtering by both
pub filter_twice : {X : Type 0} (p q r : X → Bool) → ((x : X) → (q x && p x) ≡ r x) → (xs : List X) →
    filter p (filter q xs) ≡ filter r xs
filter_twice p q r both [] = refl
filter_twice {X} p q r both (x ∷ xs) =
    first (q x) ∙ go (filter_twice p q r both xs) (q x) (p x) ∙ ap (λ b. cond b (x ∷ filter r xs) (filter r xs)) (both x)
  where
    go : filter p (filter q xs) ≡ filter r xs → (a b : Bool) →
        cond (a && b) (x ∷ filter p (filter q xs)) (filter p (filter q xs)) ≡ cond (a && b) (x ∷ filter r xs) (filter r xs)
    go rest a b i = cond (a && b) (x ∷ rest i) (rest i)

    first : (a : Bool) → filter p (cond a (x ∷ filter q xs) (filter q xs))
        ≡ cond (a && p x) (x ∷ filter p (filter q xs)) (filter p (filter q xs))
    first true = refl
    first false = refl

evidence_within_both : {D G : Type 0} (low high : Round) (es : List (Equivocation D G)) →
    evidence_within (is_from high) (evidence_within (is_from low) es)
    ≡ evidence_within (is_from (ord_max round_cmp low high)) es
evidence_within_both low high es =
    filter_twice (λ e. is_from high (accused_by e).round) (λ e. is_from low (accused_by e).round)
    (λ e. is_from (ord_max round_cmp low high) (accused_by e).round) (λ e. both_floors low high (accused_by e).round) es

splits_within_both : (low high : Round) (ss : List Split) →
    splits_within (is_from high) (splits_within (is_from low) ss) ≡ splits_within (is_from (ord_max round_cmp low high)) ss
splits_within_both low high ss =
    filter_twice (λ s. is_from high s.round) (λ s. is_from low s.round) (λ s. is_from (ord_max round_cmp low high) s.round)
    (λ s. both_floors low high s.round) ss

-- what was told, less what is below two floors
told_from_both : {D G : Type 0} (low high : Round) (told : Told D G) →
    told_from high (told_from low told) ≡ told_from (ord_max round_cmp low high) told
told_from_both low high told = λ i. record {
  evidence = evidence_within_both low high told.evidence i;
  splits = splits_within_both low high told.splits i;
}

-- ---- steps

-- the window that has taken nothing
begun : (window : Window) → window ≡ window_after window [] []
begun window =
    let none = ap (λ b. greatest window.ended (cond b (window.current ∷ []) []))
    (le-ltb window.current.epoch window.current.epoch (omega arith)) in
    λ i. record {
      finalized = window.finalized;
      current = window.current;
      ended = sym none i;
      view_retention = window.view_retention;
      lookahead = window.lookahead;
    }

module _ {S D C P G : Type 0} (basis : Basis S D C P G) where
  -- nothing came yet
  pub begins : (window : Window) (detector : Detector S D P G) (alarm : Alarm S D P G) →
      ((floor : Round) → Recalls (in_rounds (is_from floor) basis.rules) [] detector) →
      ((floor : Round) → Sounds (in_rounds (is_from floor) basis.rules) [] nothing_told alarm) →
      (held : Option (Vec ℕ Global)) → IfSome held (λ bytes. bytes.items ≡ []) →
      Watches basis window [] nothing_told 0 0
      (record { window = window; detector = detector; alarm = alarm; held = held; below = 0; above = 0 })
  begins window detector alarm recalls sounds held none = record {
    window_is = begun window;
    holds = record {
      recalls = recalls (floor_of window);
      sounds = sounds (floor_of window);
      stands = stands_for_none basis (floor_of window) held none;
    };
    below_is = refl;
    above_is = refl;
  }

  -- what is below a floor is given up
  pub prunes_to : (rise : FloorsRise basis.rules) → StatesOfParts D C P G S → (floor : Round) (old : Watcher S D P G)
      (detector : Detector S D P G) (alarm : Alarm S D P G) →
      ((rs : Rules S D C P G) (messages : List (Activity S D C P G)) → Recalls rs messages old.detector →
      Recalls (in_rounds (is_from floor) rs) messages detector) →
      ((rs : Rules S D C P G) → SoundsFrom rs floor old.alarm alarm) →
      PrunesTo basis floor old (record old { detector = detector; alarm = alarm })
  prunes_to rise parts floor old detector alarm recalls sounds low taken told h = record {
    recalls = subst (λ rs. Recalls rs taken detector) (rise.higher low floor)
        (recalls (in_rounds (is_from low) basis.rules) taken h.recalls);
    sounds = subst (λ rs. Sounds rs taken (told_from (ord_max round_cmp low floor) told) alarm) (rise.higher low floor)
        (subst (λ t. Sounds (in_rounds (is_from floor) (in_rounds (is_from low) basis.rules)) taken t alarm)
        (told_from_both low floor told)
        (sounds (in_rounds (is_from low) basis.rules) taken (told_from low told) h.sounds));
    stands = stands_higher basis parts rise low floor taken old.held h.stands;
  }

  -- one message more is recorded
  pub records_one : (judged : Rules S D C P G) (floor : Round) (m : Activity S D C P G) (old : Watcher S D P G)
      (detector : Detector S D P G) (alarm : Alarm S D P G) (held : Option (Vec ℕ Global)) →
      ((part : Round → Bool) → HaveCommittees basis.rules → HaveCommittees (in_rounds part basis.rules)) →
      floor ≡ floor_of old.window → judged ≡ in_rounds (is_from floor) basis.rules →
      RecallsMore judged (m ∷ []) old.detector detector → SoundsMore judged (m ∷ []) old.detector old.alarm alarm →
      HoldsMore basis judged m old.detector old.held held → is_some held ≡ is_some old.held →
      RecordsOne basis m old (record old { detector = detector; alarm = alarm; held = held })
  records_one judged floor m old detector alarm held parts at by recalls sounds more holding =
      let same = by ∙ ap (λ f. in_rounds (is_from f) basis.rules) at in
      let from = in_rounds (is_from (floor_of old.window)) basis.rules in
      let recalls_from : RecallsMore from (m ∷ []) old.detector detector =
      subst (λ rs. RecallsMore rs (m ∷ []) old.detector detector) same recalls in
      let sounds_from : SoundsMore from (m ∷ []) old.detector old.alarm alarm =
      subst (λ rs. SoundsMore rs (m ∷ []) old.detector old.alarm alarm) same sounds in
      let holds_from : HoldsMore basis from m old.detector old.held held =
      subst (λ rs. HoldsMore basis rs m old.detector old.held held) same more in
      record {
        window = refl;
        counts = record { below = refl; above = refl; holding = holding };
        holds = λ taken told members h. record {
          recalls = recalls_from taken h.recalls;
          sounds = sounds_from taken (told_from (floor_of old.window) told)
              (parts (is_from (floor_of old.window)) members) h.recalls h.sounds;
          stands = holds_from (floor_of old.window) taken refl h.recalls h.stands;
        };
      }

  -- the window moved, and what is below its new floor is given up
  pub keeps_pruned : (old new : Watcher S D P G) (window : Window) (floor : Round) → new.window ≡ window →
      PrunesTo basis floor (record old { window = window }) new → floor ≡ floor_of window →
      ((start : Window) (before : List (Activity S D C P G)) → IsInOrder start →
      old.window ≡ window_of basis.rules start before →
      is_from (floor_of old.window) (floor_of window) ≡ true) →
      KeepsFrom basis old new
  keeps_pruned old new window floor same pruned is rises start before taken told ordered began h =
      let up = rises start before ordered began in
      subst (λ f. HoldsFrom basis f taken told new)
      (ap (ord_max round_cmp (floor_of old.window)) is ∙ max_higher (floor_of old.window) (floor_of window) up
      ∙ ap floor_of (sym same))
      (pruned (floor_of old.window) taken told
      (record { recalls = h.recalls; sounds = h.sounds; stands = h.stands }))

  -- the window moved, and its floor is as it was
  pub keeps_same : (old : Watcher S D P G) (window : Window) →
      ((start : Window) (before : List (Activity S D C P G)) → IsInOrder start →
      old.window ≡ window_of basis.rules start before →
      is_from (floor_of old.window) (floor_of window) ≡ true) →
      is_from (floor_of window) (floor_of old.window) ≡ true → KeepsFrom basis old (record old { window = window })
  keeps_same old window rises falls start before taken told ordered began h =
      let moved : Watcher S D P G = record old { window = window } in
      let a = floor_of old.window in
      let b = floor_of window in
      subst (λ f. HoldsFrom basis f taken told moved)
      (sym (max_lower a b falls) ∙ max_higher a b (rises start before ordered began))
      (record { recalls = h.recalls; sounds = h.sounds; stands = h.stands })

-- ---- what is certified

-- what a detector tells of a round that is not split
pub tells_certified : {S D C P G : Type 0} (under judged : Rules S D C P G) (detector : Detector S D P G) (round : Round)
    (kind : VoteKind) (told : Option Bool) (certified : Bool) → under ≡ judged → told ≡ Some certified →
    ((messages : List (Activity S D C P G)) → Recalls under messages detector →
    told ≡ cond (is_split under messages round) None
    (Some (is_some (first_certified (certified_subjects under messages) round kind)))) →
    (messages : List (Activity S D C P G)) → Recalls judged messages detector →
    certified ≡ is_some (first_certified (certified_subjects judged messages) round kind)
tells_certified {S} {D} {C} {P} {G} under judged detector round kind told certified same is tells messages holds =
    let by = subst (λ rs. (ms : List (Activity S D C P G)) → Recalls rs ms detector →
    told ≡ cond (is_split rs ms round) None (Some (is_some (first_certified (certified_subjects rs ms) round kind))))
    same tells messages holds in
    go (is_split judged messages round) (sym is ∙ by)
  where
    go : {x : Bool} (b : Bool) → Some certified ≡ cond b None (Some x) → certified ≡ x
    go {x} true e = absurd (false≢true (sym (ap is_some e)))
    go {x} false e = same_Some certified x e

-- ---- counts

one_more : (n k c : ℕ) → c ≡ min n (2 ^ 64 - 1) → k ≡ min (c + 1) (2 ^ 64 - 1) → k ≡ min (n + 1) (2 ^ 64 - 1)
one_more n k c is more = omega (arith, is, more)

-- ---- one message more

module _ {S D C P G : Type 0} (basis : Basis S D C P G) (m : Activity S D C P G) where
  -- it is of a round that the window admits nothing of
  pub left_below : (old : Watcher S D P G) (below : ℕ) → (AdmitsCertificate old.window (activity_round m) → ⊥) →
      below ≡ min (old.below + 1) (2 ^ 64 - 1) → WatchesMore basis (m ∷ []) old (record old { below = below })
  left_below old below out more = (
    refl,
    λ start before told n k ordered members held. record {
      taken = [];
      lower = 1;
      higher = 0;
      are_taken = inr (inl (
        (λ at. out (subst (λ w. AdmitsCertificate w (activity_round m)) (sym held.window_is) at)),
        0,
        refl,
        (refl, refl, refl),
      ));
      watches = record {
        window_is = held.window_is ∙ ap (window_of basis.rules start) (sym (append-nil before));
        holds = subst (λ ts. HoldsFrom basis (floor_of old.window) ts told (record old { below = below }))
            (sym (append-nil before)) (record {
              recalls = held.holds.recalls;
              sounds = held.holds.sounds;
              stands = held.holds.stands;
            });
        below_is = one_more n below old.below held.below_is more;
        above_is = held.above_is ∙ ap (λ j. min j (2 ^ 64 - 1)) (omega arith);
      };
    },
  )

  -- it is of a round beyond the window
  pub left_above : (old : Watcher S D P G) (above : ℕ) → AdmitsCertificate old.window (activity_round m) →
      (Takes basis.rules old.window m → ⊥) → above ≡ min (old.above + 1) (2 ^ 64 - 1) →
      WatchesMore basis (m ∷ []) old (record old { above = above })
  left_above old above low out more = (
    refl,
    λ start before told n k ordered members held. record {
      taken = [];
      lower = 0;
      higher = 1;
      are_taken = inr (inr (
        subst (λ w. AdmitsCertificate w (activity_round m)) held.window_is low,
        (λ takes. out (subst (λ w. Takes basis.rules w m) (sym held.window_is) takes)),
        0,
        refl,
        (refl, refl, refl),
      ));
      watches = record {
        window_is = held.window_is ∙ ap (window_of basis.rules start) (sym (append-nil before));
        holds = subst (λ ts. HoldsFrom basis (floor_of old.window) ts told (record old { above = above }))
            (sym (append-nil before)) (record {
              recalls = held.holds.recalls;
              sounds = held.holds.sounds;
              stands = held.holds.stands;
            });
        below_is = held.below_is ∙ ap (λ j. min j (2 ^ 64 - 1)) (omega arith);
        above_is = one_more k above old.above held.above_is more;
      };
    },
  )

  -- it is taken
  pub taken_one : (old mid new : Watcher S D P G) → AdmitsCertificate old.window (activity_round m) →
      Takes basis.rules old.window m → RecordsOne basis m old mid → Advances basis m mid new →
      WatchesMore basis (m ∷ []) old new
  taken_one old mid new low takes one moves = (
    moves.counts.holding ∙ one.counts.holding,
    λ start before told n k ordered members held.
        let more = before ++ m ∷ [] in
        let began : mid.window ≡ window_of basis.rules start before = one.window ∙ held.window_is in
        let after : HoldsFrom basis (floor_of mid.window) more told mid =
        subst (λ w. HoldsFrom basis (floor_of w) more told mid) (sym one.window) (one.holds before told members held.holds) in
        record {
          taken = m ∷ [];
          lower = 0;
          higher = 0;
          are_taken = inl (subst (λ w. Takes basis.rules w m) held.window_is takes, [], refl, (refl, refl, refl));
          watches = record {
            window_is = moves.window start before ordered began
                (subst (λ w. AdmitsCertificate w (activity_round m)) (sym one.window) low) after.recalls;
            holds = moves.holds start before more told ordered began after;
            below_is = moves.counts.below ∙ one.counts.below ∙ held.below_is ∙ ap (λ j. min j (2 ^ 64 - 1)) (omega arith);
            above_is = moves.counts.above ∙ one.counts.above ∙ held.above_is ∙ ap (λ j. min j (2 ^ 64 - 1)) (omega arith);
          };
        },
  )

  -- ---- by what the window answers

  module _ (old : Watcher S D P G) (round : Round) (admits : Bool) (round_is : round ≡ activity_round m)
      (admitted : IsTrue admits ↔ AdmitsCertificate old.window round) where
    admitted_here : admits ≡ true → AdmitsCertificate old.window (activity_round m)
    admitted_here right = subst (AdmitsCertificate old.window) round_is (admitted.0 right)

    pub below_by : (below : ℕ) → admits ≡ false → below ≡ min (old.below + 1) (2 ^ 64 - 1) →
        WatchesMore basis (m ∷ []) old (record old { below = below })
    below_by below fails more = left_below old below
        (λ at. false≢true (sym fails ∙ admitted.1 (subst (AdmitsCertificate old.window) (sym round_is) at))) more

    module _ (takes : Bool) (taken : round ≡ activity_round m → AdmitsCertificate old.window round →
        IsTrue takes ↔ Takes basis.rules old.window m) (right : admits ≡ true) where
      pub above_by : (above : ℕ) → takes ≡ false → above ≡ min (old.above + 1) (2 ^ 64 - 1) →
          WatchesMore basis (m ∷ []) old (record old { above = above })
      above_by above fails more = left_above old above (admitted_here right)
          (λ is. false≢true (sym fails ∙ (taken round_is (admitted.0 right)).1 is)) more

      pub taken_by : (mid new : Watcher S D P G) → takes ≡ true → RecordsOne basis m old mid → Advances basis m mid new →
          WatchesMore basis (m ∷ []) old new
      taken_by mid new is one moves =
          taken_one old mid new (admitted_here right) ((taken round_is (admitted.0 right)).0 is) one moves
