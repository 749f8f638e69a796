-- Messages that come one after another.
use Rattle.std.proofs.Common.{◌≡◌, ℕ, ◌+◌, List, [], ◌∷◌, ◌++◌, inl, inr, refl, sym, ap, subst, ◌∙◌, arith, append_assoc, append-nil}
use Rattle.simplex_evidence.specs.declared.types.activity.Activity.{Activity}
use Rattle.simplex_rules.specs.Rules.{Rules}
use Rattle.simplex_audit.specs.Basis.{Basis}
use Rattle.simplex_monitor.specs.Taken.{AreTaken}
use Rattle.simplex_monitor.specs.Watching.{Watches, WatchesMore}
use Rattle.simplex_monitor.specs.declared.watcher.Watcher.{Watcher}
use Rattle.simplex_monitor.specs.declared.window.Window.{Window}

module _ {S D C P G : Type 0} (rules : Rules S D C P G) where
  -- of the messages that follow others some are taken, and others left out
  pub taken_then : (start : Window) (before ms ks taken more : List (Activity S D C P G)) (b a d c : ℕ) →
      AreTaken rules start before ms taken b a → AreTaken rules start (before ++ taken) ks more d c →
      AreTaken rules start before (ms ++ ks) (taken ++ more) (b + d) (a + c)
  taken_then start before [] ks taken more b a d c (none, low, high) later =
      let lower : d ≡ b + d = omega (arith, low) in
      let higher : c ≡ a + c = omega (arith, high) in
      subst (λ n. AreTaken rules start before ks (taken ++ more) n (a + c)) lower
      (subst (λ n. AreTaken rules start before ks (taken ++ more) d n) higher
      (subst (λ ts. AreTaken rules start before ks (ts ++ more) d c) (sym none)
      (subst (λ bs. AreTaken rules start bs ks more d c) (ap (λ ts. before ++ ts) none ∙ append-nil before) later)))
  taken_then start before (k ∷ ms) ks taken more b a d c (inl (takes, rest, is, first)) later =
      inl (
        takes,
        rest ++ more,
        ap (λ ts. ts ++ more) is,
        taken_then start (before ++ k ∷ []) ms ks rest more b a d c first
            (subst (λ bs. AreTaken rules start bs ks more d c)
            (ap (λ ts. before ++ ts) is ∙ sym (append_assoc before (k ∷ []) rest)) later),
      )
  taken_then start before (k ∷ ms) ks taken more b a d c (inr (inl (out, n, is, first))) later =
      inr (inl (out, n + d, omega (arith, is), taken_then start before ms ks taken more n a d c first later))
  taken_then start before (k ∷ ms) ks taken more b a d c (inr (inr (low, out, n, is, first))) later =
      inr (inr (low, out, n + c, omega (arith, is), taken_then start before ms ks taken more b n d c first later))

module _ {S D C P G : Type 0} (basis : Basis S D C P G) where
  -- no message came
  pub watches_none : (state : Watcher S D P G) → WatchesMore basis [] state state
  watches_none state = (
    refl,
    λ start before told below above ordered members held. record {
      taken = [];
      lower = 0;
      higher = 0;
      are_taken = (refl, refl, refl);
      watches = subst (λ ts. Watches basis start ts told (below + 0) (above + 0) state) (sym (append-nil before)) (
          subst (λ n. Watches basis start before told n (above + 0) state) (omega arith)
          (subst (λ n. Watches basis start before told below n state) (omega arith) held));
    },
  )

  -- one message more came
  pub watches_more : (ms : List (Activity S D C P G)) (m : Activity S D C P G) (a b c : Watcher S D P G) →
      WatchesMore basis ms a b → WatchesMore basis (m ∷ []) b c → WatchesMore basis (ms ++ m ∷ []) a c
  watches_more ms m a b c first one = (
    one.0 ∙ first.0,
    λ start before told below above ordered members held.
        let f = first.1 start before told below above ordered members held in
        let o = one.1 start (before ++ f.taken) told (below + f.lower) (above + f.higher) ordered members f.watches in
        record {
          taken = f.taken ++ o.taken;
          lower = f.lower + o.lower;
          higher = f.higher + o.higher;
          are_taken = taken_then basis.rules start before ms (m ∷ []) f.taken o.taken f.lower f.higher o.lower o.higher
              f.are_taken o.are_taken;
          watches = subst (λ ts. Watches basis start ts told (below + (f.lower + o.lower)) (above + (f.higher + o.higher)) c)
              (append_assoc before f.taken o.taken)
              (subst (λ n. Watches basis start ((before ++ f.taken) ++ o.taken) told n (above + (f.higher + o.higher)) c)
              (omega arith)
              (subst (λ n. Watches basis start ((before ++ f.taken) ++ o.taken) told (below + f.lower + o.lower) n c)
              (omega arith) o.watches));
        },
  )
