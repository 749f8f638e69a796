-- What messages certify, and how those that are taken move the window.
use Rattle.std.proofs.Common.{◌≡◌, ◌⊎◌, Bool, true, false, Option, Some, None, List, [], ◌∷◌, ◌++◌, inl, inr, refl, sym, ap, subst, ◌∙◌, cond, append-nil}
use Rattle.std.proofs.lemmas.Bool.{and_from, and_parts, eq-eqb, eqb-true, false≢true}
use Rattle.std.proofs.lemmas.List.{map-append}
use Rattle.std.proofs.lemmas.List.Elements.{Contains-append_right, filter-append, filter_map-append}
use Rattle.std.proofs.lemmas.List.Folds.{find-append}
use Rattle.std.proofs.lemmas.Option.{same_Some}
use Rattle.std.specs.List.{cons_option, find}
use Rattle.std.specs.Option.{is_some, option_or}
use Rattle.std.specs.Prelude.{Contains, filter, map, ◌&&◌}
use Rattle.simplex_base.specs.Positions.{Round, same_round}
use Rattle.simplex_scheme.specs.Kind.{kind_of, same_kind}
use Rattle.simplex_scheme.specs.Subject.{SubjectValue, round_of}
use Rattle.simplex_scheme.specs.declared.kind.VoteKind.{VoteKind}
use Rattle.simplex_scheme.specs.declared.kind.VoteKind.TheVariants as kinds
use Rattle.simplex_evidence.specs.Activity.{subject_and_certificate}
use Rattle.simplex_evidence.specs.declared.types.activity.Activity.{Activity}
use Rattle.simplex_rules.specs.FirstCertified.{certified_subjects, first_certified}
use Rattle.simplex_rules.specs.Independence.{in_rounds}
use Rattle.simplex_rules.specs.Rules.{Rules}
use Rattle.simplex_rules.specs.Splits.{certified_in, if_certified, is_certified_message}
use Rattle.simplex_monitor.specs.Taken.{certified_rounds, finalized_rounds, window_of}
use Rattle.simplex_monitor.specs.Window.{IsInOrder, window_after}
use Rattle.simplex_monitor.specs.declared.window.Window.{Window}
use Rattle.simplex_monitor.proofs.RoundOrder.{Contains-cons_cases, Contains-filter, Contains-first, Contains-none}

-- ---- rounds, kinds and lists

pub same_round-true : (a b : Round) → same_round a b ≡ true → a ≡ b
same_round-true a b h =
    let parts = and_parts _ _ h in
    λ i. record { epoch = eqb-true a.epoch b.epoch parts.0 i; view = eqb-true a.view b.view parts.1 i }

same_round-refl : (a : Round) → same_round a a ≡ true
same_round-refl a = and_from _ _ (eq-eqb a.epoch a.epoch refl) (eq-eqb a.view a.view refl)

same_kind-true : (a b : VoteKind) → same_kind a b ≡ true → a ≡ b
same_kind-true kinds.Notarize kinds.Notarize h = refl
same_kind-true kinds.Nullify kinds.Nullify h = refl
same_kind-true kinds.Finalize kinds.Finalize h = refl
same_kind-true _ _ h = absurd (false≢true h)

same_kind-refl : (a : VoteKind) → same_kind a a ≡ true
same_kind-refl kinds.Notarize = refl
same_kind-refl kinds.Nullify = refl
same_kind-refl kinds.Finalize = refl

Contains-map : {X Y : Type 0} (f : X → Y) (xs : List X) (x : X) → Contains xs x → Contains (map f xs) (f x)
Contains-map f [] x h = absurd (Contains-none x h)
Contains-map f (y ∷ ys) x h = elim (Contains-cons_cases y ys x h) as (λ _. Contains (map f (y ∷ ys)) (f x)) [
  | inl is ↦ subst (λ z. Contains (map f (y ∷ ys)) (f z)) is (Contains-first (f y) (map f ys))
  | inr later ↦ Contains-append_right (f y ∷ []) (map f ys) (f x) (Contains-map f ys x later)
]

-- nothing, if it is not something
is_none : {X : Type 0} (o : Option X) → is_some o ≡ false → o ≡ None
is_none None h = refl
is_none (Some x) h = absurd (false≢true (sym h))

-- the test by which the first certified subject of a round and kind is found
abbrev is_there : {D : Type 0} → Round → VoteKind → SubjectValue D → Bool
is_there round kind x = same_kind (kind_of x) kind && same_round (round_of x) round

-- the window that was moved by certified subjects
abbrev window_by : {D : Type 0} → Window → List (SubjectValue D) → Window
window_by start xs =
    window_after start (map round_of xs) (map round_of (filter (λ x. same_kind (kind_of x) kinds.Finalize) xs))

window_by_more : {D : Type 0} (start : Window) (xs : List (SubjectValue D)) (x : SubjectValue D) →
    window_by start (xs ++ x ∷ [])
    ≡ window_after start (map round_of xs ++ round_of x ∷ [])
    (map round_of (filter (λ y. same_kind (kind_of y) kinds.Finalize) xs)
    ++ cond (same_kind (kind_of x) kinds.Finalize) (round_of x ∷ []) [])
window_by_more start xs x =
    λ i. window_after start (map-append round_of xs (x ∷ []) i)
    ((ap (map round_of) (filter-append (λ y. same_kind (kind_of y) kinds.Finalize) xs (x ∷ []))
    ∙ map-append round_of (filter (λ y. same_kind (kind_of y) kinds.Finalize) xs)
    (cond (same_kind (kind_of x) kinds.Finalize) (x ∷ []) [])
    ∙ ap (λ rs. map round_of (filter (λ y. same_kind (kind_of y) kinds.Finalize) xs) ++ rs)
    (mapped (same_kind (kind_of x) kinds.Finalize))) i)
  where
    mapped : (b : Bool) → map round_of (cond b (x ∷ []) []) ≡ cond b (round_of x ∷ []) []
    mapped true = refl
    mapped false = refl

-- ---- one message more

module _ {S D C P G : Type 0} (rules : Rules S D C P G) where
  subjects_more : (taken : List (Activity S D C P G)) (m : Activity S D C P G) → certified_subjects rules (taken ++ m ∷ [])
      ≡ certified_subjects rules taken ++ cons_option (certified_in rules m) []
  subjects_more taken m = filter_map-append (certified_in rules) taken (m ∷ [])

  subjects_same : (taken : List (Activity S D C P G)) (m : Activity S D C P G) → certified_in rules m ≡ None →
      certified_subjects rules (taken ++ m ∷ []) ≡ certified_subjects rules taken
  subjects_same taken m none =
      subjects_more taken m ∙ ap (λ o. certified_subjects rules taken ++ cons_option o []) none
      ∙ append-nil (certified_subjects rules taken)

  -- a message that certifies nothing moves no window
  pub unmoved : (start : Window) (taken : List (Activity S D C P G)) (m : Activity S D C P G) →
      is_certified_message rules m ≡ false → window_of rules start (taken ++ m ∷ []) ≡ window_of rules start taken
  unmoved start taken m not_certified =
      ap (window_by start) (subjects_same taken m (is_none (certified_in rules m) not_certified))

  pub moved : (start : Window) (taken : List (Activity S D C P G)) (m : Activity S D C P G) (x : SubjectValue D) →
      certified_in rules m ≡ Some x →
      window_of rules start (taken ++ m ∷ [])
      ≡ window_after start (certified_rounds rules taken ++ round_of x ∷ [])
      (finalized_rounds rules taken ++ cond (same_kind (kind_of x) kinds.Finalize) (round_of x ∷ []) [])
  moved start taken m x is =
      ap (window_by start) (subjects_more taken m ∙ ap (λ o. certified_subjects rules taken ++ cons_option o []) is)
      ∙ window_by_more start (certified_subjects rules taken) x

  -- what a message with a certificate certifies is its subject
  certifies_subject : (m : Activity S D C P G) (x y : SubjectValue D) (c : C) → subject_and_certificate m ≡ Some (x, c) →
      certified_in rules m ≡ Some y → x ≡ y
  certifies_subject m x y c held is = go (rules.certified x c) (ap (if_certified rules) (sym held) ∙ is)
    where
      go : (b : Bool) → cond b (Some x) None ≡ Some y → x ≡ y
      go true e = same_Some x y e
      go false e = absurd (false≢true (ap is_some e))

-- ---- what is certified in a part of the rounds

module _ {S D C P G : Type 0} (rules : Rules S D C P G) (part : Round → Bool) where
  -- what is certified there is certified
  certified_anyway : (m : Activity S D C P G) (x : SubjectValue D) → certified_in (in_rounds part rules) m ≡ Some x →
      certified_in rules m ≡ Some x
  certified_anyway m x is = go (subject_and_certificate m) is
    where
      both : (s : SubjectValue D × C) (p b : Bool) → cond (p && b) (Some s.0) None ≡ Some x → cond b (Some s.0) None ≡ Some x
      both s true true e = e
      both s true false e = e
      both s false true e = absurd (false≢true (ap is_some e))
      both s false false e = e

      go : (o : Option (SubjectValue D × C)) → if_certified (in_rounds part rules) o ≡ Some x → if_certified rules o ≡ Some x
      go None e = e
      go (Some s) e = both s (part (round_of s.0)) (rules.certified s.0 s.1) e

  -- a subject of a round of the part that is certified is certified there
  certified_there : (m : Activity S D C P G) (x : SubjectValue D) (c : C) → subject_and_certificate m ≡ Some (x, c) →
      part (round_of x) ≡ true → is_certified_message rules m ≡ true → certified_in (in_rounds part rules) m ≡ Some x
  certified_there m x c held here is =
      ap (if_certified (in_rounds part rules)) held
      ∙ go (part (round_of x)) (rules.certified x c) here (ap (λ o. is_some (if_certified rules o)) (sym held) ∙ is)
    where
      go : (p b : Bool) → p ≡ true → is_some (cond b (Some x) None) ≡ true → cond (p && b) (Some x) None ≡ Some x
      go true true e k = refl
      go true false e k = absurd (false≢true k)
      go false b e k = absurd (false≢true e)

  -- the last message certifies its subject, so a subject of its round and kind is certified
  pub last_is_found : (taken : List (Activity S D C P G)) (m : Activity S D C P G) (x : SubjectValue D) (c : C) →
      subject_and_certificate m ≡ Some (x, c) → part (round_of x) ≡ true → is_certified_message rules m ≡ true →
      is_some (first_certified (certified_subjects (in_rounds part rules) (taken ++ m ∷ [])) (round_of x) (kind_of x)) ≡ true
  last_is_found taken m x c held here is =
      let xs = certified_subjects (in_rounds part rules) taken in
      let t : SubjectValue D → Bool = is_there (round_of x) (kind_of x) in
      ap (λ ys. is_some (find t ys)) (subjects_more (in_rounds part rules) taken m
      ∙ ap (λ o. xs ++ cons_option o []) (certified_there m x c held here is))
      ∙ ap is_some (find-append t xs (x ∷ []))
      ∙ ap (λ b. is_some (option_or (find t xs) (cond b (Some x) None)))
      (and_from (same_kind (kind_of x) (kind_of x)) (same_round (round_of x) (round_of x)) (same_kind-refl (kind_of x))
      (same_round-refl (round_of x)))
      ∙ go (find t xs)
    where
      go : (o : Option (SubjectValue D)) → is_some (option_or o (Some x)) ≡ true
      go None = refl
      go (Some y) = refl

  -- a subject that is certified there is among those that are certified
  found_among : (round : Round) (kind : VoteKind) (ms : List (Activity S D C P G)) →
      is_some (first_certified (certified_subjects (in_rounds part rules) ms) round kind) ≡ true →
      (y : SubjectValue D) × (is_there round kind y ≡ true) × Contains (certified_subjects rules ms) y
  found_among round kind [] h = absurd (false≢true h)
  found_among round kind (m ∷ ms) h = go (found_among round kind ms) (certified_in (in_rounds part rules) m) refl h
    where
      later : (y : SubjectValue D) (o : Option (SubjectValue D)) → Contains (certified_subjects rules ms) y →
          Contains (cons_option o (certified_subjects rules ms)) y
      later y None here = here
      later y (Some x) here = Contains-append_right (x ∷ []) (certified_subjects rules ms) y here

      behind : (is_some (first_certified (certified_subjects (in_rounds part rules) ms) round kind) ≡ true →
          (y : SubjectValue D) × (is_there round kind y ≡ true) × Contains (certified_subjects rules ms) y) →
          is_some (first_certified (certified_subjects (in_rounds part rules) ms) round kind) ≡ true →
          (y : SubjectValue D) × (is_there round kind y ≡ true) × Contains (certified_subjects rules (m ∷ ms)) y
      behind further k = let (y, there, here) = further k in (y, there, later y (certified_in rules m) here)

      go : (is_some (first_certified (certified_subjects (in_rounds part rules) ms) round kind) ≡ true →
          (y : SubjectValue D) × (is_there round kind y ≡ true) × Contains (certified_subjects rules ms) y) →
          (o : Option (SubjectValue D)) → certified_in (in_rounds part rules) m ≡ o →
          is_some (find (is_there round kind) (cons_option o (certified_subjects (in_rounds part rules) ms))) ≡ true →
          (y : SubjectValue D) × (is_there round kind y ≡ true) × Contains (certified_subjects rules (m ∷ ms)) y
      go further None e k = behind further k
      go further (Some x) e k = test (is_there round kind x) refl k
        where
          test : (b : Bool) → is_there round kind x ≡ b →
              is_some (cond b (Some x)
              (find (is_there round kind) (certified_subjects (in_rounds part rules) ms))) ≡ true →
              (y : SubjectValue D) × (is_there round kind y ≡ true) × Contains (certified_subjects rules (m ∷ ms)) y
          test true at k = (
            x,
            at,
            subst (λ o. Contains (cons_option o (certified_subjects rules ms)) x)
                (sym (certified_anyway m x e)) (Contains-first x (certified_subjects rules ms)),
          )
          test false at k = behind further k

  -- its round is among the certified ones, and if it finalizes, among the finalized ones
  rounds_among : (round : Round) (kind : VoteKind) (ms : List (Activity S D C P G)) →
      is_some (first_certified (certified_subjects (in_rounds part rules) ms) round kind) ≡ true →
      Contains (certified_rounds rules ms) round
      × (same_kind kind kinds.Finalize ≡ true → Contains (finalized_rounds rules ms) round)
  rounds_among round kind ms h =
      let (y, there, here) = found_among round kind ms h in
      let parts = and_parts (same_kind (kind_of y) kind) (same_round (round_of y) round) there in
      let at = same_round-true (round_of y) round parts.1 in (
        subst (Contains (certified_rounds rules ms)) at (Contains-map round_of (certified_subjects rules ms) y here),
        (λ final. subst (Contains (finalized_rounds rules ms)) at
            (Contains-map round_of (filter (λ x. same_kind (kind_of x) kinds.Finalize) (certified_subjects rules ms)) y
            (Contains-filter (λ x. same_kind (kind_of x) kinds.Finalize) (certified_subjects rules ms) y here
            (ap (λ k. same_kind k kinds.Finalize) (same_kind-true (kind_of y) kind parts.0) ∙ final)))),
      )

-- ---- how a message moves the window

-- a round is among those that moved the window, or moves it now
pub record MovesBy (round : Round) (kind : VoteKind) (old new : Window) : Type 0 where
  pub moves : (start : Window) (certified finalized : List Round) → IsInOrder start →
      old ≡ window_after start certified finalized →
      new ≡ window_after start (certified ++ round ∷ [])
      (finalized ++ cond (same_kind kind kinds.Finalize) (round ∷ []) [])
  pub again : (start : Window) (certified finalized : List Round) → old ≡ window_after start certified finalized →
      Contains certified round → (same_kind kind kinds.Finalize ≡ true → Contains finalized round) → new ≡ old

module _ {S D C P G : Type 0} (rules : Rules S D C P G) (part : Round → Bool) (start : Window)
    (before : List (Activity S D C P G)) (m : Activity S D C P G) (x : SubjectValue D) (c : C)
    (held : subject_and_certificate m ≡ Some (x, c)) where
  -- whether a subject of its round and kind is certified there
  abbrev is_found : Bool
  is_found =
      is_some (first_certified (certified_subjects (in_rounds part rules) (before ++ m ∷ [])) (round_of x) (kind_of x))

  -- a message whose subject is certified, by itself or by one before it
  pub window_moved : (old new : Window) → IsInOrder start → old ≡ window_of rules start before →
      MovesBy (round_of x) (kind_of x) old new → (true ≡ is_found) ⊎ (true ≡ is_certified_message rules m) →
      new ≡ window_of rules start (before ++ m ∷ [])
  window_moved old new ordered is by certified = go (certified_in rules m) refl
    where
      go : (o : Option (SubjectValue D)) → certified_in rules m ≡ o → new ≡ window_of rules start (before ++ m ∷ [])
      go (Some y) e =
          let own : certified_in rules m ≡ Some x = e ∙ ap Some (sym (certifies_subject rules m x y c held e)) in
          by.moves start (certified_rounds rules before) (finalized_rounds rules before) ordered is
          ∙ sym (moved rules start before m x own)
      go None e =
          let found : is_found ≡ true = elim certified as (λ _. is_found ≡ true) [
            | inl is ↦ sym is
            | inr is ↦ absurd (false≢true (sym (ap is_some e) ∙ sym is))
          ] in
          let same = subjects_same rules before m e in
          let (among, final) = rounds_among rules part (round_of x) (kind_of x) (before ++ m ∷ []) found in
          by.again start (certified_rounds rules before) (finalized_rounds rules before) is
          (subst (λ xs. Contains (map round_of xs) (round_of x)) same among)
          (λ k. subst (λ (xs : List (SubjectValue D)).
          Contains (map round_of (filter (λ y. same_kind (kind_of y) kinds.Finalize) xs)) (round_of x)) same (final k))
          ∙ is ∙ sym (ap (window_by start) same)

  -- a message whose subject is not certified
  pub window_stays : part (round_of x) ≡ true → (false ≡ is_found) ⊎ (false ≡ is_certified_message rules m) →
      window_of rules start (before ++ m ∷ []) ≡ window_of rules start before
  window_stays here not_certified = unmoved rules start before m (go (is_certified_message rules m) refl)
    where
      go : (b : Bool) → is_certified_message rules m ≡ b → b ≡ false
      go false e = refl
      go true e = elim not_certified as (λ _. true ≡ false) [
        | inl is ↦ absurd (false≢true (is ∙ last_is_found rules part before m x c held here e))
        | inr is ↦ absurd (false≢true (is ∙ e))
      ]
