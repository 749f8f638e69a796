-- Which rounds are split, from what is recorded of their certificates, and that the messages determine their splits.
use Rattle.simplex_rules.proofs.Prelude.{Activity, All, AreLawful, AreSplits, Bool, CertifiedSubjects, Contains, Contains-append_left, Contains-push, Contains-push_cases, HaveCommittees, IsEquivalence, IsStrictlySortedBy, List, None, Option, RecordsFirsts, Round, Rules, Some, VoteKind, Split, SubjectValue, [], activity_round, and_from, and_left, and_parts, and_right, ap, append-nil, are_split, cases_Bool, subject_and_certificate, certificates_contradict, certified_in, certified_subjects, changes_firsts, cond, cond_some, cons_option, excludes, excludes_first, excludes_some, false, false≢true, faults_of, filter_map, filter_map-append, first_certified, first_with, firsts_of, if◌then◌else◌, inl, inr, is_certified_message, is_none, is_some, is_split, list_any, messages_contradict, accused_count, not, option_or, option_to_list, or_cases, or_left, or_parts, or_right, refl, round_cmp, round_of, same_round, same_kind, kind_of, split_of, subjects_contradict, subst, sym, true, valid_votes, ⊎_elim, ◌&&◌, ◌++◌, ◌+◌, ◌||◌, ◌∙◌, ◌∷◌, ◌≡◌, ◌≤◌, ◌⊎◌}
use Rattle.simplex_scheme.specs.declared.kind.VoteKind.TheVariants as kinds
use Rattle.simplex_rules.proofs.AccountLemmas.{accountable_for, certificate_parts, certified_parts, certifies_from, enough_for}
use Rattle.simplex_rules.proofs.Lists.{Contains-from_filter_map, Contains-from_list_any, IsListing, any_from_Contains, find_from_Contains, find_push, found, made_complete, made_ordered, made_sound, same_bool}
use Rattle.simplex_rules.proofs.Places.{excludes-flip, excludes_itself, excludes_one, same_round-from, same_round-true, same_kind-refl, same_kind-true}

-- ---- subjects that split a round

-- two of the subjects, of this round, exclude each other
pub record Opposites {D : Type 0} (eq : D → D → Bool) (xs : List (SubjectValue D)) (round : Round) : Type 0 where
  pub x : SubjectValue D
  pub y : SubjectValue D
  pub x_in : Contains xs x
  pub y_in : Contains xs y
  pub x_here : round_of x ≡ round
  pub y_here : round_of y ≡ round
  pub against : excludes eq x y ≡ true

-- two such subjects split the round
pub split_by : {D : Type 0} (eq : D → D → Bool) (xs : List (SubjectValue D)) (round : Round) → Opposites eq xs round →
    are_split eq xs round ≡ true
split_by eq xs round o =
    any_from_Contains (λ a. same_round (round_of a) round && list_any (subjects_contradict eq a) xs) xs o.x o.x_in
    (and_from _ _ (same_round-from _ _ o.x_here) (any_from_Contains (subjects_contradict eq o.x) xs o.y o.y_in
    (and_from _ _ (same_round-from _ _ (o.x_here ∙ sym o.y_here)) o.against)))

-- a split round has two such subjects
pub opposites : {D : Type 0} (eq : D → D → Bool) (xs : List (SubjectValue D)) (round : Round) → are_split eq xs round ≡ true →
    Opposites eq xs round
opposites eq xs round h =
    let (x, x_in, e) =
    Contains-from_list_any (λ a. same_round (round_of a) round && list_any (subjects_contradict eq a) xs) xs h in
    let p = and_parts (same_round (round_of x) round) (list_any (subjects_contradict eq x) xs) e in
    let (y, y_in, f) = Contains-from_list_any (subjects_contradict eq x) xs p.1 in
    let q = and_parts (same_round (round_of x) (round_of y)) (excludes eq x y) f in
    let here = same_round-true _ _ p.0 in
    record {
      x = x;
      y = y;
      x_in = x_in;
      y_in = y_in;
      x_here = here;
      y_here = sym (same_round-true _ _ q.0) ∙ here;
      against = q.1;
    }

-- so subjects that include those of the round split it too
pub split_more : {D : Type 0} (eq : D → D → Bool) (xs ys : List (SubjectValue D)) (round : Round) →
    ((x : SubjectValue D) → Contains xs x → round_of x ≡ round → Contains ys x) → are_split eq xs round ≡ true →
    are_split eq ys round ≡ true
split_more eq xs ys round all h =
    let o = opposites eq xs round h in
    split_by eq ys round (record {
      x = o.x;
      y = o.y;
      x_in = all o.x o.x_in o.x_here;
      y_in = all o.y o.y_in o.y_here;
      x_here = o.x_here;
      y_here = o.y_here;
      against = o.against;
    })

module _ {D : Type 0} (eq : D → D → Bool) (first : VoteKind → Option (SubjectValue D)) (y : SubjectValue D) where
  -- a subject that excludes the first of a kind
  some_from_first : (kind : VoteKind) (a : SubjectValue D) → first kind ≡ Some a → excludes eq a y ≡ true →
      excludes_some eq first y ≡ true
  some_from_first kinds.Notarize a is h = or_left _ _ (ap (λ o. excludes_first eq o y) is ∙ h)
  some_from_first kinds.Nullify a is h = or_right _ _ (or_left _ _ (ap (λ o. excludes_first eq o y) is ∙ h))
  some_from_first kinds.Finalize a is h = or_right _ _ (or_right _ _ (ap (λ o. excludes_first eq o y) is ∙ h))

  -- a subject that excludes some first one excludes the first of a kind
  first_from_some : excludes_some eq first y ≡ true →
      (kind : VoteKind) × (a : SubjectValue D) × (first kind ≡ Some a) × (excludes eq a y ≡ true)
  first_from_some h =
      let at = λ (kind : VoteKind).
      (elim (first kind) as (λ o. first kind ≡ o → excludes_first eq o y ≡ true →
      (s : VoteKind) × (a : SubjectValue D) × (first s ≡ Some a) × (excludes eq a y ≡ true))
      [ None ↦ λ is e. absurd (false≢true e) | Some a ↦ λ is e. (kind, a, is, e) ]) refl in
      ⊎_elim (at kinds.Notarize) (λ e. ⊎_elim (at kinds.Nullify) (at kinds.Finalize)
      (or_cases (excludes_first eq (first kinds.Nullify) y) (excludes_first eq (first kinds.Finalize) y) e))
      (or_cases (excludes_first eq (first kinds.Notarize) y) _ h)

-- one more subject is the first of its round and kind if there is none yet, and changes no other first
pub first_after : {D : Type 0} (xs : List (SubjectValue D)) (y : SubjectValue D) (round : Round) (kind : VoteKind) →
    first_certified (xs ++ y ∷ []) round kind ≡ (if same_round (round_of y) round
    then first_with y kind (first_certified xs round kind) else first_certified xs round kind)
first_after xs y round kind =
    find_push (λ x. same_kind (kind_of x) kind && same_round (round_of x) round) xs y ∙
    elim (same_kind (kind_of y) kind) as (λ s. cond (s && same_round (round_of y) round) (option_or
    (first_certified xs round kind) (Some y)) (first_certified xs round kind) ≡ cond (same_round (round_of y) round) (cond s
    (option_or (first_certified xs round kind) (Some y)) (first_certified xs round kind)) (first_certified xs round kind)) [
      | true ↦ refl
      | false ↦ elim (same_round (round_of y) round) as (λ r. first_certified xs round kind
          ≡ cond r (first_certified xs round kind) (first_certified xs round kind)) [ true ↦ refl | false ↦ refl ]
    ]

module _ {D : Type 0} (eq : D → D → Bool) (laws : IsEquivalence eq) (xs : List (SubjectValue D)) (y : SubjectValue D)
    (round : Round) where
  -- whether the round is split by y or before
  abbrev pub splits_now : Bool
  splits_now = are_split eq xs round || (same_round (round_of y) round && excludes_some eq (first_certified xs round) y)

  -- an earlier subject that y excludes: y excludes the first of its kind too, or the two split the round before
  met : (x : SubjectValue D) → Contains xs x → round_of x ≡ round → round_of y ≡ round → excludes eq x y ≡ true →
      splits_now ≡ true
  met x x_in x_here y_here h =
      let test = λ (z : _). same_kind (kind_of z) (kind_of x) && same_round (round_of z) round in
      let (a, is) =
      find_from_Contains test xs x x_in (and_from _ _ (same_kind-refl (kind_of x)) (same_round-from _ _ x_here)) in
      let (a_in, passes) = found test xs a is in
      let p = and_parts (same_kind (kind_of a) (kind_of x)) (same_round (round_of a) round) passes in
      ⊎_elim
      (λ e. or_left _ _ (split_by eq xs round
      (record { x = a; y = x; x_in = a_in; y_in = x_in; x_here = same_round-true _ _ p.1; y_here = x_here; against = e })))
      (λ e. or_right (are_split eq xs round) _
      (and_from _ _ (same_round-from _ _ y_here) (some_from_first eq (first_certified xs round) y (kind_of x) a is e)))
      (excludes_one eq laws a x y (same_kind-true _ _ p.0) h)

  pub split_to : are_split eq (xs ++ y ∷ []) round ≡ true → splits_now ≡ true
  split_to h =
      let o = opposites eq (xs ++ y ∷ []) round h in
      elim (Contains-push_cases xs y o.x o.x_in) [
        | inl x_in ↦ elim (Contains-push_cases xs y o.y o.y_in) [
          | inl y_in ↦ or_left _ _ (split_by eq xs round (record {
            x = o.x;
            y = o.y;
            x_in = x_in;
            y_in = y_in;
            x_here = o.x_here;
            y_here = o.y_here;
            against = o.against;
          }))
          | inr e ↦ met o.x x_in o.x_here (ap round_of e ∙ o.y_here) (ap (excludes eq o.x) e ∙ o.against)
        ]
        | inr e ↦ elim (Contains-push_cases xs y o.y o.y_in) [
          | inl y_in ↦ met o.y y_in o.y_here (ap round_of e ∙ o.x_here)
              (ap (excludes eq o.y) e ∙ excludes-flip eq laws o.y o.x ∙ o.against)
          | inr f ↦ absurd (false≢true (sym (excludes_itself eq laws y) ∙ (λ i. excludes eq (e i) (f i)) ∙ o.against))
        ]
      ]

  pub split_from : splits_now ≡ true → are_split eq (xs ++ y ∷ []) round ≡ true
  split_from h = ⊎_elim (split_more eq xs (xs ++ y ∷ []) round (λ x x_in here. Contains-append_left xs (y ∷ []) x x_in)) (λ e.
      let p = and_parts (same_round (round_of y) round) (excludes_some eq (first_certified xs round) y) e in
      let (kind, a, is, against) = first_from_some eq (first_certified xs round) y p.1 in
      let (a_in, passes) = found _ xs a is in
      split_by eq (xs ++ y ∷ []) round (record {
        x = a;
        y = y;
        x_in = Contains-append_left xs (y ∷ []) a a_in;
        y_in = Contains-push xs y;
        x_here = same_round-true _ _ (and_parts (same_kind (kind_of a) kind) (same_round (round_of a) round) passes).1;
        y_here = same_round-true _ _ p.0;
        against = against;
      }))
      (or_cases (are_split eq xs round) _ h)

  -- what is recorded after one more subject, from what was recorded; b is whether the subject is of the round
  pub records_push : (old new : CertifiedSubjects D) (b : Bool) → same_round (round_of y) round ≡ b → (old.split ≡ false →
      (kind : VoteKind) → firsts_of new kind ≡ cond b (first_with y kind (firsts_of old kind)) (firsts_of old kind)) →
      new.split ≡ (old.split || (b && excludes_some eq (firsts_of old) y)) → RecordsFirsts eq xs round old →
      RecordsFirsts eq (xs ++ y ∷ []) round new
  records_push old new b is firsts split records = record {
    split = split ∙ by_split (cases_Bool old.split) ∙ sym (same_bool _ _ split_to split_from);
    firsts = λ whole kind.
        let before = (or_parts old.split _ (sym split ∙ whole)).0 in
        firsts before kind
        ∙ (λ i. cond (sym is i) (first_with y kind (records.firsts before kind i)) (records.firsts before kind i))
        ∙ sym (first_after xs y round kind);
  }
    where
      by_split : (old.split ≡ true) ⊎ (old.split ≡ false) →
          (old.split || (b && excludes_some eq (firsts_of old) y)) ≡ splits_now
      by_split (inl e) =
          ap (λ c. c || (b && excludes_some eq (firsts_of old) y)) e ∙ sym (ap
          (λ c. c || (same_round (round_of y) round && excludes_some eq (first_certified xs round) y)) (sym records.split ∙ e))
      by_split (inr e) = λ i. records.split i || (sym is i && excludes_some eq (λ kind. records.firsts e kind i) y)

  -- a subject of another round changes nothing
  pub records_elsewhere : (recorded : CertifiedSubjects D) → same_round (round_of y) round ≡ false →
      RecordsFirsts eq xs round recorded → RecordsFirsts eq (xs ++ y ∷ []) round recorded
  records_elsewhere recorded away =
      records_push recorded recorded false away (λ whole kind. refl)
      (elim recorded.split as (λ b. b ≡ (b || false)) [ true ↦ refl | false ↦ refl ])

  -- a subject that would change nothing leaves the record as it is
  pub records_no_news : (recorded : CertifiedSubjects D) → same_round (round_of y) round ≡ true →
      changes_firsts eq (firsts_of recorded) recorded.split y ≡ false → RecordsFirsts eq xs round recorded →
      RecordsFirsts eq (xs ++ y ∷ []) round recorded
  records_no_news recorded here same =
      records_push recorded recorded true here
      (λ whole kind. stays kind (same_kind (kind_of y) kind) refl
      (or_parts (is_none (firsts_of recorded (kind_of y))) (excludes_some eq (firsts_of recorded) y) (sym (ap
      (λ b. not b && (is_none (firsts_of recorded (kind_of y)) || excludes_some eq (firsts_of recorded) y)) whole) ∙ same)).0)
      ((elim recorded.split as (λ b. (not b && (is_none (firsts_of recorded (kind_of y))
      || excludes_some eq (firsts_of recorded) y)) ≡ false → b ≡ (b || excludes_some eq (firsts_of recorded) y)) [
        | true ↦ λ h. refl
        | false ↦ λ h. sym (or_parts (is_none (firsts_of recorded (kind_of y))) (excludes_some eq (firsts_of recorded) y) h).1
      ]) same)
    where
      -- a recorded first subject stays
      stays : (kind : VoteKind) (b : Bool) → same_kind (kind_of y) kind ≡ b → is_none (firsts_of recorded (kind_of y)) ≡ false →
          firsts_of recorded kind ≡ cond b (option_or (firsts_of recorded kind) (Some y)) (firsts_of recorded kind)
      stays kind true is h = (elim (firsts_of recorded kind) as (λ o. is_none o ≡ false → o ≡ option_or o (Some y)) [
        | None ↦ λ e. absurd (false≢true (sym e))
        | Some a ↦ λ e. refl
      ]) (subst (λ s. is_none (firsts_of recorded s) ≡ false) (same_kind-true (kind_of y) kind is) h)
      stays kind false is h = refl

-- whether a certified subject is news follows from what is recorded of its round
pub news_recorded : {D : Type 0} (eq : D → D → Bool) (xs : List (SubjectValue D)) (round : Round)
    (recorded : CertifiedSubjects D) → RecordsFirsts eq xs round recorded → (y : SubjectValue D) →
    changes_firsts eq (firsts_of recorded) recorded.split y
    ≡ changes_firsts eq (first_certified xs round) (are_split eq xs round) y
news_recorded eq xs round recorded records y = elim (cases_Bool recorded.split) [
  | inl e ↦ (λ i. changes_firsts eq (firsts_of recorded) (e i) y)
      ∙ sym (λ i. changes_firsts eq (first_certified xs round) ((sym records.split ∙ e) i) y)
  | inr e ↦ λ i. changes_firsts eq (λ kind. records.firsts e kind i) (records.split i) y
]

-- ---- from messages to what they certify

-- whether there is a value and it passes
abbrev passes : {X : Type 0} → (X → Bool) → Option X → Bool
passes p None = false
passes p (Some x) = p x

list_any-filter_map : {X Y : Type 0} (p : Y → Bool) (f : X → Option Y) (xs : List X) →
    list_any p (filter_map f xs) ≡ list_any (λ x. passes p (f x)) xs
list_any-filter_map p f [] = refl
list_any-filter_map p f (x ∷ xs) =
    elim (f x) as (λ o. list_any p (cons_option o (filter_map f xs)) ≡ (passes p o || list_any (λ x. passes p (f x)) xs))
    [ None ↦ list_any-filter_map p f xs | Some y ↦ ap (λ b. p y || b) (list_any-filter_map p f xs) ]

module _ {S D C P G : Type 0} (rules : Rules S D C P G) where
  -- a message that certifies a subject is of its round
  pub certified_round : (m : Activity S D C P G) (x : SubjectValue D) → certified_in rules m ≡ Some x →
      activity_round m ≡ round_of x
  certified_round m x is =
      let (c, has, certifies) = certified_parts rules (subject_and_certificate m) x is in
      (certificate_parts rules.listed m (x, c) has).0

  -- messages that certify subjects contradict where these do
  contradict-subjects : (m k : Activity S D C P G) (x y : SubjectValue D) → certified_in rules m ≡ Some x →
      certified_in rules k ≡ Some y → messages_contradict rules.eq m k ≡ subjects_contradict rules.eq x y
  contradict-subjects m k x y m_is k_is =
      let (c, m_has, _) = certified_parts rules (subject_and_certificate m) x m_is in
      let (d, k_has, _) = certified_parts rules (subject_and_certificate k) y k_is in
      λ i. certificates_contradict rules.eq (m_has i) (k_has i)

  -- which rounds messages split follows from the subjects that they certify
  pub from_subjects : (messages : List (Activity S D C P G)) (round : Round) →
      is_split rules messages round ≡ are_split rules.eq (certified_subjects rules messages) round
  from_subjects messages round =
      (λ i. list_any (λ m. of_message m (certified_in rules m) refl i) messages)
      ∙ sym (list_any-filter_map (λ x. same_round (round_of x) round
      && list_any (subjects_contradict rules.eq x) (certified_subjects rules messages)) (certified_in rules) messages)
    where
      of_other : (m k : Activity S D C P G) (x : SubjectValue D) → certified_in rules m ≡ Some x →
          (o : Option (SubjectValue D)) → certified_in rules k ≡ o →
          (is_certified_message rules k && messages_contradict rules.eq m k) ≡ passes (subjects_contradict rules.eq x) o
      of_other m k x m_is None is = and_left (is_certified_message rules k) (messages_contradict rules.eq m k) (ap is_some is)
      of_other m k x m_is (Some y) is = λ i. is_some (is i) && contradict-subjects m k x y m_is is i

      of_message : (m : Activity S D C P G) (o : Option (SubjectValue D)) → certified_in rules m ≡ o →
          ((same_round (activity_round m) round && is_certified_message rules m)
          && list_any (λ k. is_certified_message rules k && messages_contradict rules.eq m k) messages) ≡ passes (λ x.
          same_round (round_of x) round && list_any (subjects_contradict rules.eq x) (certified_subjects rules messages)) o
      of_message m None is =
          and_left _ _ (and_right (same_round (activity_round m) round) (is_certified_message rules m) (ap is_some is))
      of_message m (Some x) is =
          (λ i. (same_round (certified_round m x is i) round && is_some (is i))
          && list_any (λ k. of_other m k x is (certified_in rules k) refl i) messages) ∙
          elim (same_round (round_of x) round) as (λ a.
          ((a && true) && list_any (λ k. passes (subjects_contradict rules.eq x) (certified_in rules k)) messages)
          ≡ (a && list_any (λ k. passes (subjects_contradict rules.eq x) (certified_in rules k)) messages))
          [ true ↦ refl | false ↦ refl ] ∙ ap (λ b. same_round (round_of x) round && b)
          (sym (list_any-filter_map (subjects_contradict rules.eq x) (certified_in rules) messages))

  -- what the messages and one more certify
  pub subjects_push : (messages : List (Activity S D C P G)) (m : Activity S D C P G) →
      certified_subjects rules (messages ++ m ∷ []) ≡ certified_subjects rules messages ++ option_to_list (certified_in rules m)
  subjects_push messages m =
      filter_map-append (certified_in rules) messages (m ∷ []) ∙ ap (λ xs. certified_subjects rules messages ++ xs)
      (elim (certified_in rules m) as (λ o. cons_option o [] ≡ option_to_list o) [ None ↦ refl | Some x ↦ refl ])

  -- a message of another round changes nothing
  pub records_other_message : IsEquivalence rules.eq →
      (messages : List (Activity S D C P G)) (m : Activity S D C P G) (round : Round) (recorded : CertifiedSubjects D) →
      same_round (activity_round m) round ≡ false → RecordsFirsts rules.eq (certified_subjects rules messages) round recorded →
      RecordsFirsts rules.eq (certified_subjects rules (messages ++ m ∷ [])) round recorded
  records_other_message l messages m round recorded other records =
      subst (λ xs. RecordsFirsts rules.eq xs round recorded) (sym (subjects_push messages m))
      ((elim (certified_in rules m) as (λ o. certified_in rules m ≡ o →
      RecordsFirsts rules.eq (certified_subjects rules messages ++ option_to_list o) round recorded) [
        | None ↦ λ is. subst (λ xs. RecordsFirsts rules.eq xs round recorded)
            (sym (append-nil (certified_subjects rules messages))) records
        | Some x ↦ λ is. records_elsewhere rules.eq l (certified_subjects rules messages) x round recorded
            (ap (λ r. same_round r round) (sym (certified_round m x is)) ∙ other) records
      ]) refl)

-- ---- the splits are determined

module _ {S D C P G : Type 0} (rules : Rules S D C P G) (messages : List (Activity S D C P G)) where
  -- two subjects that the messages of a split round certify exclude each other
  pub split_opposites : (round : Round) → is_split rules messages round ≡ true →
      Opposites rules.eq (certified_subjects rules messages) round
  split_opposites round h = opposites rules.eq _ round (sym (from_subjects rules messages round) ∙ h)

  -- a round has a split exactly where it is split
  pub split_exists : (round : Round) → is_some (split_of rules messages round) ≡ is_split rules messages round
  split_exists round =
      let s : Split = record {
        round = round;
        named = accused_count rules.eq (valid_votes rules messages) round;
        least = faults_of (rules.size round.epoch) + 1;
      } in
      elim (is_split rules messages round) as (λ b. is_some (if b then Some s else None) ≡ b) [ true ↦ refl | false ↦ refl ]

  pub split_own : (round : Round) (s : Split) → split_of rules messages round ≡ Some s → s.round ≡ round
  split_own round s h = ap (λ (x : Split). x.round) (sym (cond_some (is_split rules messages round) _ s h).1)

  -- the splits of messages list the split of each round
  pub splits_listing : (ss : List Split) → AreSplits rules messages ss →
      IsListing (λ s. s.round) round_cmp (split_of rules messages) ss
  splits_listing ss are =
      record { ordered = are.ordered; sound = are.sound; complete = λ r h. are.complete r (sym (split_exists r) ∙ h) }

  pub splits_from_listing : (ss : List Split) → IsListing (λ s. s.round) round_cmp (split_of rules messages) ss →
      AreSplits rules messages ss
  splits_from_listing ss are =
      record { ordered = are.ordered; sound = are.sound; complete = λ r h. are.complete r (split_exists r ∙ h) }

  -- the splits of rounds in order, among which are all that are split, are the splits of the messages
  pub splits_of_rounds : (rs : List Round) → IsStrictlySortedBy round_cmp rs →
      ((round : Round) → is_split rules messages round ≡ true → Contains rs round) →
      AreSplits rules messages (filter_map (split_of rules messages) rs)
  splits_of_rounds rs sorted all = record {
    ordered = made_ordered (λ s. s.round) round_cmp (split_of rules messages) split_own rs sorted;
    sound = made_sound (λ s. s.round) round_cmp (split_of rules messages) split_own rs;
    complete = λ r h.
        made_complete (λ s. s.round) round_cmp (split_of rules messages) split_own rs r (all r h) (split_exists r ∙ h);
  }

  -- in a split round more are accused than may lie
  pub enough_in_split : AreLawful rules → (round : Round) → is_split rules messages round ≡ true →
      faults_of (rules.size round.epoch) + 1 ≤ accused_count rules.eq (valid_votes rules messages) round
  enough_in_split l round h =
      let o = split_opposites round h in
      let (m, m_in, m_is) = Contains-from_filter_map (certified_in rules) messages o.x o.x_in in
      let (k, k_in, k_is) = Contains-from_filter_map (certified_in rules) messages o.y o.y_in in
      enough_for rules l messages round _ _ (accountable_for rules l messages round o.x o.y (certifies_from rules messages m o.x
      m_in m_is) (certifies_from rules messages k o.y k_in k_is) o.x_here o.y_here o.against)

  -- the committee of a split round has a participant
  pub someone_in_split : HaveCommittees rules → (round : Round) → is_split rules messages round ≡ true →
      1 ≤ rules.size round.epoch
  someone_in_split l round h =
      let o = split_opposites round h in
      let (m, m_in, m_is) = Contains-from_filter_map (certified_in rules) messages o.x o.x_in in
      let (c, has, certifies) = certified_parts rules (subject_and_certificate m) o.x m_is in
      subst (λ r. 1 ≤ rules.size r.epoch) o.x_here (l.someone o.x c certifies)

  -- so each split of messages has at least f + 1 accused
  pub have_accused : AreLawful rules → (ss : List Split) → AreSplits rules messages ss → All (λ s. s.least ≤ s.named) ss
  have_accused l ss are = λ k d lt.
      let (is, made) = cond_some (is_split rules messages _) _ _ (are.sound k d lt) in
      subst (λ (x : Split). x.least ≤ x.named) made (enough_in_split l _ is)

-- messages that have the same split of each round have the same splits
pub moved_splits : {S D C P G : Type 0} (rules others : Rules S D C P G) (messages later : List (Activity S D C P G)) →
    ((round : Round) → split_of others later round ≡ split_of rules messages round) → (ss : List Split) →
    AreSplits others later ss → AreSplits rules messages ss
moved_splits rules others messages later same ss are =
    splits_from_listing rules messages ss
    (subst (λ f. IsListing (λ s. s.round) round_cmp f ss) (λ i r. same r i) (splits_listing others later ss are))

-- the split of a round follows from the valid votes and the certified subjects
pub same_split : {S D C P G : Type 0} (rules others : Rules S D C P G) (messages ks : List (Activity S D C P G))
    (round : Round) →
    are_split others.eq (certified_subjects others ks) round ≡ are_split rules.eq (certified_subjects rules messages) round →
    accused_count others.eq (valid_votes others ks) round ≡ accused_count rules.eq (valid_votes rules messages) round →
    others.size round.epoch ≡ rules.size round.epoch → split_of others ks round ≡ split_of rules messages round
same_split rules others messages ks round split count size =
    let whether = from_subjects others ks round ∙ split ∙ sym (from_subjects rules messages round) in
    λ i. cond (whether i) (Some (record { round = round; named = count i; least = faults_of (size i) + 1 })) None
