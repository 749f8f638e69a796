-- Two certified messages that contradict accuse more participants than may lie.
use Rattle.simplex_rules.proofs.Prelude.{Activity, All, All-append, All-contains, All-filter, All-from_recursion, All-map, AllByRecursion, AreLawful, Attestation, Bool, Conflicting_finalize, Conflicting_notarize, Contains, Contains-from_any, EnoughAreAccused, IsAccountable, IsTrue, EquivocationKind, List, None, Nullify_finalize, Option, Round, Rules, SignedVote, SignersAreAccountable, Some, SubjectValue, [], activity_round, and_from, and_parts, ap, arith, subject_and_certificate, certificates_contradict, certified_in, clash, cond, cond_some, distinct_count, eqb-true, excludes, false, faults_of, filter, filter_passes, if_certified, is_member, is_accused, is_accused_in, is_of, length, length-append, length-filter_both, length-le_from_distinct_below, length-le_from_is_member, length-map, list_any, list_any-from_Contains, list_any_congr, map, accused_count, nat_eq, nat_eq_equiv, not, not-true, or_cases, or_left, or_parts, or_right, quorum_of, recursion_from_All, refl, round_of, same_Some, same_round, shared_signers, signers_of, subst, sym, true, unique_keys, valid_votes, vote_on, votes_in, ℕ, ⊎_elim, ◌++◌, ◌+◌, ◌<◌, ◌||◌, ◌∙◌, ◌∷◌, ◌≡◌, ◌≤◌}
use Rattle.std.specs.List.{IsDistinct}
use Rattle.simplex_rules.proofs.EvidenceLemmas.{accused_from_votes, valid_in, votes_from_accused}
use Rattle.simplex_rules.proofs.Lists.{Contains-filter, Contains-from_filter, Contains-from_map, Contains-map, each, some_from_is_some}
use Rattle.simplex_rules.proofs.Places.{is_of-from, is_of-true, kind_from_excludes, same_round-true}
use Rattle.simplex_evidence.specs.declared.types.activity.Activity.TheVariants as activity

-- ---- distinct numbers

-- a number that is not in a list differs from each number in it
apart : (x : ℕ) (ys : List ℕ) → is_member nat_eq ys x ≡ false → AllByRecursion (λ y. nat_eq x y ≡ false) ys
apart x [] h = tt
apart x (y ∷ ys) h = let p = or_parts (nat_eq x y) (list_any (nat_eq x) ys) h in (p.0, apart x ys p.1)

pub Contains-from_member : (xs : List ℕ) (x : ℕ) → is_member nat_eq xs x ≡ true → Contains xs x
Contains-from_member xs x h = Contains-from_any eqb-true x xs h

pub IsDistinct-filter : (p : ℕ → Bool) (xs : List ℕ) → IsDistinct nat_eq xs → IsDistinct nat_eq (filter p xs)
unfolding IsDistinct
IsDistinct-filter p [] d = tt
IsDistinct-filter p (x ∷ xs) d =
    elim (p x) as (λ b. IsDistinct nat_eq (cond b (x ∷ filter p xs) (filter p xs))) [
      | true ↦ (
        recursion_from_All _ (filter p xs) (All-filter p (λ y. nat_eq x y ≡ false) xs (All-from_recursion _ xs d.0)),
        IsDistinct-filter p xs d.1,
      )
      | false ↦ IsDistinct-filter p xs d.1
    ]

-- two lists of distinct numbers, none in both, are distinct when joined
IsDistinct-append : (xs ys : List ℕ) → IsDistinct nat_eq xs → IsDistinct nat_eq ys →
    AllByRecursion (λ x. is_member nat_eq ys x ≡ false) xs → IsDistinct nat_eq (xs ++ ys)
unfolding IsDistinct
IsDistinct-append [] ys d e none = e
IsDistinct-append (x ∷ xs) ys d e none = (
  recursion_from_All _ (xs ++ ys)
      (All-append (λ y. nat_eq x y ≡ false) xs ys (All-from_recursion _ xs d.0) (All-from_recursion _ ys (apart x ys none.0))),
  IsDistinct-append xs ys d.1 e none.1,
)

-- the numbers of xs that ys has too
abbrev shared : List ℕ → List ℕ → List ℕ
shared xs ys = filter (is_member nat_eq ys) xs

-- two lists of distinct numbers below n share at least as many as they have beyond n
shared_count : (n : ℕ) (xs ys : List ℕ) → IsDistinct nat_eq xs → IsDistinct nat_eq ys → All (λ x. x < n) xs →
    All (λ y. y < n) ys → length xs + length ys ≤ n + length (shared xs ys)
shared_count n xs ys d e below under =
    let other : ℕ → Bool = λ x. not (is_member nat_eq ys x) in
    let rest = filter other xs in
    let all = IsDistinct-append rest ys (IsDistinct-filter other xs d) e
    (recursion_from_All _ rest (λ k z lt. not-true _ (filter_passes other xs k z lt))) in
    let Below : ℕ → Type 0 = λ x. x < n in
    let bound = length-le_from_distinct_below (rest ++ ys) n all (λ q h. All-contains Below (rest ++ ys) q
    (All-append Below rest ys (All-filter other Below xs below) under) (Contains-from_member (rest ++ ys) q h)) in
    omega (arith, bound, length-append rest ys, length-filter_both (is_member nat_eq ys) other (λ x. refl) xs)

is_member-unique_keys : (xs : List ℕ) (q : ℕ) → is_member nat_eq (unique_keys nat_eq xs) q ≡ is_member nat_eq xs q
is_member-unique_keys [] q = refl
is_member-unique_keys (x ∷ xs) q = by (is_member nat_eq xs x) (nat_eq q x) refl refl (is_member-unique_keys xs q)
  where
    by : (b c : Bool) → is_member nat_eq xs x ≡ b → nat_eq q x ≡ c →
        is_member nat_eq (unique_keys nat_eq xs) q ≡ is_member nat_eq xs q →
        is_member nat_eq (cond b (unique_keys nat_eq xs) (x ∷ unique_keys nat_eq xs)) q ≡ (c || is_member nat_eq xs q)
    by true true m t r = r ∙ list_any_congr nat_eq_equiv q x xs t ∙ m
    by true false m t r = r
    by false c m t r = λ i. t i || r i

IsDistinct-unique_keys : (xs : List ℕ) → IsDistinct nat_eq (unique_keys nat_eq xs)
unfolding IsDistinct
IsDistinct-unique_keys [] = tt
IsDistinct-unique_keys (x ∷ xs) =
    (elim (is_member nat_eq xs
    x) as (λ b. is_member nat_eq xs x ≡ b → IsDistinct nat_eq (cond b (unique_keys nat_eq xs) (x ∷ unique_keys nat_eq xs))) [
      | true ↦ λ m. IsDistinct-unique_keys xs
      | false ↦ λ m. (apart x (unique_keys nat_eq xs) (is_member-unique_keys xs x ∙ m), IsDistinct-unique_keys xs)
    ]) refl

-- distinct numbers that are all in a list are at most its distinct ones
pub distinct_count-at_least : (zs xs : List ℕ) → IsDistinct nat_eq zs → ((q : ℕ) → Contains zs q → Contains xs q) →
    length zs ≤ distinct_count nat_eq xs
distinct_count-at_least zs xs d within =
    length-le_from_is_member nat_eq_equiv zs (unique_keys nat_eq xs) d
    (λ q h. is_member-unique_keys xs q ∙ list_any-from_Contains nat_eq_equiv q xs (within q (Contains-from_member zs q h)))

-- a list has at least as many elements as there are distinct ones that it has
pub distinct_count-at_most : (xs zs : List ℕ) → ((q : ℕ) → Contains xs q → Contains zs q) →
    distinct_count nat_eq xs ≤ length zs
distinct_count-at_most xs zs within =
    length-le_from_is_member nat_eq_equiv (unique_keys nat_eq xs) zs (IsDistinct-unique_keys xs) (λ q h.
    list_any-from_Contains nat_eq_equiv q zs (within q (Contains-from_member xs q (sym (is_member-unique_keys xs q) ∙ h))))

-- lists with the same elements have the same number of distinct ones
pub distinct_count-same : (xs ys : List ℕ) → ((q : ℕ) → Contains xs q → Contains ys q) →
    ((q : ℕ) → Contains ys q → Contains xs q) → distinct_count nat_eq xs ≡ distinct_count nat_eq ys
distinct_count-same xs ys to from =
    let at_most : (xs ys : List ℕ) → ((q : ℕ) → Contains xs q → Contains ys q) →
    distinct_count nat_eq xs ≤ distinct_count nat_eq ys =
    λ xs ys to. distinct_count-at_least (unique_keys nat_eq xs) ys (IsDistinct-unique_keys xs)
    (λ q h. to q (Contains-from_member xs q (sym (is_member-unique_keys xs q) ∙ list_any-from_Contains nat_eq_equiv q _ h))) in
    omega (arith, at_most xs ys to, at_most ys xs from)

-- ---- who is accused in a round

module _ {D G : Type 0} (eq : D → D → Bool) (vs : List (SignedVote D G)) (round : Round) (signer : ℕ) where
  -- accused for some kind
  pub accused_in : (kind : EquivocationKind) →
      is_accused eq vs (record { round = round; signer = signer; kind = kind }) ≡ true → is_accused_in eq vs round signer ≡ true
  accused_in Conflicting_notarize h = or_left _ _ h
  accused_in Conflicting_finalize h = or_right _ _ (or_left _ _ h)
  accused_in Nullify_finalize h = or_right _ _ (or_right _ _ h)

  pub kind_from_accused_in : is_accused_in eq vs round signer ≡ true →
      (kind : EquivocationKind) × (is_accused eq vs (record { round = round; signer = signer; kind = kind }) ≡ true)
  kind_from_accused_in h =
      let named = λ (kind : EquivocationKind). is_accused eq vs (record { round = round; signer = signer; kind = kind }) in
      ⊎_elim
      (λ e. (Conflicting_notarize, e))
      (λ e. ⊎_elim (λ f. (Conflicting_finalize, f)) (λ f. (Nullify_finalize, f))
      (or_cases (named Conflicting_finalize) (named Nullify_finalize) e))
      (or_cases (named Conflicting_notarize) (named Conflicting_finalize || named Nullify_finalize) h)

  -- a signer who is accused is among those who are counted
  pub counted_signer : is_accused_in eq vs round signer ≡ true →
      Contains (filter (is_accused_in eq vs round) (map (λ v. v.signer) vs)) signer
  counted_signer h =
      let (kind, e) = kind_from_accused_in h in
      let (v, w, v_in, w_in, of_v, against) =
      votes_from_accused eq vs (record { round = round; signer = signer; kind = kind }) e in
      Contains-filter (is_accused_in eq vs round) _ signer (subst (Contains (map (λ v. v.signer) vs))
      ((is_of-true round signer v of_v).1) (Contains-map (λ v. v.signer) vs v v_in)) h

-- a signer whose two votes of a round exclude each other is accused there
accused_from_excludes : {D G : Type 0} (eq : D → D → Bool) (vs : List (SignedVote D G)) (round : Round) (q : ℕ)
    (v w : SignedVote D G) → Contains vs v → Contains vs w → is_of round q v ≡ true → is_of round q w ≡ true →
    excludes eq v.subject w.subject ≡ true → is_accused_in eq vs round q ≡ true
accused_from_excludes {D} {G} eq vs round q v w v_in w_in v_of w_of h =
    let (kind, against) = kind_from_excludes eq v.subject w.subject h in
    let by : (a b : SignedVote D G) → Contains vs a → Contains vs b → is_of round q a ≡ true → is_of round q b ≡ true →
    clash eq kind a.subject b.subject ≡ true → is_accused_in eq vs round q ≡ true =
    λ a b a_in b_in a_of b_of e.
    let a_at = is_of-true round q a a_of in
    let b_at = is_of-true round q b b_of in
    accused_in eq vs round q kind (accused_from_votes eq vs _ a b a_in b_in a_of
    (and_from _ _ (is_of-from _ _ b (b_at.0 ∙ sym a_at.0) (b_at.1 ∙ sym a_at.1)) e)) in
    ⊎_elim (by v w v_in w_in v_of w_of) (by w v w_in v_in w_of v_of) against

-- ---- what a message certifies

-- the subject of a message's certificate is of its round, and its votes are those that the certificate lists
pub certificate_parts : {S D C P G : Type 0} (listed : C → List (Attestation S P G)) (m : Activity S D C P G)
    (s : SubjectValue D × C) → subject_and_certificate m ≡ Some s →
    (activity_round m ≡ round_of s.0) × (votes_in listed m ≡ map (vote_on s.0) (listed s.1))
certificate_parts listed (activity.Notarization n) s h =
    let e = same_Some _ s h in (ap (λ x. round_of x.0) e, ap (λ x. map (vote_on x.0) (listed x.1)) e)
certificate_parts listed (activity.Certification n) s h =
    let e = same_Some _ s h in (ap (λ x. round_of x.0) e, ap (λ x. map (vote_on x.0) (listed x.1)) e)
certificate_parts listed (activity.Nullification n) s h =
    let e = same_Some _ s h in (ap (λ x. round_of x.0) e, ap (λ x. map (vote_on x.0) (listed x.1)) e)
certificate_parts listed (activity.Finalization n) s h =
    let e = same_Some _ s h in (ap (λ x. round_of x.0) e, ap (λ x. map (vote_on x.0) (listed x.1)) e)
certificate_parts listed _ s h = absurd cc

-- a message that certifies a subject has a certificate that certifies it
pub certified_parts : {S D C P G : Type 0} (rules : Rules S D C P G) (o : Option (SubjectValue D × C)) (x : SubjectValue D) →
    if_certified rules o ≡ Some x → (c : C) × (o ≡ Some (x, c)) × (rules.certified x c ≡ true)
certified_parts rules None x h = absurd cc
certified_parts rules (Some s) x h =
    let (e, same) = cond_some (rules.certified s.0 s.1) s.0 x h in
    (s.1, (λ i. Some (same i, s.1)), subst (λ z. rules.certified z s.1 ≡ true) same e)

pub record Certifies {S D C P G : Type 0} (rules : Rules S D C P G) (messages : List (Activity S D C P G))
    (x : SubjectValue D) : Type 0 where
  pub message : Activity S D C P G
  pub certificate : C
  pub is_in : Contains messages message
  pub has : subject_and_certificate message ≡ Some (x, certificate)
  pub certifies : rules.certified x certificate ≡ true

pub certifies_from : {S D C P G : Type 0} (rules : Rules S D C P G) (messages : List (Activity S D C P G))
    (m : Activity S D C P G) (x : SubjectValue D) → Contains messages m → certified_in rules m ≡ Some x →
    Certifies rules messages x
certifies_from rules messages m x m_in is =
    let (c, has, certifies) = certified_parts rules (subject_and_certificate m) x is in
    record { message = m; certificate = c; is_in = m_in; has = has; certifies = certifies }

-- ---- the law

-- at least a quorum of n participants, each once
record Quorum (n : ℕ) (signers : List ℕ) : Type 0 where
  distinct : IsDistinct nat_eq signers
  enough : quorum_of n ≤ length signers
  below : All (λ q. q < n) signers

module _ {S D C P G : Type 0} (rules : Rules S D C P G) (l : AreLawful rules) (messages : List (Activity S D C P G)) where
  -- each signer of its certificate cast a valid vote on the subject
  signer_votes : (x : SubjectValue D) (t : Certifies rules messages x) (q : ℕ) →
      Contains (signers_of (rules.listed t.certificate)) q →
      (v : SignedVote D G) × Contains (valid_votes rules messages) v × (v.subject ≡ x) × (is_of (round_of x) q v ≡ true)
  signer_votes x t q h =
      let (a, a_in, a_is) = Contains-from_map (λ a. a.signer) (rules.listed t.certificate) q h in
      let cast =
      subst (λ vs. Contains vs (vote_on x a)) (sym (certificate_parts rules.listed t.message (x, t.certificate) t.has).1)
      (Contains-map (vote_on x) (rules.listed t.certificate) a a_in) in
      let good = All-contains (λ b. rules.good x b.signer b.signature ≡ true) (rules.listed t.certificate) a
      (l.quorums x t.certificate t.certifies).each_good a_in in (
        vote_on x a,
        valid_in rules messages (vote_on x a) t.message t.is_in cast good,
        refl,
        is_of-from _ _ (vote_on x a) refl a_is,
      )

  -- its signers are a quorum of its round's committee
  quorum : (x : SubjectValue D) (t : Certifies rules messages x) →
      Quorum (rules.size (round_of x).epoch) (signers_of (rules.listed t.certificate))
  quorum x t =
      let q = l.quorums x t.certificate t.certifies in
      let signers = length-map (rules.listed t.certificate) (λ a. a.signer) in
      record {
        distinct = q.distinct;
        enough = omega (arith, q.enough, signers);
        below = All-map (λ q. q < rules.size (round_of x).epoch) (λ a. a.signer) (rules.listed t.certificate)
            (λ k a lt. l.members x _ _ (q.each_good k a lt));
      }

  -- where the subjects of two certificates of a round exclude each other, the signers of both are accountable
  pub accountable_for : (round : Round) (x y : SubjectValue D) →
      (s : Certifies rules messages x) (t : Certifies rules messages y) → round_of x ≡ round → round_of y ≡ round →
      excludes rules.eq x y ≡ true → IsAccountable rules messages round s.certificate t.certificate
  accountable_for round x y s t x_here y_here h =
      let xs = signers_of (rules.listed s.certificate) in
      let ys = signers_of (rules.listed t.certificate) in
      let one = subst (λ r. Quorum (rules.size r.epoch) xs) x_here (quorum x s) in
      let two = subst (λ r. Quorum (rules.size r.epoch) ys) y_here (quorum y t) in
      let some = subst (λ r. 1 ≤ rules.size r.epoch) x_here (l.someone x s.certificate s.certifies) in
      record {
        distinct = IsDistinct-filter (is_member nat_eq ys) xs one.distinct;
        many = omega (
          arith,
          one.enough,
          two.enough,
          shared_count (rules.size round.epoch) xs ys one.distinct two.distinct one.below two.below,
        );
        more_than_faults = omega (arith, some);
        accused = each _ (shared xs ys) (λ q q_in.
            let (q_in_xs, in_ys) = Contains-from_filter (is_member nat_eq ys) xs q q_in in
            let (v, v_in, v_on, v_of) = signer_votes x s q q_in_xs in
            let (w, w_in, w_on, w_of) = signer_votes y t q (Contains-from_member ys q in_ys) in
            accused_from_excludes rules.eq (valid_votes rules messages) round q v w v_in w_in (subst (λ r. is_of r q v ≡ true)
            x_here v_of) (subst (λ r. is_of r q w ≡ true) y_here w_of) ((λ i. excludes rules.eq (v_on i) (w_on i)) ∙ h));
      }

  -- so enough are accused
  pub enough_for : (round : Round) (c d : C) → IsAccountable rules messages round c d →
      faults_of (rules.size round.epoch) + 1 ≤ accused_count rules.eq (valid_votes rules messages) round
  enough_for round c d a =
      let counted = distinct_count-at_least (shared_signers rules c d) (filter
      (is_accused_in rules.eq (valid_votes rules messages) round) (map (λ v. v.signer) (valid_votes rules messages))) a.distinct
      (λ q q_in. counted_signer rules.eq (valid_votes rules messages) round q
      (All-contains (λ q. IsTrue (is_accused_in rules.eq (valid_votes rules messages) round q)) _ q a.accused q_in)) in
      omega (arith, a.many, a.more_than_faults, counted)

  pub accountable : SignersAreAccountable rules messages
  accountable m k x y c d m_in k_in m_has k_has m_certified k_certified against =
      let p = and_parts (same_round (round_of x) (round_of y)) (excludes rules.eq x y)
      (sym (λ i. certificates_contradict rules.eq (m_has i) (k_has i)) ∙ against) in
      let here = sym (certificate_parts rules.listed m (x, c) m_has).0 in
      accountable_for (activity_round m) x y
      (record { message = m; certificate = c; is_in = m_in; has = m_has; certifies = m_certified })
      (record { message = k; certificate = d; is_in = k_in; has = k_has; certifies = k_certified })
      here (sym (same_round-true _ _ p.0) ∙ here) p.1

  pub enough : EnoughAreAccused rules messages
  enough m k m_in k_in against m_certified k_certified =
      let (x, x_is) = some_from_is_some (certified_in rules m) m_certified in
      let (y, y_is) = some_from_is_some (certified_in rules k) k_certified in
      let (c, m_has, m_certifies) = certified_parts rules (subject_and_certificate m) x x_is in
      let (d, k_has, k_certifies) = certified_parts rules (subject_and_certificate k) y y_is in
      enough_for (activity_round m) c d (accountable m k x y c d m_in k_in m_has k_has m_certifies k_certifies against)
