-- Messages accuse the same, and have the same splits, in any order and however often they come.
use Rattle.std.proofs.Common.{◌≡◌, ◌+◌, ℕ, Bool, true, false, cond, ◌&&◌, ◌||◌, inl, inr, List, [], ◌∷◌, ◌++◌, length, map, Some, None, refl, sym, ap, subst, ◌∙◌, arith}
use Rattle.std.specs.Prelude.{Contains, IsTrue, filter, if◌then◌else◌, nat_eq}
use Rattle.std.specs.Cmp.{unsigned_tied, nat_cmp_total}
use Rattle.std.specs.FinSet.{contains, contains-from_list, from_list, len, len-empty, len-insert, nat_cmp-IsAntisymmetric, same_set}
use Rattle.std.specs.List.{flat_map, list_any}
use Rattle.std.specs.Ordering.{eq_by_cmp, nat_cmp}
use Rattle.std.specs.Set.{distinct_count, is_member, unique_keys}
use Rattle.std.proofs.lemmas.Bool.{and_from, and_parts, cases_Bool, cond-false, cond-true, false≢true}
use Rattle.std.proofs.lemmas.List.Elements.{All-weaker, Contains-append_cases, Contains-append_left, Contains-append_right}
use Rattle.std.proofs.lemmas.List.Folds.{Any-from_list_any, list_any_at}
use Rattle.simplex_base.specs.Format.{IsLawful}
use Rattle.simplex_base.specs.Positions.{Round, same_round}
use Rattle.simplex_stream.specs.StreamLaws.{messages_once}
use Rattle.simplex_scheme.specs.Committee.{faults_of}
use Rattle.simplex_votes.specs.Votes.{SignedVote, is_of}
use Rattle.simplex_evidence.specs.Activity.{activity_round, votes_in}
use Rattle.simplex_evidence.specs.Contradiction.{Conflicting_finalize, Conflicting_notarize, Equivocation, EquivocationKind, Nullify_finalize, contradicts}
use Rattle.simplex_evidence.specs.declared.types.activity.Activity.{Activity}
use Rattle.simplex_rules.specs.Accusation.{Accusation, accused_by, accused_cmp, is_accused}
use Rattle.simplex_rules.specs.Certificates.{messages_contradict}
use Rattle.simplex_rules.specs.Evidence.{IsEvidence}
use Rattle.simplex_rules.specs.Laws.{AccusesExactly}
use Rattle.simplex_rules.specs.Rules.{Rules, is_valid, valid_votes}
use Rattle.simplex_rules.specs.SplitLaws.{SplitsAreUnique}
use Rattle.simplex_rules.specs.Splits.{AreSplits, accused_count, is_accused_in, is_certified_message, is_split, split_of}
use Rattle.simplex_rules.specs.declared.split.Split.{Split}
use Rattle.simplex_audit.specs.Basis.{Basis}
use Rattle.simplex_audit.specs.Report.{evidence_in}
use Rattle.simplex_shards.proofs.CanonicalLemmas.{first_or_later, here, later, same_mapped, same_order, same_truth}
use Rattle.simplex_shards.proofs.RoundOrder.{accused_total, exact_accused}
use Rattle.simplex_shards.specs.Accused.{AccuseSame}
use Rattle.simplex_shards.specs.Canonical.{HaveSameElements, HaveSameMessages}

-- ---- elements that a list has and another has, too

abbrev Within : {X : Type 0} → List X → List X → Type 0
Within {X} xs ys = (x : X) → Contains xs x → Contains ys x

module _ {X : Type 0} where
  pub record Passes (p : X → Bool) (xs : List X) : Type 0 where
    pub one : X
    pub within : Contains xs one
    pub passes : p one ≡ true

  passed : (p : X → Bool) (xs : List X) → list_any p xs ≡ true → Passes p xs
  passed p xs h =
      let one = Any-from_list_any p xs h in
      record { one = one.1; within = (one.0, one.2, one.3); passes = one.4 }

  passes_any : (p : X → Bool) (xs : List X) (x : X) → Contains xs x → p x ≡ true → list_any p xs ≡ true
  passes_any p xs x h holds = list_any_at p xs h.0 x h.1 (ap p h.2 ∙ holds)

  any_within : (p : X → Bool) (xs ys : List X) → Within xs ys → list_any p xs ≡ true → list_any p ys ≡ true
  any_within p xs ys to h = let one = passed p xs h in passes_any p ys one.one (to one.one one.within) one.passes

  filter_has : (p : X → Bool) (xs : List X) (x : X) → Contains xs x → p x ≡ true → Contains (filter p xs) x
  filter_has p [] x none holds = absurd (omega (arith, none.1))
  filter_has p (k ∷ xs) x h holds = elim (cases_Bool (p k)) [
    | inl passes ↦
        subst (λ (l : List X). Contains l x) (sym (cond-true (p k) (k ∷ filter p xs) (filter p xs) passes))
        (elim (first_or_later k xs x h) [
          | inl same ↦ subst (Contains (k ∷ filter p xs)) same (here k (filter p xs))
          | inr more ↦ later k (filter p xs) x (filter_has p xs x more holds)
        ])
    | inr fails ↦
        subst (λ (l : List X). Contains l x) (sym (cond-false (p k) (k ∷ filter p xs) (filter p xs) fails))
        (elim (first_or_later k xs x h) [
          | inl same ↦ absurd (false≢true (sym fails ∙ (ap p same ∙ holds)))
          | inr more ↦ filter_has p xs x more holds
        ])
  ]

  filter_had : (p : X → Bool) (xs : List X) (x : X) → Contains (filter p xs) x → Contains xs x × (p x ≡ true)
  filter_had p [] x none = absurd (omega (arith, none.1))
  filter_had p (k ∷ xs) x h = elim (cases_Bool (p k)) [
    | inl passes ↦
        elim (first_or_later k (filter p xs) x
        (subst (λ (l : List X). Contains l x) (cond-true (p k) (k ∷ filter p xs) (filter p xs) passes) h)) [
          | inl same ↦ (subst (Contains (k ∷ xs)) same (here k xs), ap p (sym same) ∙ passes)
          | inr more ↦ let rest = filter_had p xs x more in (later k xs x rest.0, rest.1)
        ]
    | inr fails ↦
        let rest = filter_had p xs x
        (subst (λ (l : List X). Contains l x) (cond-false (p k) (k ∷ filter p xs) (filter p xs) fails) h) in
        (later k xs x rest.0, rest.1)
  ]

module _ {X Y : Type 0} (f : X → List Y) where
  pub record From (xs : List X) (y : Y) : Type 0 where
    pub source : X
    pub within : Contains xs source
    pub has : Contains (f source) y

  flat_from : (xs : List X) (y : Y) → Contains (flat_map f xs) y → From xs y
  flat_from [] y none = absurd (omega (arith, none.1))
  flat_from (x ∷ xs) y h = elim (Contains-append_cases (f x) (flat_map f xs) y h) [
    | inl first ↦ record { source = x; within = here x xs; has = first }
    | inr more ↦
        let rest = flat_from xs y more in
        record { source = rest.source; within = later x xs rest.source rest.within; has = rest.has }
  ]

  flat_has : (xs : List X) (x : X) (y : Y) → Contains xs x → Contains (f x) y → Contains (flat_map f xs) y
  flat_has [] x y none h = absurd (omega (arith, none.1))
  flat_has (k ∷ xs) x y within h = elim (first_or_later k xs x within) [
    | inl same ↦
        Contains-append_left (f k) (flat_map f xs) y (subst (λ (z : X). Contains (f z) y) (sym same) h)
    | inr more ↦ Contains-append_right (f k) (flat_map f xs) y (flat_has xs x y more h)
  ]

-- ---- how many distinct numbers there are

distinct_is : (xs : List ℕ) → distinct_count nat_eq xs ≡ len (from_list {R = nat_cmp} xs)
distinct_is [] = sym (len-empty nat_cmp)
distinct_is (x ∷ xs) =
    let at : is_member nat_eq xs x ≡ contains (from_list {R = nat_cmp} xs) x =
    sym (contains-from_list nat_cmp_total xs x ∙ λ i. list_any (λ y. unsigned_tied x y i) xs) in
    grown (is_member nat_eq xs x) (distinct_is xs) ∙
    (ap (λ (b : Bool). cond b (len (from_list {R = nat_cmp} xs)) (len (from_list {R = nat_cmp} xs) + 1)) at ∙
    sym (len-insert nat_cmp_total (from_list xs) x))
  where
    grown : (b : Bool) → distinct_count nat_eq xs ≡ len (from_list {R = nat_cmp} xs) →
        length (cond b (unique_keys nat_eq xs) (x ∷ unique_keys nat_eq xs))
        ≡ cond b (len (from_list {R = nat_cmp} xs)) (len (from_list {R = nat_cmp} xs) + 1)
    grown true e = e
    grown false e = omega (arith, e)

distinct_same : (xs ys : List ℕ) → HaveSameElements xs ys → distinct_count nat_eq xs ≡ distinct_count nat_eq ys
distinct_same xs ys same =
    let members : (q : ℕ) → contains (from_list {R = nat_cmp} xs) q ≡ contains (from_list {R = nat_cmp} ys) q =
    λ q. contains-from_list nat_cmp_total xs q ∙
    (same_truth _ _ (any_within (eq_by_cmp nat_cmp q) xs ys (λ x. (same x).0))
    (any_within (eq_by_cmp nat_cmp q) ys xs (λ x. (same x).1)) ∙ sym (contains-from_list nat_cmp_total ys q)) in
    distinct_is xs ∙
    (ap len (same_set nat_cmp_total nat_cmp-IsAntisymmetric (from_list xs) (from_list ys) members) ∙ sym (distinct_is ys))

-- ---- who is accused

votes_within : {S D C P G : Type 0} (rules : Rules S D C P G) (ms ks : List (Activity S D C P G)) → Within ms ks →
    Within (valid_votes rules ms) (valid_votes rules ks)
votes_within rules ms ks to v h =
    let kept = filter_had (is_valid rules) (flat_map (votes_in rules.listed) ms) v h in
    let one = flat_from (votes_in rules.listed) ms v kept.0 in
    filter_has (is_valid rules) (flat_map (votes_in rules.listed) ks) v
    (flat_has (votes_in rules.listed) ks one.source v (to one.source one.within) one.has) kept.1

accused_within : {D G : Type 0} (eq : D → D → Bool) (vs ws : List (SignedVote D G)) → Within vs ws → (n : Accusation) →
    is_accused eq vs n ≡ true → is_accused eq ws n ≡ true
accused_within eq vs ws to n h =
    let first = passed (λ v. is_of n.round n.signer v && list_any (contradicts eq n.kind v) vs) vs h in
    let both = and_parts (is_of n.round n.signer first.one) (list_any (contradicts eq n.kind first.one) vs) first.passes in
    passes_any (λ v. is_of n.round n.signer v && list_any (contradicts eq n.kind v) ws) ws first.one
    (to first.one first.within) (and_from (is_of n.round n.signer first.one)
    (list_any (contradicts eq n.kind first.one) ws) both.0
    (any_within (contradicts eq n.kind first.one) vs ws to both.1))

accused_same : {D G : Type 0} (eq : D → D → Bool) (vs ws : List (SignedVote D G)) → HaveSameElements vs ws →
    (n : Accusation) → is_accused eq vs n ≡ is_accused eq ws n
accused_same eq vs ws same n =
    same_truth _ _ (accused_within eq vs ws (λ v. (same v).0) n) (accused_within eq ws vs (λ v. (same v).1) n)

-- how many are accused in a round
count_same : {D G : Type 0} (eq : D → D → Bool) (vs ws : List (SignedVote D G)) → HaveSameElements vs ws → (round : Round) →
    accused_count eq vs round ≡ accused_count eq ws round
count_same {D} {G} eq vs ws same round =
    distinct_same (filter (is_accused_in eq vs round) (signers vs)) (filter (is_accused_in eq ws round) (signers ws))
    (λ s. (half vs ws same s, half ws vs (λ v. ((same v).1, (same v).0)) s))
  where
    signers : List (SignedVote D G) → List ℕ
    signers xs = map (λ v. v.signer) xs

    half : (xs ys : List (SignedVote D G)) → HaveSameElements xs ys → (s : ℕ) →
        Contains (filter (is_accused_in eq xs round) (signers xs)) s →
        Contains (filter (is_accused_in eq ys round) (signers ys)) s
    half xs ys alike s h =
        let kept = filter_had (is_accused_in eq xs round) (signers xs) s h in
        let is : (kind : EquivocationKind) → is_accused eq xs (record { round = round; signer = s; kind = kind })
        ≡ is_accused eq ys (record { round = round; signer = s; kind = kind }) =
        λ kind. accused_same eq xs ys alike (record { round = round; signer = s; kind = kind }) in
        let in_round : is_accused_in eq xs round s ≡ is_accused_in eq ys round s =
        λ i. is Conflicting_notarize i || (is Conflicting_finalize i || is Nullify_finalize i) in
        filter_has (is_accused_in eq ys round) (signers ys) s ((same_mapped (λ v. v.signer) xs ys alike s).0 kept.0)
        (sym in_round ∙ kept.1)

-- ---- which rounds are split

module _ {S D C P G : Type 0} (rules : Rules S D C P G) where
  split_within : (ms ks : List (Activity S D C P G)) → Within ms ks → (round : Round) → is_split rules ms round ≡ true →
      is_split rules ks round ≡ true
  split_within ms ks to round h =
      let test : Activity S D C P G → Bool =
      λ m. same_round (activity_round m) round && is_certified_message rules m in
      let other : Activity S D C P G → Activity S D C P G → Bool =
      λ m k. is_certified_message rules k && messages_contradict rules.eq m k in
      let first = passed (λ m. test m && list_any (other m) ms) ms h in
      let both = and_parts (test first.one) (list_any (other first.one) ms) first.passes in
      passes_any (λ m. test m && list_any (other m) ks) ks first.one (to first.one first.within)
      (and_from (test first.one) (list_any (other first.one) ks) both.0 (any_within (other first.one) ms ks to both.1))

  -- the splits of messages are those of others that are the same
  splits_same : (ms ks : List (Activity S D C P G)) (splits : List Split) → HaveSameElements ms ks →
      AreSplits rules ks splits → AreSplits rules ms splits
  splits_same ms ks splits same are =
      let is : (round : Round) → is_split rules ms round ≡ is_split rules ks round =
      λ round. same_truth _ _ (split_within ms ks (λ m. (same m).0) round) (split_within ks ms (λ m. (same m).1) round) in
      let count : (round : Round) →
      accused_count rules.eq (valid_votes rules ms) round ≡ accused_count rules.eq (valid_votes rules ks) round =
      count_same rules.eq (valid_votes rules ms) (valid_votes rules ks)
      (λ v. (votes_within rules ms ks (λ m. (same m).0) v, votes_within rules ks ms (λ m. (same m).1) v)) in
      let split : (round : Round) → split_of rules ms round ≡ split_of rules ks round = λ round i.
      if is round i
      then Some (record { round = round; named = count round i; least = faults_of (rules.size round.epoch) + 1 })
      else None in
      record {
        ordered = are.ordered;
        sound = All-weaker (λ s. split_of rules ks s.round ≡ Some s) (λ s. split_of rules ms s.round ≡ Some s)
            (λ s e. split s.round ∙ e) splits are.sound;
        complete = λ round h. are.complete round (sym (is round) ∙ h);
      }

-- ---- reports

pub accuse_same : {S D C P G : Type 0} (basis : Basis S D C P G) → IsLawful basis.format →
    ((vs : List (SignedVote D G)) (es : List (Equivocation D G)) → IsEvidence basis.rules.eq vs es →
    AccusesExactly basis.rules.eq vs es) →
    ((ms : List (Activity S D C P G)) (splits : List Split) → AreSplits basis.rules ms splits →
    SplitsAreUnique basis.rules ms splits) →
    (stream other : List ℕ) → HaveSameMessages basis.format stream other → AccuseSame basis stream other
accuse_same {S} {D} {C} {P} {G} basis law names only stream other same report its one two =
    let first : one.messages ≡ same.messages =
    (messages_once basis.format law stream one.rest same.rest one.messages same.messages one.are_messages
    same.are_messages).0 in
    let second : two.messages ≡ same.others =
    (messages_once basis.format law other two.rest same.left two.messages same.others two.are_messages same.are_others).0 in
    let messages : HaveSameElements one.messages two.messages = λ m. (
      λ h. subst (λ (l : List (Activity S D C P G)). Contains l m) (sym second)
          ((same.same m).0 (subst (λ (l : List (Activity S D C P G)). Contains l m) first h)),
      λ h. subst (λ (l : List (Activity S D C P G)). Contains l m) (sym first)
          ((same.same m).1 (subst (λ (l : List (Activity S D C P G)). Contains l m) second h)),
    ) in
    record {
      accused = same_order accused_cmp accused_total exact_accused (map accused_by (evidence_in report))
          (map accused_by (evidence_in its)) one.evidence_is.ordered two.evidence_is.ordered (λ n. (
            half one.messages two.messages (evidence_in report) (evidence_in its) one.evidence_is two.evidence_is
                (λ m. (messages m).0) n,
            half two.messages one.messages (evidence_in its) (evidence_in report) two.evidence_is one.evidence_is
                (λ m. (messages m).1) n,
          ));
      splits = only one.messages report.splits.items one.splits_are its.splits.items
          (splits_same basis.rules one.messages two.messages its.splits.items messages two.splits_are);
    }
  where
    half : (ms ks : List (Activity S D C P G)) (es fs : List (Equivocation D G)) →
        IsEvidence basis.rules.eq (valid_votes basis.rules ms) es → IsEvidence basis.rules.eq (valid_votes basis.rules ks) fs →
        Within ms ks → (n : Accusation) → Contains (map accused_by es) n → Contains (map accused_by fs) n
    half ms ks es fs evidence others to n h =
        (names (valid_votes basis.rules ks) fs others n).1
        (accused_within basis.rules.eq (valid_votes basis.rules ms) (valid_votes basis.rules ks)
        (votes_within basis.rules ms ks to) n ((names (valid_votes basis.rules ms) es evidence n).0 h))
