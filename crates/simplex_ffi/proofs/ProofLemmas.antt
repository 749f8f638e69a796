-- One piece of evidence, verified by itself.
use Rattle.std.proofs.Common.{◌≡◌, ◌==◌, ◌&&◌, ◌||◌, ℕ, Bool, true, false, not, cond, List, [], ◌∷◌, ◌++◌, Option, Some, None, IsTrue, refl, sym, ap, subst, ◌∙◌, arith, inl, inr}
use Rattle.std.specs.Prelude.{filter, option_map}
use Rattle.std.proofs.lemmas.Bool.Decides.{nat_tests}
use Rattle.std.proofs.lemmas.Bool.{and_parts, eqb-true}
use Rattle.std.proofs.lemmas.Option.{same_Some}
use Rattle.simplex_base.specs.Format.{Format}
use Rattle.simplex_base.specs.Positions.{Round, same_round}
use Rattle.simplex_scheme.specs.Committees.{Schedule, committee_of, valid_by}
use Rattle.simplex_evidence.specs.Activity.{IsActivity, contents_of}
use Rattle.simplex_evidence.specs.Conflict.{finalize_evidence, notarize_evidence, nullify_evidence}
use Rattle.simplex_evidence.specs.Contents.{AreInConflict, ContentsValue, TwoVotes, contents_round, contents_verify, contents_votes}
use Rattle.simplex_evidence.specs.declared.types.activity.Activity.{Activity}
use Rattle.simplex_evidence.specs.declared.types.activity.Activity.TheVariants as activity
use Rattle.simplex_rules.specs.Rules.{Rules, is_valid, valid_votes}
use Rattle.simplex_rules.specs.Scheme.{Scheme, rules_of}
use Rattle.simplex_audit.specs.Basis.{Basis}
use Rattle.simplex_ffi.specs.Proof.{IsJudged, IsMessageJudged, accusation_by, are_valid, equivocation_of}
use Rattle.simplex_ffi.specs.declared.proof.Accusation.{Accusation}
use Rattle.simplex_scheme.specs.Subject.{SubjectValue, Notarizes, Nullifies, Finalizes, round_of}
use Rattle.simplex_scheme.specs.declared.proposal.Proposal.{Proposal}
use Rattle.simplex_votes.specs.Votes.{SignedVote, is_of, same_proposal}
use Rattle.simplex_evidence.specs.Contradiction.{EquivocationKind, Conflicting_notarize, Conflicting_finalize, Nullify_finalize, Equivocation, clash, contradicts}
use Rattle.simplex_rules.specs.Accusation.{accused_by, is_accused}

-- a number is itself
number_same : (n : ℕ) → (n == n) ≡ true
number_same n = grind (arith, nat_tests)

-- a round is itself
round_same : (r : Round) → same_round r r ≡ true
round_same r = rw (number_same r.epoch, number_same r.view) refl

-- nothing and false
and_false : (a : Bool) → (a && false) ≡ false
and_false true = refl
and_false false = refl

-- anything or true
or_true : (a : Bool) → (a || true) ≡ true
or_true true = refl
or_true false = refl

module _ {D : Type 0} (eq : D → D → Bool) (itself : (d : D) → eq d d ≡ true) where
  -- a proposal is itself
  proposal_same : (p : Proposal D) → same_proposal eq p p ≡ true
  proposal_same p = rw (round_same p.round, number_same p.parent, itself p.payload) refl

  -- no subject clashes with itself
  no_clash : (kind : EquivocationKind) (x : SubjectValue D) → clash eq kind x x ≡ false
  no_clash Conflicting_notarize (Notarizes p) = ap not (proposal_same p)
  no_clash Conflicting_notarize (Nullifies r) = refl
  no_clash Conflicting_notarize (Finalizes p) = refl
  no_clash Conflicting_finalize (Notarizes p) = refl
  no_clash Conflicting_finalize (Nullifies r) = refl
  no_clash Conflicting_finalize (Finalizes p) = ap not (proposal_same p)
  no_clash Nullify_finalize (Notarizes p) = refl
  no_clash Nullify_finalize (Nullifies r) = refl
  no_clash Nullify_finalize (Finalizes p) = refl

  module _ {G : Type 0} where
    -- no vote contradicts itself
    no_contradiction : (kind : EquivocationKind) (v : SignedVote D G) → contradicts eq kind v v ≡ false
    no_contradiction kind v = rw (no_clash kind v.subject) (and_false _)

    -- a vote is of its round and signer
    of_itself : (v : SignedVote D G) → is_of (round_of v.subject) v.signer v ≡ true
    of_itself v = rw (round_same (round_of v.subject), number_same v.signer) refl

    -- one vote accuses nobody
    one_vote : (kind : EquivocationKind) (round : Round) (signer : ℕ) (v : SignedVote D G) →
        is_accused eq (v ∷ []) (record { round = round; signer = signer; kind = kind }) ≡ false
    one_vote kind round signer v = rw (no_contradiction kind v) (none (is_of round signer v))
      where
        none : (a : Bool) → ((a && false) || false) ≡ false
        none true = refl
        none false = refl

    -- two votes that contradict accuse their signer exactly if both are valid
    pub accused_alone : (valid : SignedVote D G → Bool) (e : Equivocation D G) →
        IsTrue (contradicts eq e.kind e.first e.second) →
        is_accused eq (filter valid (e.first ∷ e.second ∷ [])) (accused_by e) ≡ (valid e.first && valid e.second)
    accused_alone valid e contradict = by (valid e.first) (valid e.second)
      where
        by : (a b : Bool) →
            is_accused eq (cond a (e.first ∷ cond b (e.second ∷ []) []) (cond b (e.second ∷ []) [])) (accused_by e)
            ≡ (a && b)
        by true true = rw (of_itself e.first, contradict) (two (clash eq e.kind e.first.subject e.first.subject) _)
          where
            two : (a b : Bool) → ((a || true) || b) ≡ true
            two true b = refl
            two false b = refl
        by true false = one_vote e.kind (round_of e.first.subject) e.first.signer e.first
        by false true = one_vote e.kind (round_of e.first.subject) e.first.signer e.second
        by false false = refl

-- ---- messages that are evidence

-- what such a message holds
pub two_votes : (S P : Type 0) {D C G : Type 0} (m : Activity S D C P G) (e : Equivocation D G) →
    equivocation_of m ≡ Some e → contents_of m ≡ TwoVotes e.first e.second
two_votes S P (activity.Notarize v) e is = absurd cc
two_votes S P (activity.Notarization n) e is = absurd cc
two_votes S P (activity.Certification n) e is = absurd cc
two_votes S P (activity.Nullify v) e is = absurd cc
two_votes S P (activity.Nullification n) e is = absurd cc
two_votes S P (activity.Finalize v) e is = absurd cc
two_votes S P (activity.Finalization n) e is = absurd cc
two_votes S P {D} {C} {G} (activity.ConflictingNotarize c) e is =
    ap {B = ContentsValue D C G} (λ (x : Equivocation D G). TwoVotes x.first x.second) (same_Some (notarize_evidence c) e is)
two_votes S P {D} {C} {G} (activity.ConflictingFinalize c) e is =
    ap {B = ContentsValue D C G} (λ (x : Equivocation D G). TwoVotes x.first x.second) (same_Some (finalize_evidence c) e is)
two_votes S P {D} {C} {G} (activity.NullifyFinalize c) e is =
    ap {B = ContentsValue D C G} (λ (x : Equivocation D G). TwoVotes x.first x.second) (same_Some (nullify_evidence c) e is)

-- its votes contradict
pub they_contradict : (S P : Type 0) {D C G : Type 0} (eq : D → D → Bool) (payload : Format D) (is_certificate : C → Type 0)
    (signature : Format G) (m : Activity S D C P G) (e : Equivocation D G) →
    IsActivity eq payload is_certificate signature m → equivocation_of m ≡ Some e →
    IsTrue (contradicts eq e.kind e.first e.second)
they_contradict S P eq payload is_certificate signature (activity.Notarize v) e value is = absurd cc
they_contradict S P eq payload is_certificate signature (activity.Notarization n) e value is = absurd cc
they_contradict S P eq payload is_certificate signature (activity.Certification n) e value is = absurd cc
they_contradict S P eq payload is_certificate signature (activity.Nullify v) e value is = absurd cc
they_contradict S P eq payload is_certificate signature (activity.Nullification n) e value is = absurd cc
they_contradict S P eq payload is_certificate signature (activity.Finalize v) e value is = absurd cc
they_contradict S P eq payload is_certificate signature (activity.Finalization n) e value is = absurd cc
they_contradict S P {D} {C} {G} eq payload is_certificate signature (activity.ConflictingNotarize c) e value is =
    subst (λ (x : Equivocation D G). IsTrue (contradicts eq x.kind x.first x.second)) (same_Some (notarize_evidence c) e is)
    value.1
they_contradict S P {D} {C} {G} eq payload is_certificate signature (activity.ConflictingFinalize c) e value is =
    subst (λ (x : Equivocation D G). IsTrue (contradicts eq x.kind x.first x.second)) (same_Some (finalize_evidence c) e is)
    value.1
they_contradict S P {D} {C} {G} eq payload is_certificate signature (activity.NullifyFinalize c) e value is =
    subst (λ (x : Equivocation D G). IsTrue (contradicts eq x.kind x.first x.second)) (same_Some (nullify_evidence c) e is)
    value.1

-- both are of one epoch
pub one_epoch : {D G : Type 0} (eq : D → D → Bool) (kind : EquivocationKind) (v w : SignedVote D G) →
    IsTrue (contradicts eq kind v w) → (round_of w.subject).epoch ≡ (round_of v.subject).epoch
one_epoch eq kind v w contradict =
    let first = and_parts (is_of (round_of v.subject) v.signer w) (clash eq kind v.subject w.subject) contradict in
    let second = and_parts (same_round (round_of w.subject) (round_of v.subject)) (w.signer == v.signer) first.0 in
    let third = and_parts ((round_of w.subject).epoch == (round_of v.subject).epoch)
    ((round_of w.subject).view == (round_of v.subject).view) second.0 in
    eqb-true _ _ third.0

-- the committee of that epoch judges both
pub both_judged : {S D C P G : Type 0} (scheme : Scheme S D C P G) (schedule : Schedule S) (v w : SignedVote D G)
    (o : Option S) → committee_of schedule (round_of v.subject).epoch ≡ o →
    (round_of w.subject).epoch ≡ (round_of v.subject).epoch →
    (is_valid (rules_of scheme schedule) v && is_valid (rules_of scheme schedule) w)
    ≡ (valid_by scheme.good o v.subject v.signer v.signature && valid_by scheme.good o w.subject w.signer w.signature)
both_judged {S} scheme schedule v w o is same =
    let also : committee_of schedule (round_of w.subject).epoch ≡ o =
    ap (λ (n : ℕ). committee_of schedule n) same ∙ is in
    ap (λ (p : Option S). valid_by scheme.good p v.subject v.signer v.signature
    && valid_by scheme.good (committee_of schedule (round_of w.subject).epoch) w.subject w.signer w.signature) is
    ∙ ap (λ (p : Option S). valid_by scheme.good o v.subject v.signer v.signature
    && valid_by scheme.good p w.subject w.signer w.signature) also

-- how a committee, if there is one, judges what a message holds
abbrev pub judged_by : {S D C P G : Type 0} → Scheme S D C P G → Option S → ContentsValue D C G → Bool
judged_by scheme None held = false
judged_by scheme (Some committee) held = contents_verify (scheme.good committee) (scheme.certified committee) held

-- the committee of its epoch judges an evidence as the rules do
pub proved_by : {S D C P G : Type 0} (scheme : Scheme S D C P G) (schedule : Schedule S) (held : ContentsValue D C G)
    (e : Equivocation D G) (o : Option S) → held ≡ TwoVotes e.first e.second → AreInConflict scheme.eq held →
    committee_of schedule (contents_round held).epoch ≡ o →
    are_valid (rules_of scheme schedule) e ≡ judged_by scheme o held
proved_by {S} {D} {C} {P} {G} scheme schedule held e o same conflict is =
    subst (λ (h : ContentsValue D C G). AreInConflict scheme.eq h → committee_of schedule (contents_round h).epoch ≡ o →
    are_valid (rules_of scheme schedule) e ≡ judged_by scheme o h) (sym same) (λ conflict is. by o conflict is) conflict is
  where
    by : (o : Option S) → AreInConflict {C = C} scheme.eq (TwoVotes e.first e.second) →
        committee_of schedule (round_of e.first.subject).epoch ≡ o →
        are_valid (rules_of scheme schedule) e ≡ judged_by scheme o (TwoVotes e.first e.second)
    by None conflict is =
        both_judged scheme schedule e.first e.second None is (one_epoch scheme.eq conflict.0 e.first e.second conflict.1)
    by (Some committee) conflict is =
        both_judged scheme schedule e.first e.second (Some committee) is
        (one_epoch scheme.eq conflict.0 e.first e.second conflict.1)

-- the accusation of a message that is evidence
pub accusation_found : {D G : Type 0} (o : Option (Equivocation D G)) (one : Accusation) (proved : Bool)
    (valid : Equivocation D G → Bool) → Some one ≡ option_map (accusation_by proved) o →
    ((e : Equivocation D G) → o ≡ Some e → proved ≡ valid e) →
    (e : Equivocation D G) × (o ≡ Some e) × (one ≡ accusation_by (valid e) e)
accusation_found None one proved valid is each = absurd cc
accusation_found (Some e) one proved valid is each =
    (e, refl, same_Some _ _ is ∙ ap (λ (p : Bool). accusation_by p e) (each e refl))

-- without an accusation the message is no evidence
pub none_found : {D G : Type 0} (o : Option (Equivocation D G)) (proved : Bool) →
    None ≡ option_map (accusation_by proved) o → o ≡ None
none_found None proved is = refl
none_found (Some e) proved is = absurd cc

-- the bytes of a message are judged as the message is
pub judged_bytes : {S D C P G : Type 0} (basis : Basis S D C P G) (bytes : List ℕ) (m : Activity S D C P G)
    (old new : Accusation) (status : ℕ) → basis.format.is_value m → bytes ≡ basis.format.encoding m →
    ((x : Activity S D C P G) → basis.format.is_value x → bytes ≡ basis.format.encoding x → x ≡ m) →
    ((e : Equivocation D G) → equivocation_of m ≡ Some e → IsTrue (contradicts basis.rules.eq e.kind e.first e.second)) →
    ((e : Equivocation D G) → equivocation_of m ≡ Some e →
    is_accused basis.rules.eq (valid_votes basis.rules (m ∷ [])) (accused_by e) ≡ are_valid basis.rules e) →
    IsMessageJudged basis.rules m old new status → IsJudged basis bytes old new status
unfolding IsMessageJudged IsJudged
judged_bytes basis bytes m old new status value is only contradict accuses (inl (e, same, found, zero)) = inl (
  record {
    message = m;
    value = value;
    bytes_are = is;
    evidence = e;
    evidence_is = same;
    contradict = contradict e same;
    accusation_is = found;
    accuses = accuses e same;
  },
  zero,
)
judged_bytes {S} {D} {C} {P} {G} basis bytes m old new status value is only contradict accuses (inr (none, stays, one)) = inr (
  λ x e fits also same. Some≢None e (sym same ∙ (ap (λ (y : Activity S D C P G). equivocation_of y) (only x fits also) ∙ none)),
  one,
  stays,
)
  where
    Some≢None : (e : Equivocation D G) → Some e ≡ None → ⊥
    Some≢None e same = absurd cc

-- the message alone accuses the signer exactly if both votes are valid
pub message_accuses : (S P : Type 0) {D C G : Type 0} (rules : Rules S D C P G) → ((d : D) → rules.eq d d ≡ true) →
    (m : Activity S D C P G) (e : Equivocation D G) → equivocation_of m ≡ Some e →
    IsTrue (contradicts rules.eq e.kind e.first e.second) →
    is_accused rules.eq (valid_votes rules (m ∷ [])) (accused_by e) ≡ are_valid rules e
message_accuses S P {D} {C} {G} rules itself m e is contradict =
    ap (λ (h : ContentsValue D C G). is_accused rules.eq (filter (is_valid rules) (contents_votes rules.listed h ++ []))
    (accused_by e)) (two_votes S P m e is)
    ∙ accused_alone rules.eq itself (is_valid rules) e contradict
