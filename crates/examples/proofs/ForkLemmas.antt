-- Who is accused where two finalizations contradict.
use Rattle.std.proofs.Common.{◌≡◌, ℕ, Bool, true, false, List, [], ◌∷◌, ◌++◌, sym, refl, ap, subst, ◌∙◌, inl, inr, arith}
use Rattle.std.specs.Prelude.{◌||◌, All, Contains, IsTrue, Some}
use Rattle.std.specs.List.{flat_map}
use Rattle.std.proofs.lemmas.Bool.{cases_Bool}
use Rattle.std.proofs.lemmas.List.{append-nil}
use Rattle.std.proofs.lemmas.List.Elements.{All-cons, All-nil}
use Rattle.simplex_base.specs.Format.{Format}
use Rattle.simplex_base.specs.Positions.{Round}
use Rattle.simplex_votes.specs.Encodings.{IsFinalization}
use Rattle.simplex_votes.specs.Votes.{SignedVote}
use Rattle.simplex_evidence.specs.Contradiction.{EquivocationKind, Equivocation, Conflicting_notarize, Conflicting_finalize, Nullify_finalize}
use Rattle.simplex_scheme.specs.Committees.{bound_of}
use Rattle.simplex_rules.specs.Evidence.{IsEvidence}
use Rattle.simplex_rules.specs.Laws.{AccusesExactly}
use Rattle.simplex_rules.specs.Accusation.{is_accused}
use Rattle.simplex_rules.specs.Rules.{Rules, valid_votes}
use Rattle.simplex_rules.specs.Splits.{is_accused_in}
use Rattle.simplex_rules.specs.SplitLaws.{IsAccountable, shared_signers}
use Rattle.simplex_evidence.specs.declared.types.activity.Activity.{Activity}
use Rattle.simplex_stream.specs.Messages.{AreMessages}
use Rattle.simplex_votes.specs.declared.types.finalization.Finalization.{Finalization}
use Rattle.examples.specs.declared.light_client.Followed.{Followed}
use Rattle.examples.specs.declared.light_client.Followed.TheVariants as followed
use Rattle.examples.specs.Following.{Following, latest_after, BlamesEnough}

-- who is accused in a round is accused there for some kind of contradiction
kind_of_accused : {D G : Type 0} (eq : D → D → Bool) (vs : List (SignedVote D G)) (round : Round) (q : ℕ) →
    is_accused_in eq vs round q ≡ true →
    (kind : EquivocationKind) × IsTrue (is_accused eq vs (record { round = round; signer = q; kind = kind }))
kind_of_accused eq vs round q h =
    elim (cases_Bool (is_accused eq vs (record { round = round; signer = q; kind = Conflicting_notarize }))) [
      | inl a ↦ (Conflicting_notarize, a)
      | inr a ↦
          elim (cases_Bool (is_accused eq vs (record { round = round; signer = q; kind = Conflicting_finalize }))) [
            | inl b ↦ (Conflicting_finalize, b)
            | inr b ↦ (Nullify_finalize, third _ _ _ a b h)
          ]
    ]
  where
    third : (a b c : Bool) → a ≡ false → b ≡ false → (a || (b || c)) ≡ true → c ≡ true
    third a b c first second h = sym (ap (λ x. x || (b || c)) first ∙ ap (λ x. x || c) second) ∙ h

-- evidence that accuses exactly whom the votes accuse accuses every signer of both of two certificates
pub blames : {S D C P G : Type 0} (rules : Rules S D C P G) (messages : List (Activity S D C P G)) (round : Round) (c d : C)
    (es : List (Equivocation D G)) →
    AccusesExactly rules.eq (valid_votes rules messages) es → IsAccountable rules messages round c d →
    BlamesEnough (rules.size round.epoch) round es
blames rules messages round c d es names accountable = record {
  signers = shared_signers rules c d;
  distinct = accountable.distinct;
  enough = omega (arith, accountable.many, accountable.more_than_faults);
  blamed = λ k q lt.
      let (kind, named) = kind_of_accused rules.eq (valid_votes rules messages) round _ (accountable.accused k q lt) in
      (kind, (names (record { round = round; signer = _; kind = kind })).1 named);
}

-- the evidence of the votes of some messages is that of the same messages
pub evidence_of_same : {S D C P G : Type 0} (rules : Rules S D C P G) (given wanted : List (Activity S D C P G))
    (es : List (Equivocation D G)) → given ≡ wanted →
    IsEvidence rules.eq (valid_votes rules given) es → IsEvidence rules.eq (valid_votes rules wanted) es
evidence_of_same {S} {D} {C} {P} {G} rules given wanted es same is =
    subst (λ (ms : List (Activity S D C P G)). IsEvidence rules.eq (valid_votes rules ms) es) same is

-- a finalization under the bound of the committees inside is one under that of the client's committees
pub value_outside : {S D C P G : Type 0} (payload : Format D) (fits : ℕ → C → Type 0) (keys : S → List P)
    (inside before : Following S D C P G) (f : Finalization S D C P G) → inside ≡ before →
    IsFinalization payload (fits (bound_of keys inside.committees)) f →
    IsFinalization payload (fits (bound_of keys before.committees)) f
value_outside {S} {D} {C} {P} {G} payload fits keys inside before f is value =
    subst (λ (b : Following S D C P G). IsFinalization payload (fits (bound_of keys b.committees)) f) is value

-- a list of two, and what it contains
pub first_of_two : {X : Type 0} (x y : X) → Contains (x ∷ y ∷ []) x
first_of_two x y = (0, omega arith, refl)

pub second_of_two : {X : Type 0} (x y : X) → Contains (x ∷ y ∷ []) y
second_of_two x y = (1, omega arith, refl)

-- what holds of both of two
pub both_of_two : {X : Type 0} (P : X → Type 0) (x y : X) → P x → P y → All P (x ∷ y ∷ [])
both_of_two P x y a b = All-cons P x (y ∷ []) a (All-cons P y [] b (All-nil P))

-- the empty list has no first element
pub nothing_first : {X : Type 0} (x : X) (xs : List X) → [] ≡ x ∷ xs → ⊥
nothing_first x xs is = absurd cc

-- a stream of two messages
pub two_messages : {M : Type 0} (format : Format M) (x y : M) (stream : List ℕ) → format.is_value x → format.is_value y →
    ((m : M) (more : List ℕ) → [] ≡ format.encoding m ++ more → ⊥) → stream ≡ format.encoding x ++ format.encoding y →
    AreMessages format stream (x ∷ y ∷ []) []
two_messages format x y stream one other filled is = record {
  whole = is ∙ sym
      (append-nil (flat_map format.encoding (x ∷ y ∷ [])) ∙ ap (λ r. format.encoding x ++ r) (append-nil (format.encoding y)));
  each = both_of_two format.is_value x y one other;
  stuck = λ m more value is_front. filled m more is_front;
}

-- what a client follows after it has taken a finalization
pub taken_now : {S D C P G : Type 0} (inside before after : Following S D C P G) (f : Finalization S D C P G)
    (answer : Followed S D P G) → inside ≡ before → answer ≡ followed.Taken → after.committees ≡ inside.committees →
    after.latest ≡ Some f → after ≡ record { committees = before.committees; latest = latest_after before.latest f answer }
taken_now {S} {D} {C} {P} {G} inside before after f answer is taken committees latest =
    let committees_are : after.committees ≡ before.committees =
    committees ∙ ap (λ (b : Following S D C P G). b.committees) is in
    let latest_is : after.latest ≡ latest_after before.latest f answer =
    latest ∙ sym (ap (λ a. latest_after before.latest f a) taken) in
    λ i. record { committees = committees_are i; latest = latest_is i }

-- and after it has not taken it
pub not_taken_now : {S D C P G : Type 0} (before : Following S D C P G) (f : Finalization S D C P G)
    (answer : Followed S D P G) → (answer ≡ followed.Taken → ⊥) →
    before ≡ record { committees = before.committees; latest = latest_after before.latest f answer }
not_taken_now before f followed.Taken never = absurd (never refl)
not_taken_now before f followed.Known never = refl
not_taken_now before f followed.Refused never = refl
not_taken_now before f (followed.Fork evidence) never = refl
