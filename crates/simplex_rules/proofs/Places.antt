-- Where votes are: the tests on rounds, signers, kinds and proposals, which subjects exclude each other, and the orders of a
-- report.
use Rattle.simplex_rules.proofs.Prelude.{SignerInRound, signer_in, Bool, CmpEqualImpliesEq, Conflicting_finalize, Conflicting_notarize, Equal, Finalizes, IsEquivalence, IsTotalOrder, EquivocationKind, Accusation, Notarizes, Nullifies, Nullify_finalize, Proposal, Round, SignedVote, VoteKind, SubjectValue, and_equiv, and_from, and_parts, ap, cases_Bool, clash, eq-eqb, eqb, eqb-true, exact_pairs, exact_unsigned, excludes, false, false_from_ne_true, false≢true, first_kind, inl, inr, is_at, is_eq, is_key, is_of, kind_rank, accused_cmp, nat_cmp, nat_cmp_total, nat_eq_equiv, not, on_equiv, on_total, refl, round_cmp, round_of, same_proposal, same_round, same_kind, second_kind, signer_cmp, kind_of, subst, sym, then_total, tied_itself, true, ℕ, ⊎_elim, ◌∙◌, ◌≡◌, ◌⊎◌}
use Rattle.simplex_scheme.specs.declared.kind.VoteKind.TheVariants as kinds

-- ---- rounds, proposals and kinds

-- rounds that pass the test are equal
pub same_round-true : (a b : Round) → same_round a b ≡ true → a ≡ b
same_round-true a b h =
    let parts = and_parts (eqb a.epoch b.epoch) (eqb a.view b.view) h in
    λ i. record { epoch = eqb-true a.epoch b.epoch parts.0 i; view = eqb-true a.view b.view parts.1 i }

-- the test of rounds is an equivalence
same_round_equiv : IsEquivalence same_round
same_round_equiv = and_equiv (on_equiv (λ (r : Round). r.epoch) nat_eq_equiv) (on_equiv (λ (r : Round). r.view) nat_eq_equiv)

pub same_round-from : (a b : Round) → a ≡ b → same_round a b ≡ true
same_round-from a b e = ap (same_round a) (sym e) ∙ same_round_equiv.refl a

-- so is that of proposals where that of payloads is
pub same_proposal_equiv : {D : Type 0} {eq : D → D → Bool} → IsEquivalence eq → IsEquivalence (same_proposal eq)
same_proposal_equiv {D} l =
    and_equiv (on_equiv (λ (p : Proposal D). p.round) same_round_equiv)
    (and_equiv (on_equiv (λ (p : Proposal D). p.parent) nat_eq_equiv) (on_equiv (λ (p : Proposal D). p.payload) l))

-- kinds that pass the test are equal
pub same_kind-true : (a b : VoteKind) → same_kind a b ≡ true → a ≡ b
same_kind-true kinds.Notarize kinds.Notarize h = refl
same_kind-true kinds.Nullify kinds.Nullify h = refl
same_kind-true kinds.Finalize kinds.Finalize h = refl
same_kind-true _ _ h = absurd (false≢true h)

pub same_kind-refl : (a : VoteKind) → same_kind a a ≡ true
same_kind-refl kinds.Notarize = refl
same_kind-refl kinds.Nullify = refl
same_kind-refl kinds.Finalize = refl

-- ---- where a vote is

-- a vote of a round and signer has that round and signer
pub is_of-true : {D G : Type 0} (r : Round) (s : ℕ) (v : SignedVote D G) → is_of r s v ≡ true →
    (round_of v.subject ≡ r) × (v.signer ≡ s)
is_of-true r s v h =
    let parts = and_parts (same_round (round_of v.subject) r) (eqb v.signer s) h in
    (same_round-true _ _ parts.0, eqb-true _ _ parts.1)

-- a vote is of its round and signer
pub is_of-from : {D G : Type 0} (r : Round) (s : ℕ) (v : SignedVote D G) → round_of v.subject ≡ r → v.signer ≡ s →
    is_of r s v ≡ true
is_of-from r s v p q = and_from (same_round (round_of v.subject) r) (eqb v.signer s) (same_round-from _ _ p) (eq-eqb _ _ q)

-- a kind, a round and a signer
pub record Spot : Type 0 where
  pub kind : VoteKind
  pub round : Round
  pub signer : ℕ

-- the spot of a vote
abbrev pub spot : {D G : Type 0} → SignedVote D G → Spot
spot v = record { kind = kind_of v.subject; round = round_of v.subject; signer = v.signer }

-- a vote that is at a spot has that spot
pub is_at-true : {D G : Type 0} (s : Spot) (v : SignedVote D G) → is_at s.kind s.round s.signer v ≡ true → spot v ≡ s
is_at-true s v h =
    let p = and_parts (same_kind (kind_of v.subject) s.kind) (is_of s.round s.signer v) h in
    let q = is_of-true s.round s.signer v p.1 in
    λ i. record { kind = same_kind-true (kind_of v.subject) s.kind p.0 i; round = q.0 i; signer = q.1 i }

pub is_at-from : {D G : Type 0} (s : Spot) (v : SignedVote D G) → spot v ≡ s → is_at s.kind s.round s.signer v ≡ true
is_at-from s v e =
    subst (λ (t : Spot). is_at t.kind t.round t.signer v ≡ true) e (and_from (same_kind (kind_of v.subject) (kind_of v.subject))
    (is_of (round_of v.subject) v.signer v) (same_kind-refl (kind_of v.subject)) (is_of-from _ _ v refl refl))

-- ---- which subjects exclude each other

-- no subject excludes itself
pub excludes_itself : {D : Type 0} (eq : D → D → Bool) → IsEquivalence eq → (x : SubjectValue D) → excludes eq x x ≡ false
excludes_itself eq l (Notarizes p) = ap not ((same_proposal_equiv l).refl p)
excludes_itself eq l (Nullifies r) = refl
excludes_itself eq l (Finalizes p) = ap not ((same_proposal_equiv l).refl p)

-- exclusion is symmetric
pub excludes-flip : {D : Type 0} (eq : D → D → Bool) → IsEquivalence eq → (x y : SubjectValue D) →
    excludes eq x y ≡ excludes eq y x
excludes-flip eq l (Notarizes p) (Notarizes q) = ap not ((same_proposal_equiv l).symm p q)
excludes-flip eq l (Finalizes p) (Finalizes q) = ap not ((same_proposal_equiv l).symm p q)
excludes-flip eq l (Nullifies r) (Finalizes q) = refl
excludes-flip eq l _ _ = refl

-- any value differs from one of two values that differ
differs_from_one : {X : Type 0} {same : X → X → Bool} → IsEquivalence same → (x y z : X) → not (same y z) ≡ true →
    (not (same x y) ≡ true) ⊎ (not (same x z) ≡ true)
differs_from_one {same = same} l x y z h =
    elim (cases_Bool (same x y)) [ inl e ↦ inr (ap not (l.congr x y z e) ∙ h) | inr e ↦ inl (ap not e) ]

-- so any subject of the first one's kind excludes one of two subjects that exclude each other
pub excludes_one : {D : Type 0} (eq : D → D → Bool) → IsEquivalence eq → (a x y : SubjectValue D) → kind_of a ≡ kind_of x →
    excludes eq x y ≡ true → (excludes eq a x ≡ true) ⊎ (excludes eq a y ≡ true)
excludes_one eq l (Notarizes p) (Notarizes q) (Notarizes r) s h = differs_from_one (same_proposal_equiv l) p q r h
excludes_one eq l (Finalizes p) (Finalizes q) (Finalizes r) s h = differs_from_one (same_proposal_equiv l) p q r h
excludes_one eq l (Finalizes p) (Finalizes q) (Nullifies r) s h = inr refl
excludes_one eq l (Nullifies p) (Nullifies q) (Finalizes r) s h = inr refl
excludes_one eq l _ _ _ s h = absurd cc

-- subjects that clash are of the kinds of the kind, and exclude each other
pub clash_parts : {D : Type 0} (eq : D → D → Bool) (kind : EquivocationKind) (x y : SubjectValue D) → clash eq kind x y ≡ true →
    (kind_of x ≡ first_kind kind) × (kind_of y ≡ second_kind kind) × (excludes eq x y ≡ true)
clash_parts eq kind x y h =
    let p = and_parts (same_kind (kind_of x) (first_kind kind)) _ h in
    let q = and_parts (same_kind (kind_of y) (second_kind kind)) (excludes eq x y) p.1 in
    (same_kind-true _ _ p.0, same_kind-true _ _ q.0, q.1)

clash_from : {D : Type 0} (eq : D → D → Bool) (kind : EquivocationKind) (x y : SubjectValue D) → kind_of x ≡ first_kind kind →
    kind_of y ≡ second_kind kind → excludes eq x y ≡ true → clash eq kind x y ≡ true
clash_from eq kind x y s t h =
    and_from _ _ (ap (same_kind (kind_of x)) (sym s) ∙ same_kind-refl (kind_of x))
    (and_from _ _ (ap (same_kind (kind_of y)) (sym t) ∙ same_kind-refl (kind_of y)) h)

-- subjects that exclude each other clash with some kind, in one order
pub kind_from_excludes : {D : Type 0} (eq : D → D → Bool) (x y : SubjectValue D) → excludes eq x y ≡ true →
    (kind : EquivocationKind) × ((clash eq kind x y ≡ true) ⊎ (clash eq kind y x ≡ true))
kind_from_excludes eq (Notarizes p) (Notarizes q) h = (Conflicting_notarize, inl h)
kind_from_excludes eq (Finalizes p) (Finalizes q) h = (Conflicting_finalize, inl h)
kind_from_excludes eq (Nullifies r) (Finalizes q) h = (Nullify_finalize, inl refl)
kind_from_excludes eq (Finalizes p) (Nullifies r) h = (Nullify_finalize, inr refl)
kind_from_excludes eq _ _ h = absurd (false≢true h)

-- a subject of the first kind clashes with one of any two that clash
pub clash_with_one : {D : Type 0} (eq : D → D → Bool) → IsEquivalence eq → (kind : EquivocationKind) (x y z : SubjectValue D) →
    kind_of x ≡ first_kind kind → clash eq kind y z ≡ true → (clash eq kind x y ≡ true) ⊎ (clash eq kind x z ≡ true)
clash_with_one {D} eq l kind x y z s h =
    let (first, second, against) = clash_parts eq kind y z h in
    ⊎_elim (λ e. inl (clash_from eq kind x y s (also_second kind x y s first e) e))
    (λ e. inr (clash_from eq kind x z s second e)) (excludes_one eq l x y z (s ∙ sym first) against)
  where
    also_second : (kind : EquivocationKind) (x y : SubjectValue D) → kind_of x ≡ first_kind kind → kind_of y ≡ first_kind kind →
        excludes eq x y ≡ true → kind_of y ≡ second_kind kind
    also_second Nullify_finalize (Nullifies p) (Nullifies q) s t e = absurd (false≢true e)
    also_second Nullify_finalize _ _ s t e = absurd cc
    also_second Conflicting_notarize _ _ s t e = t
    also_second Conflicting_finalize _ _ s t e = t

-- ---- orders

pub round_cmp_total : IsTotalOrder round_cmp
round_cmp_total = then_total (on_total (λ (r : Round). r.epoch) nat_cmp_total) (on_total (λ (r : Round). r.view) nat_cmp_total)

pub signer_cmp_total : IsTotalOrder signer_cmp
signer_cmp_total =
    then_total (on_total (λ (s : SignerInRound). s.round) round_cmp_total)
    (on_total (λ (s : SignerInRound). s.signer) nat_cmp_total)

pub accused_cmp_total : IsTotalOrder accused_cmp
accused_cmp_total =
    then_total (on_total (λ (n : Accusation). signer_in n.round n.signer) signer_cmp_total)
    (on_total (λ (n : Accusation). kind_rank n.kind) nat_cmp_total)

-- rounds that the order ties are equal
pub exact_rounds : CmpEqualImpliesEq round_cmp
exact_rounds a b h =
    ap (λ (p : _). record { epoch = p.0; view = p.1 })
    (exact_pairs nat_cmp nat_cmp exact_unsigned exact_unsigned (a.epoch, a.view) (b.epoch, b.view) h)

pub exact_signers : CmpEqualImpliesEq signer_cmp
exact_signers a b h =
    ap (λ (p : _). signer_in p.0 p.1)
    (exact_pairs round_cmp nat_cmp exact_rounds exact_unsigned (a.round, a.signer) (b.round, b.signer) h)

pub exact_accused : CmpEqualImpliesEq accused_cmp
exact_accused a b h =
    ap (λ (p : _). record { round = p.0.round; signer = p.0.signer; kind = p.1 })
    (exact_pairs signer_cmp (λ k l. nat_cmp (kind_rank k) (kind_rank l)) exact_signers kinds
    (signer_in a.round a.signer, a.kind) (signer_in b.round b.signer, b.kind) h)
  where
    kinds : (k l : EquivocationKind) → nat_cmp (kind_rank k) (kind_rank l) ≡ Equal → k ≡ l
    kinds Conflicting_notarize Conflicting_notarize e = refl
    kinds Conflicting_finalize Conflicting_finalize e = refl
    kinds Nullify_finalize Nullify_finalize e = refl
    kinds _ _ e = absurd cc

-- a round that is found is the one that was sought
pub key_tells : (p q : Round) → is_key (round_cmp p) q ≡ true → p ≡ q
key_tells p q h =
    exact_rounds p q
    ((elim (round_cmp p q) as (λ o. is_eq o ≡ true → o ≡ Equal) [ Equal ↦ λ e. refl | _ ↦ λ e. absurd (false≢true e) ]) h)

-- a round that is not found is another
pub other_round : (p q : Round) → is_key (round_cmp p) q ≡ false → same_round p q ≡ false
other_round p q h =
    false_from_ne_true _ (λ e. false≢true
    (sym h ∙ subst (λ r. is_key (round_cmp p) r ≡ true) (same_round-true p q e) (ap is_eq (tied_itself round_cmp_total p))))
