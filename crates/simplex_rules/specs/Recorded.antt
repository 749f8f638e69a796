-- Which votes are recorded: at most two of each round, signer and kind.
use Rattle.std.specs.Prelude.{ℕ, Bool, true, ◌&&◌, List, Option, Some, None, if◌then◌else◌, ◌≡◌, ◌≤◌, [], ◌∷◌, ◌++◌, length, filter}
use Rattle.std.specs.Option.{option_or, is_none, option_to_list}
use Rattle.std.specs.List.{find}
use Rattle.simplex_base.specs.Positions.{Round, same_round}
use Rattle.simplex_scheme.specs.declared.kind.VoteKind.{VoteKind}
use Rattle.simplex_scheme.specs.declared.kind.VoteKind.TheVariants as kinds
use Rattle.simplex_scheme.specs.Kind.{kind_of}
use Rattle.simplex_scheme.specs.Subject.{SubjectValue, round_of}
use Rattle.simplex_votes.specs.Votes.{SignedVote, is_at, is_of}
use Rattle.simplex_evidence.specs.Contradiction.{EquivocationKind, Conflicting_notarize, Conflicting_finalize, Nullify_finalize, Equivocation, excludes}
use Rattle.simplex_rules.specs.Evidence.{with_second}

-- of one round, signer and kind: the earliest vote, and the earliest with another proposal
pub record Slot (D G : Type 0) : Type 0 where
  pub earliest : Option (SignedVote D G)
  pub other : Option (SignedVote D G)

-- the earliest vote with another proposal than the first, if there is a first
abbrev pub other_than : {D G : Type 0} → (D → D → Bool) → List (SignedVote D G) → VoteKind → Round → ℕ →
    Option (SignedVote D G) → Option (SignedVote D G)
other_than eq vs kind round signer None = None
other_than eq vs kind round signer (Some v) = find (λ w. is_at kind round signer w && excludes eq v.subject w.subject) vs

-- the slot of a round, signer and kind in a list of votes
abbrev pub slot_of : {D G : Type 0} → (D → D → Bool) → List (SignedVote D G) → VoteKind → Round → ℕ → Slot D G
slot_of eq vs kind round signer =
    let first = find (is_at kind round signer) vs in
    record { earliest = first; other = other_than eq vs kind round signer first }

-- a vote, if it has another proposal than the first
abbrev pub if_differs : {D G : Type 0} → (D → D → Bool) → Option (SignedVote D G) → SignedVote D G → Option (SignedVote D G)
if_differs eq None v = None
if_differs eq (Some first) v = if excludes eq first.subject v.subject then Some v else None

-- the slot of a vote's own round, signer and kind, after it
abbrev pub slot_with : {D G : Type 0} → (D → D → Bool) → SignedVote D G → Slot D G → Slot D G
slot_with eq v slot =
    record { earliest = option_or slot.earliest (Some v); other = option_or slot.other (if_differs eq slot.earliest v) }

-- whether a vote on a subject changes its slot: the slot is empty, or holds one vote, which has another proposal
abbrev pub changes : {D G : Type 0} → (D → D → Bool) → Option (SignedVote D G) → Option (SignedVote D G) → SubjectValue D → Bool
changes eq None other subject = true
changes eq (Some first) other subject = excludes eq first.subject subject && is_none other

-- whether a vote is news after some votes: it changes its slot
abbrev pub is_news : {D G : Type 0} → (D → D → Bool) → List (SignedVote D G) → SignedVote D G → Bool
is_news eq vs v =
    let slot = slot_of eq vs (kind_of v.subject) (round_of v.subject) v.signer in
    changes eq slot.earliest slot.other v.subject

-- the evidence of two votes, if there are two
abbrev pub equivocation_of : {D G : Type 0} → EquivocationKind → Option (SignedVote D G) → Option (SignedVote D G) →
    Option (Equivocation D G)
equivocation_of kind None w = None
equivocation_of kind (Some v) w = with_second kind v w

-- the evidence of one round and signer, from its slots
abbrev pub evidence_from : {D G : Type 0} → (VoteKind → Slot D G) → EquivocationKind → Option (Equivocation D G)
evidence_from slot Conflicting_notarize =
    equivocation_of Conflicting_notarize (slot kinds.Notarize).earliest (slot kinds.Notarize).other
evidence_from slot Conflicting_finalize =
    equivocation_of Conflicting_finalize (slot kinds.Finalize).earliest (slot kinds.Finalize).other
evidence_from slot Nullify_finalize =
    equivocation_of Nullify_finalize (slot kinds.Nullify).earliest (slot kinds.Finalize).earliest

-- the votes that are news, each after all votes before it
abbrev pub news_after : {D G : Type 0} → (D → D → Bool) → List (SignedVote D G) → List (SignedVote D G) → List (SignedVote D G)
news_after eq before [] = []
news_after eq before (v ∷ vs) = (if is_news eq before v then v ∷ [] else []) ++ news_after eq (before ++ v ∷ []) vs

-- the recorded votes: those that were news when they came
abbrev pub recorded_of : {D G : Type 0} → (D → D → Bool) → List (SignedVote D G) → List (SignedVote D G)
recorded_of eq vs = news_after eq [] vs

-- how many votes are recorded
abbrev pub votes_recorded : {D G : Type 0} → (D → D → Bool) → List (SignedVote D G) → ℕ
votes_recorded eq vs = length (recorded_of eq vs)

-- how many votes of a round are recorded
abbrev pub recorded_in : {D G : Type 0} → (D → D → Bool) → List (SignedVote D G) → Round → ℕ
recorded_in eq vs round = length (filter (λ v. same_round (round_of v.subject) round) (recorded_of eq vs))

-- ---- laws of the recorded votes

-- the votes in a slot
abbrev pub votes_in_slot : {D G : Type 0} → Slot D G → List (SignedVote D G)
votes_in_slot slot = option_to_list slot.earliest ++ option_to_list slot.other

-- the recorded votes of a round, signer and kind are the earliest and the earliest with another proposal
abbrev pub RecordedAreSlots : {D G : Type 0} → (D → D → Bool) → List (SignedVote D G) → Type 0
RecordedAreSlots eq vs =
    (kind : VoteKind) (round : Round) (signer : ℕ) →
    filter (is_at kind round signer) (recorded_of eq vs) ≡ votes_in_slot (slot_of eq vs kind round signer)

-- at most five votes of a signer in a round are recorded
abbrev pub FewAreRecorded : {D G : Type 0} → (D → D → Bool) → List (SignedVote D G) → Type 0
FewAreRecorded eq vs = (round : Round) (signer : ℕ) → length (filter (is_of round signer) (recorded_of eq vs)) ≤ 5
