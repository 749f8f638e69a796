-- The recorded votes of one round, by the votes so far.
use Rattle.std.specs.Prelude.{◌≡◌, ℕ, ◌+◌, ◌==◌, ◌&&◌, ◌||◌, ◌⊎◌, Bool, true, false, IsTrue, List, length, ◌++◌, Contains, Option, Some, None, if◌then◌else◌}
use Rattle.std.specs.Option.{IsSome, is_some, option_to_list}
use Rattle.std.specs.List.{flat_map, slice_get}
use Rattle.std.specs.List.Sorted.{IsStrictlySortedBy}
use Rattle.std.specs.Ordering.{nat_cmp}
use Rattle.simplex_base.specs.Positions.{Round}
use Rattle.simplex_scheme.specs.declared.kind.VoteKind.{VoteKind}
use Rattle.simplex_scheme.specs.Kind.{kind_of, same_kind}
use Rattle.simplex_scheme.specs.Subject.{round_of}
use Rattle.simplex_votes.specs.Votes.{SignedVote}
use Rattle.simplex_evidence.specs.Contradiction.{EquivocationKind, Conflicting_notarize, Conflicting_finalize, Nullify_finalize, Equivocation, contradicts}
use Rattle.simplex_rules.specs.News.{have_news}
use Rattle.simplex_ballots.specs.Ballots.{vote_of}
use Rattle.simplex_ballots.specs.Index.{placed_at, places_in}
use Rattle.simplex_rules.specs.Recorded.{Slot, slot_of, slot_with, changes, evidence_from, recorded_in}
use Rattle.simplex_ballots.specs.declared.ballot.Ballot.{Ballot}
use Rattle.simplex_ballots.specs.declared.placed.Placed.{Placed}
use Rattle.simplex_ballots.specs.declared.round_votes.RoundVotes.{RoundVotes}

-- an empty slot
abbrev pub no_slot : {D G : Type 0} → Slot D G
no_slot = record { earliest = None; other = None }

-- the ballot of a vote that stands at a place, if it stands somewhere
abbrev pub ballot_at : {S D P G : Type 0} → List (Ballot S D P G) → Option Placed → Option (Ballot S D P G)
ballot_at ballots None = None
ballot_at ballots (Some placed) = slice_get ballots placed.place

-- the recorded vote of a signer and kind: the earliest, or the other
abbrev pub vote_at : {S D P G : Type 0} → RoundVotes S D P G → ℕ → VoteKind → Bool → Option (SignedVote D G)
vote_at recorded signer kind is_other =
    vote_of recorded.round signer kind
    (ballot_at recorded.ballots (placed_at recorded.index signer kind is_other))

-- the slots of a signer
abbrev pub slots : {S D P G : Type 0} → RoundVotes S D P G → ℕ → VoteKind → Slot D G
slots recorded signer kind = record {
  earliest = vote_at recorded signer kind false;
  other = vote_at recorded signer kind true;
}

-- a vote is recorded, as its signer's earliest of its kind or as the other
abbrev pub IsRecorded : {S D P G : Type 0} → RoundVotes S D P G → SignedVote D G → Type 0
IsRecorded recorded v =
    ((slots recorded v.signer (kind_of v.subject)).earliest ≡ Some v) ⊎
    ((slots recorded v.signer (kind_of v.subject)).other ≡ Some v)

-- how many votes there are
abbrev pub round_count : {S D P G : Type 0} → RoundVotes S D P G → ℕ
round_count recorded = length (places_in recorded.index)

-- the state is for n participants, and each vote that stands somewhere is there
pub record IsSized {S D P G : Type 0} (n : ℕ) (recorded : RoundVotes S D P G) : Type 0 where
  pub participants : recorded.participants ≡ n
  pub whole : (signer : ℕ) (kind : VoteKind) (is_other : Bool) →
      IsSome (placed_at recorded.index signer kind is_other) →
      IsSome (vote_at recorded signer kind is_other)

-- whether a vote is of a kind and a signer
abbrev pub is_for : {D G : Type 0} → SignedVote D G → ℕ → VoteKind → Bool
is_for v signer kind = same_kind (kind_of v.subject) kind && (v.signer == signer)

-- a vote of the round that is news changes its slot, and there is one vote more
pub record TakesVote {S D P G : Type 0} (eq : D → D → Bool) (v : SignedVote D G)
    (before after : RoundVotes S D P G) : Type 0 where
  pub round : after.round ≡ before.round
  pub sized : (n : ℕ) → IsSized n before → before.round ≡ round_of v.subject → IsSized n after
  pub taken : (n : ℕ) → IsSized n before → before.round ≡ round_of v.subject → IsTrue (changes eq
      (slots before v.signer (kind_of v.subject)).earliest (slots before v.signer (kind_of v.subject)).other v.subject) →
      (signer : ℕ) (kind : VoteKind) → slots after signer kind
      ≡ (if is_for v signer kind then slot_with eq v (slots before signer kind) else slots before signer kind)
  pub more : (n : ℕ) → IsSized n before → IsTrue (changes eq (slots before v.signer (kind_of v.subject)).earliest
      (slots before v.signer (kind_of v.subject)).other v.subject) →
      round_count after ≡ round_count before + 1

-- of a round whose committee has n participants exactly the votes are recorded that `vs` has in the slots of that round
pub record HoldsRound {S D P G : Type 0} (eq : D → D → Bool) (n : ℕ) (vs : List (SignedVote D G)) (round : Round)
    (recorded : RoundVotes S D P G) : Type 0 where
  pub sized : IsSized n recorded
  pub round_is : recorded.round ≡ round
  pub held : (signer : ℕ) (kind : VoteKind) → slots recorded signer kind ≡ slot_of eq vs kind round signer
  pub counted : round_count recorded ≡ recorded_in eq vs round

-- some votes of a round are recorded behind any others, and `news` tells whether one of them was news
pub record RecordsVotes {S D P G : Type 0} (eq : D → D → Bool) (n : ℕ) (round : Round) (votes : List (SignedVote D G))
    (news : Bool) (before after : RoundVotes S D P G) : Type 0 where
  pub held : (vs : List (SignedVote D G)) → HoldsRound eq n vs round before → HoldsRound eq n (vs ++ votes) round after
  pub tells : (vs : List (SignedVote D G)) → HoldsRound eq n vs round before → news ≡ have_news eq vs votes

-- ---- the evidence in what is recorded

-- an evidence, if its votes contradict
abbrev pub if_contradicts : {D G : Type 0} → (D → D → Bool) → Option (Equivocation D G) → Option (Equivocation D G)
if_contradicts eq None = None
if_contradicts eq (Some e) = if contradicts eq e.kind e.first e.second then Some e else None

-- the evidence of one kind in the slots of a signer
abbrev pub found_of_kind : {D G : Type 0} → (D → D → Bool) → (VoteKind → Slot D G) → EquivocationKind →
    Option (Equivocation D G)
found_of_kind eq slot kind = if_contradicts eq (evidence_from slot kind)

-- the evidence in the slots of a signer, by kind
abbrev pub found_at : {D G : Type 0} → (D → D → Bool) → (VoteKind → Slot D G) → List (Equivocation D G)
found_at eq slot =
    option_to_list (found_of_kind eq slot Conflicting_notarize) ++
    (option_to_list (found_of_kind eq slot Conflicting_finalize) ++
    option_to_list (found_of_kind eq slot Nullify_finalize))

-- the evidence in the slots of some signers, signer by signer
abbrev pub found_against : {S D P G : Type 0} → (D → D → Bool) → RoundVotes S D P G → List ℕ → List (Equivocation D G)
found_against eq recorded signers = flat_map (λ signer. found_at eq (slots recorded signer)) signers

-- whether the slots of a signer accuse it, for any kind of contradiction
abbrev pub accuses : {D G : Type 0} → (VoteKind → Slot D G) → Bool
accuses slot =
    is_some (evidence_from slot Conflicting_notarize) ||
    (is_some (evidence_from slot Conflicting_finalize) || is_some (evidence_from slot Nullify_finalize))

-- the signers ascend, and every signer that is accused is among them
pub record ListsSigners {S D P G : Type 0} (recorded : RoundVotes S D P G) (signers : List ℕ) : Type 0 where
  pub ascending : IsStrictlySortedBy nat_cmp signers
  pub complete : (signer : ℕ) → IsTrue (accuses (slots recorded signer)) → Contains signers signer
