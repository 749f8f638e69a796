-- The recorded votes of a round without their signers and kinds, and the order of signers and kinds.
use Rattle.std.specs.Borrow.{Bor}
use Rattle.std.specs.Prelude.{ℕ, ◌+◌, ◌*◌, ◌^◌, nat_lt, Bool, Option, Some, None, option_map, if◌then◌else◌}
use Rattle.simplex_base.specs.Positions.{Round}
use Rattle.simplex_scheme.specs.declared.kind.VoteKind.{VoteKind}
use Rattle.simplex_scheme.specs.declared.kind.VoteKind.TheVariants as kinds
use Rattle.simplex_scheme.specs.declared.proposal.Proposal.{Proposal}
use Rattle.simplex_scheme.specs.Subject.{SubjectValue, Notarizes, Nullifies, Finalizes}
use Rattle.simplex_votes.specs.Votes.{SignedVote}
use Rattle.simplex_ballots.specs.declared.ballot.Ballot.{Ballot}

-- the proposal of a subject
abbrev pub proposal_in : {D : Type 0} → SubjectValue D → Option (Proposal D)
proposal_in (Notarizes p) = Some p
proposal_in (Nullifies r) = None
proposal_in (Finalizes p) = Some p

-- the subject of a kind in a round, for a proposal
abbrev pub subject_of : {D : Type 0} → VoteKind → Round → Option (Proposal D) → Option (SubjectValue D)
subject_of kinds.Notarize round p = option_map Notarizes p
subject_of kinds.Nullify round p = Some (Nullifies round)
subject_of kinds.Finalize round p = option_map Finalizes p

-- a ballot, by what it is for and its signature
abbrev pub ballot_of : {S D P G : Type 0} → Bor (Option (Proposal D)) × Bor G → Ballot S D P G
ballot_of parts = record { proposal = parts.0.now; signature = parts.1.now }

-- the vote of a signer and kind in a round that a ballot is of
abbrev pub vote_of : {S D P G : Type 0} → Round → ℕ → VoteKind → Option (Ballot S D P G) → Option (SignedVote D G)
vote_of round signer kind None = None
vote_of round signer kind (Some ballot) =
    option_map (λ x. record { subject = x; signer = signer; signature = ballot.signature })
    (subject_of kind round ballot.proposal)

-- the order of kinds
abbrev pub kind_number : VoteKind → ℕ
kind_number kinds.Notarize = 0
kind_number kinds.Nullify = 1
kind_number kinds.Finalize = 2

-- the number of a kind's earliest votes, or of its other ones
abbrev pub slot_number : VoteKind → Bool → ℕ
slot_number kind is_other = 2 * kind_number kind + (if is_other then 1 else 0)

-- the key of a vote: votes ascend by kinds, of a kind the earliest ones stand before the others, and these ascend by signers.
-- Each signer and kind has a key of its own, also beyond the 2^32 numbers that participants can have.
abbrev pub vote_key : ℕ → VoteKind → Bool → ℕ
vote_key signer kind is_other =
    if nat_lt signer (2 ^ 32) then 2 ^ 32 * slot_number kind is_other + signer
    else 6 * signer + slot_number kind is_other + 6 * 2 ^ 32
