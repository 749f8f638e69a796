-- Votes as plain values, and their rounds, signers and kinds.
use Rattle.std.specs.Prelude.{ℕ, Bool, ◌==◌, ◌&&◌}
use Rattle.simplex_base.specs.Positions.{Round, same_round}
use Rattle.simplex_scheme.specs.declared.proposal.Proposal.{Proposal}
use Rattle.simplex_scheme.specs.declared.kind.VoteKind.{VoteKind}
use Rattle.simplex_scheme.specs.Kind.{kind_of, same_kind}
use Rattle.simplex_scheme.specs.Subject.{SubjectValue, Notarizes, Nullifies, Finalizes, round_of}
use Rattle.simplex_scheme.specs.declared.scheme.Attestation.{Attestation}
use Rattle.simplex_votes.specs.declared.types.notarize.Notarize.{Notarize}
use Rattle.simplex_votes.specs.declared.types.nullify.Nullify.{Nullify}
use Rattle.simplex_votes.specs.declared.types.finalize.Finalize.{Finalize}

-- what a participant says, signed. D is the type of payloads, G that of signatures
pub record SignedVote (D G : Type 0) : Type 0 where
  pub subject : SubjectValue D
  pub signer : ℕ
  pub signature : G

-- an attestation of a subject, as a vote on it
abbrev pub vote_on : {S D P G : Type 0} → SubjectValue D → Attestation S P G → SignedVote D G
vote_on x a = record { subject = x; signer = a.signer; signature = a.signature }

-- a notarize, a nullify and a finalize, as votes
abbrev pub notarize_vote : {S D P G : Type 0} → Notarize S D P G → SignedVote D G
notarize_vote v = vote_on (Notarizes v.proposal) v.attestation

abbrev pub nullify_vote : {S D P G : Type 0} → Nullify S P G → SignedVote D G
nullify_vote v = vote_on (Nullifies v.round) v.attestation

abbrev pub finalize_vote : {S D P G : Type 0} → Finalize S D P G → SignedVote D G
finalize_vote v = vote_on (Finalizes v.proposal) v.attestation

-- whether two proposals are the same, by a test `eq` of their payloads
abbrev pub same_proposal : {D : Type 0} → (D → D → Bool) → Proposal D → Proposal D → Bool
same_proposal eq p q = same_round p.round q.round && ((p.parent == q.parent) && eq p.payload q.payload)

-- whether a vote is of this round and signer
abbrev pub is_of : {D G : Type 0} → Round → ℕ → SignedVote D G → Bool
is_of round signer v = same_round (round_of v.subject) round && (v.signer == signer)

-- whether a vote is of this kind, round and signer
abbrev pub is_at : {D G : Type 0} → VoteKind → Round → ℕ → SignedVote D G → Bool
is_at kind round signer v = same_kind (kind_of v.subject) kind && is_of round signer v
