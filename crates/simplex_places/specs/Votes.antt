-- Votes by their values: subject, signer and signature.
use Rattle.std.specs.Prelude.{Bool, false, ◌==◌, ◌&&◌, List, Option, Some, None}
use Rattle.std.specs.List.{list_any}
use Rattle.simplex_base.specs.Positions.{same_round}
use Rattle.simplex_scheme.specs.Kind.{kind_of}
use Rattle.simplex_scheme.specs.Subject.{SubjectValue, Notarizes, Nullifies, Finalizes, round_of}
use Rattle.simplex_scheme.specs.declared.proposal.Proposal.{Proposal}
use Rattle.simplex_scheme.specs.declared.scheme.Attestation.{Attestation}
use Rattle.simplex_votes.specs.Votes.{SignedVote, same_proposal}
use Rattle.simplex_evidence.specs.Activity.{votes_in}
use Rattle.simplex_evidence.specs.declared.types.activity.Activity.{Activity}
use Rattle.simplex_places.specs.declared.votes.VoteKey.{VoteKey}

-- whether two subjects are the same: of one kind, with the same proposal or round. `payload_eq` compares payloads
abbrev pub same_subject : {D : Type 0} → (D → D → Bool) → SubjectValue D → SubjectValue D → Bool
same_subject payload_eq (Notarizes p) (Notarizes q) = same_proposal payload_eq p q
same_subject payload_eq (Nullifies r) (Nullifies s) = same_round r s
same_subject payload_eq (Finalizes p) (Finalizes q) = same_proposal payload_eq p q
same_subject _ _ _ = false

-- whether two votes are the same: in subject, signer and signature. `signature_eq` compares signatures
abbrev pub same_signed_vote : {D G : Type 0} → (D → D → Bool) → (G → G → Bool) → SignedVote D G → SignedVote D G → Bool
same_signed_vote payload_eq signature_eq v w =
    same_subject payload_eq v.subject w.subject && ((v.signer == w.signer) && signature_eq v.signature w.signature)

-- whether a message carries a vote: it is the vote, or its certificate lists the vote, or it is evidence with the vote
abbrev pub carries : {S D C P G : Type 0} → (D → D → Bool) → (G → G → Bool) → (C → List (Attestation S P G)) → SignedVote D G →
    Activity S D C P G → Bool
carries payload_eq signature_eq listed v m = list_any (same_signed_vote payload_eq signature_eq v) (votes_in listed m)

-- the proposal of a subject; a nullify has none
abbrev pub proposal_of : {D : Type 0} → SubjectValue D → Option (Proposal D)
proposal_of (Notarizes p) = Some p
proposal_of (Nullifies r) = None
proposal_of (Finalizes p) = Some p

-- a vote as a key
abbrev pub vote_key : {D G : Type 0} → SignedVote D G → VoteKey D G
vote_key v = record {
  kind = kind_of v.subject;
  round = round_of v.subject;
  proposal = proposal_of v.subject;
  signer = v.signer;
  signature = v.signature;
}
