-- What a batcher records of the notarizes that come.
use Rattle.std.specs.Prelude.{◌≡◌, ℕ, ◌≤◌, ◌&&◌, Bool, true, List, length, filter, All}
use Rattle.simplex_scheme.specs.Committee.{quorum_of}
use Rattle.simplex_scheme.specs.declared.proposal.Proposal.{Proposal}
use Rattle.simplex_scheme.specs.Subject.{SubjectValue, Notarizes}
use Rattle.simplex_votes.specs.Votes.{same_proposal}
use Rattle.simplex_votes.specs.declared.types.notarize.Notarize.{Notarize}
use Rattle.simplex_evidence.specs.VoteMap.{IsFirsts, signers_among}

-- the scheme that verifies, the proposal that the votes are for, and the recorded votes. S, P and G are the types of the
-- scheme, its keys and its signatures, D that of payloads
pub record Batch (S D P G : Type 0) : Type 0 where
  pub scheme : S
  pub proposal : Proposal D
  pub votes : List (Notarize S D P G)

-- the participant that signed a vote
abbrev pub signer_of : {S D P G : Type 0} → Notarize S D P G → ℕ
signer_of v = v.attestation.signer

-- votes for one proposal, each valid
pub record AreForProposal {S D P G : Type 0} (good : SubjectValue D → ℕ → G → Bool) (proposal : Proposal D)
    (votes : List (Notarize S D P G)) : Type 0 where
  pub same : All (λ v. v.proposal ≡ proposal) votes
  pub each_valid : All (λ v. good (Notarizes v.proposal) v.attestation.signer v.attestation.signature ≡ true) votes

-- `eq` compares payloads, `keys` gives a scheme's keys, and `good` says which signatures are valid
module _ {S D P G : Type 0} (eq : D → D → Bool) (keys : S → List P) (good : S → SubjectValue D → ℕ → G → Bool) where
  -- whether a vote is for the proposal, and valid
  abbrev pub is_wanted : Batch S D P G → Notarize S D P G → Bool
  is_wanted batch v =
      same_proposal eq v.proposal batch.proposal
      && good batch.scheme (Notarizes v.proposal) v.attestation.signer v.attestation.signature

  -- of the votes that came, the first wanted one of each participant is recorded, and no other
  abbrev pub HasTaken : Batch S D P G → List (Notarize S D P G) → Type 0
  HasTaken batch came = IsFirsts signer_of (length (keys batch.scheme)) (filter (is_wanted batch) came) batch.votes

  -- how many participants signed wanted votes
  abbrev pub signers_in : Batch S D P G → List (Notarize S D P G) → ℕ
  signers_in batch came = signers_among signer_of (length (keys batch.scheme)) (filter (is_wanted batch) came)

  -- the participants that signed wanted votes are a quorum
  abbrev pub HasQuorum : Batch S D P G → List (Notarize S D P G) → Type 0
  HasQuorum batch came = quorum_of (length (keys batch.scheme)) ≤ signers_in batch came
