-- What a message holds, whatever its kind: a vote, a certificate of a subject, or two votes.
use Rattle.std.specs.Prelude.{ℕ, Bool, List, [], ◌∷◌, ◌++◌, map, ◌&&◌, Option, Some, None, IsTrue, ⊤}
use Rattle.simplex_base.specs.Positions.{Round}
use Rattle.simplex_scheme.specs.declared.scheme.Attestation.{Attestation}
use Rattle.simplex_scheme.specs.Subject.{SubjectValue, round_of, subject_value}
use Rattle.simplex_votes.specs.Votes.{SignedVote, vote_on}
use Rattle.simplex_evidence.specs.Contradiction.{EquivocationKind, contradicts}
use Rattle.simplex_evidence.specs.declared.types.contents.Signed.{Signed}
use Rattle.simplex_evidence.specs.declared.types.contents.Contents.{Contents}
use Rattle.simplex_evidence.specs.declared.types.contents.Contents.TheVariants as contents

pub data ContentsValue (D C G : Type 0) : Type 0 where
  OneVote : SignedVote D G → ContentsValue D C G
  OneCertificate : SubjectValue D → C → ContentsValue D C G
  TwoVotes : SignedVote D G → SignedVote D G → ContentsValue D C G

-- a subject with an attestation, as a vote
abbrev pub signed_value : {S D P G : Type 0} → Signed S D P G → SignedVote D G
signed_value s = vote_on (subject_value s.subject) s.attestation.now

abbrev pub contents_value : {S D C P G : Type 0} → Contents S D C P G → ContentsValue D C G
contents_value (contents.Vote s) = OneVote (signed_value s)
contents_value (contents.Certificate x c) = OneCertificate (subject_value x) c.now
contents_value (contents.Evidence s t) = TwoVotes (signed_value s) (signed_value t)

-- the round of the vote or the certificate; that of the first of two votes
abbrev pub contents_round : {D C G : Type 0} → ContentsValue D C G → Round
contents_round (OneVote v) = round_of v.subject
contents_round (OneCertificate x c) = round_of x
contents_round (TwoVotes v w) = round_of v.subject

-- the certificate, if there is one, with its subject
abbrev pub contents_certificate : {D C G : Type 0} → ContentsValue D C G → Option (SubjectValue D × C)
contents_certificate (OneCertificate x c) = Some (x, c)
contents_certificate _ = None

-- the votes that are in no certificate
abbrev pub own_votes : {D C G : Type 0} → ContentsValue D C G → List (SignedVote D G)
own_votes (OneVote v) = v ∷ []
own_votes (OneCertificate x c) = []
own_votes (TwoVotes v w) = v ∷ w ∷ []

-- the votes of a certificate, if there is one: the attestations that it lists, each on its subject
abbrev pub listed_votes : {S D C P G : Type 0} → (C → List (Attestation S P G)) → Option (SubjectValue D × C) →
    List (SignedVote D G)
listed_votes listed None = []
listed_votes listed (Some s) = map (vote_on s.0) (listed s.1)

-- all votes, in their order
abbrev pub contents_votes : {S D C P G : Type 0} → (C → List (Attestation S P G)) → ContentsValue D C G → List (SignedVote D G)
contents_votes listed held = own_votes held ++ listed_votes listed (contents_certificate held)

-- a vote's signature is valid for its signer and its subject
abbrev pub vote_verifies : {D G : Type 0} → (SubjectValue D → ℕ → G → Bool) → SignedVote D G → Bool
vote_verifies good v = good v.subject v.signer v.signature

-- a vote by its signature, a certificate by itself, and two votes by both of their signatures
abbrev pub contents_verify : {D C G : Type 0} → (SubjectValue D → ℕ → G → Bool) → (SubjectValue D → C → Bool) →
    ContentsValue D C G → Bool
contents_verify good certified (OneVote v) = vote_verifies good v
contents_verify good certified (OneCertificate x c) = certified x c
contents_verify good certified (TwoVotes v w) = vote_verifies good v && vote_verifies good w

-- two votes contradict
abbrev pub AreInConflict : {D C G : Type 0} → (D → D → Bool) → ContentsValue D C G → Type 0
AreInConflict eq (TwoVotes v w) = (kind : EquivocationKind) × IsTrue (contradicts eq kind v w)
AreInConflict eq _ = ⊤
