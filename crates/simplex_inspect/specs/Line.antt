-- The line of a message.
use Rattle.std.specs.Prelude.{ℕ, List, [], ◌∷◌, None, codes, map, option_map}
use Rattle.json.specs.Json.{Json, string}
use Rattle.simplex_scheme.specs.Kind.{kind_of, kind_word}
use Rattle.simplex_scheme.specs.Subject.{SubjectValue, Notarizes, Nullifies, Finalizes}
use Rattle.simplex_scheme.specs.declared.scheme.Attestation.{Attestation}
use Rattle.simplex_evidence.specs.Activity.{activity_round, contents_of}
use Rattle.simplex_evidence.specs.Contents.{ContentsValue, OneVote, OneCertificate, TwoVotes}
use Rattle.simplex_evidence.specs.declared.types.activity.Activity.{Activity}
use Rattle.simplex_evidence.specs.declared.types.activity.Activity.TheVariants as activity
use Rattle.simplex_votes.specs.Votes.{SignedVote, vote_on}
use Rattle.simplex_inspect.specs.Json.{signature_json, proposal_members, head_members, listing_json}
use Rattle.simplex_inspect.specs.Shown.{Shown, signature_validity, certificate_validity}
use Rattle.simplex_inspect.specs.Values.{line_of}

-- the members of a subject's proposal, if it has one
abbrev pub proposed_members : {D : Type 0} → (D → List ℕ) → SubjectValue D → List (List ℕ × Json)
proposed_members bytes_of (Notarizes p) = proposal_members p.parent (bytes_of p.payload)
proposed_members bytes_of (Nullifies r) = []
proposed_members bytes_of (Finalizes p) = proposal_members p.parent (bytes_of p.payload)

-- the members of a subject: the kind of its votes, and its proposal
abbrev pub subject_members : {D : Type 0} → (D → List ℕ) → SubjectValue D → List (List ℕ × Json)
subject_members bytes_of x = (codes "vote", string (kind_word (kind_of x))) ∷ proposed_members bytes_of x

-- the signature of a vote, with its validity
abbrev pub signed_json : {S D C P G : Type 0} → Shown S D C P G → SignedVote D G → Json
signed_json shown v =
    signature_json v.signer (shown.signature_bytes v.signature) (option_map (λ rules. signature_validity rules v) shown.rules)

-- a vote: its subject, and its signature
abbrev pub vote_json : {S D C P G : Type 0} → Shown S D C P G → SignedVote D G → Json
vote_json shown v =
    listing_json (subject_members shown.payload_bytes v.subject) (codes "signatures") (signed_json shown v ∷ []) None

-- an attestation of a subject, as a vote's signature
abbrev pub attestation_json : {S D C P G : Type 0} → Shown S D C P G → SubjectValue D → Attestation S P G → Json
attestation_json shown x a = signed_json shown (vote_on x a)

-- a certificate: its subject, the signatures that it lists, and its validity
abbrev pub certificate_json : {S D C P G : Type 0} → Shown S D C P G → SubjectValue D → C → Json
certificate_json shown x certificate =
    listing_json (subject_members shown.payload_bytes x) (codes "signatures")
    (map (attestation_json shown x) (shown.listed certificate))
    (option_map (λ rules. certificate_validity rules x certificate) shown.rules)

-- what a message states: a vote, a certificate, or both votes of evidence
abbrev pub statements_json : {S D C P G : Type 0} → Shown S D C P G → ContentsValue D C G → List Json
statements_json shown (OneVote v) = vote_json shown v ∷ []
statements_json shown (OneCertificate x certificate) = certificate_json shown x certificate ∷ []
statements_json shown (TwoVotes v w) = vote_json shown v ∷ vote_json shown w ∷ []

-- the word of a kind of message
abbrev pub message_word : {S D C P G : Type 0} → Activity S D C P G → List ℕ
message_word (activity.Notarize v) = codes "notarize"
message_word (activity.Notarization n) = codes "notarization"
message_word (activity.Certification n) = codes "certification"
message_word (activity.Nullify v) = codes "nullify"
message_word (activity.Nullification n) = codes "nullification"
message_word (activity.Finalize v) = codes "finalize"
message_word (activity.Finalization n) = codes "finalization"
message_word (activity.ConflictingNotarize c) = codes "conflicting-notarize"
message_word (activity.ConflictingFinalize c) = codes "conflicting-finalize"
message_word (activity.NullifyFinalize c) = codes "nullify-finalize"

-- a message with this offset and length in bytes
abbrev pub message_json : {S D C P G : Type 0} → Shown S D C P G → ℕ → ℕ → Activity S D C P G → Json
message_json shown offset len m =
    listing_json (head_members offset len (message_word m) (activity_round m).epoch (activity_round m).view)
    (codes "statements") (statements_json shown (contents_of m)) None

-- its line, with its newline
abbrev pub line_json : {S D C P G : Type 0} → Shown S D C P G → ℕ → ℕ → Activity S D C P G → List ℕ
line_json shown offset len m = line_of (message_json shown offset len m)
