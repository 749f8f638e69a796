-- Votes and messages by numbers and bytes, as a caller gives them who is not Rattle.
use Rattle.std.specs.Prelude.{◌≡◌, ◌⊎◌, ℕ, Bool, ◌+◌, ◌<◌, ◌^◌, ◌==◌, List, [], ◌∷◌, ◌++◌, length, take, drop, if◌then◌else◌}
use Rattle.std.specs.List.Sorted.{IsStrictlySortedBy}
use Rattle.std.specs.Ordering.{nat_cmp}
use Rattle.simplex_base.specs.Format.{Format}
use Rattle.simplex_base.specs.Varint.{number_64}
use Rattle.simplex_scheme.specs.Namespace.{names_of}
use Rattle.simplex_scheme.specs.Subject.{SubjectValue, Notarizes, Nullifies, Finalizes, name_of, message_of}
use Rattle.simplex_scheme.specs.declared.scheme.Attestation.{Attestation}
use Rattle.simplex_evidence.specs.declared.types.activity.Activity.{Activity}
use Rattle.simplex_evidence.specs.declared.types.activity.Activity.TheVariants as activity
use Rattle.simplex_border.specs.Answer.{IsPut}
use Rattle.simplex_ffi.specs.declared.votes.Said.{Said}
use Rattle.simplex_ffi.specs.declared.votes.Said.TheVariants as said

-- Bytes, or other items, stand at the start of the buffer, with 0; or the buffer is too short and as before, with 4. The size
-- is that of the items.
pub record ArePut {A : Type 0} (items before after : List A) (size status : ℕ) : Type 0 where
  pub size_is : size ≡ length items
  pub items_are : IsPut items before after status 0

-- A message is written: it is one that the codec reads again, and its encoding is put.
pub record IsWritten {M : Type 0} (is_value : M → Type 0) (encoding : M → List ℕ) (message : M) (before after : List ℕ)
    (size status : ℕ) : Type 0 where
  pub value : is_value message
  pub bytes_are : ArePut (encoding message) before after size status

-- ---- what a vote says

-- The numbers are those of a vote: of kind 0 or 2 for a proposal, whose payload has as many bytes as payloads have; of kind 1
-- for a round, which has no parent and no payload.
abbrev pub IsVoteByNumbers : ℕ → ℕ → ℕ → ℕ → Type 0
IsVoteByNumbers size kind parent payload_size =
    ((kind ≡ 0) × (payload_size ≡ size))
    ⊎ (((kind ≡ 1) × (parent ≡ 0) × (payload_size ≡ 0)) ⊎ ((kind ≡ 2) × (payload_size ≡ size)))

-- what a vote of this kind says: 0 that a proposal is notarized, 1 that a round is nullified, 2 that a proposal is finalized
abbrev pub subject_by : {D : Type 0} → ℕ → ℕ → ℕ → ℕ → D → SubjectValue D
subject_by kind epoch view parent payload =
    if kind == 0 then Notarizes (record {
      round = record { epoch = epoch; view = view };
      parent = parent;
      payload = payload;
    }) else if kind == 1 then Nullifies (record { epoch = epoch; view = view }) else Finalizes (record {
      round = record { epoch = epoch; view = view };
      parent = parent;
      payload = payload;
    })

-- what a vote says, as a value
abbrev pub said_value : {D : Type 0} → Said D → SubjectValue D
said_value (said.Notarize p) = Notarizes p
said_value (said.Nullify r) = Nullifies r
said_value (said.Finalize p) = Finalizes p

-- The bytes that are signed: how long the name is, the name of the kind under this base, and the message.
abbrev pub signed_bytes : {D : Type 0} → Format D → List ℕ → SubjectValue D → List ℕ
signed_bytes payload base x =
    number_64.encoding (length (name_of (names_of base) x)) ++ (name_of (names_of base) x ++ message_of payload x)

-- ---- messages

-- a vote as a message
abbrev pub vote_message : {S D C P G : Type 0} → SubjectValue D → Attestation S P G → Activity S D C P G
vote_message (Notarizes p) a = activity.Notarize (record { proposal = p; attestation = a })
vote_message (Nullifies r) a = activity.Nullify (record { round = r; attestation = a })
vote_message (Finalizes p) a = activity.Finalize (record { proposal = p; attestation = a })

-- how many bytes of a message are a signature of so many: those under the plain scheme alone, any other with its verdict
abbrev pub signature_bytes : ℕ → ℕ
signature_bytes size = if size == 32 then 32 else size + 1

-- ---- certificates

-- the kind of a certificate: the tag of the message
abbrev pub IsCertificateKind : ℕ → Type 0
IsCertificateKind kind = (kind ≡ 1) ⊎ ((kind ≡ 2) ⊎ ((kind ≡ 4) ⊎ (kind ≡ 6)))

-- the kind of the votes that such a certificate lists
abbrev pub votes_listed : ℕ → ℕ
votes_listed kind = if kind == 4 then 1 else if kind == 6 then 2 else 0

-- a certificate as a message: a notarization that a node accepted is a certification
abbrev pub certificate_message : {S D C P G : Type 0} → Bool → SubjectValue D → C → Activity S D C P G
certificate_message accepted (Notarizes p) c =
    if accepted then activity.Certification (record { proposal = p; certificate = c })
    else activity.Notarization (record { proposal = p; certificate = c })
certificate_message accepted (Nullifies r) c = activity.Nullification (record { round = r; certificate = c })
certificate_message accepted (Finalizes p) c = activity.Finalization (record { proposal = p; certificate = c })

-- the tag of such a message
abbrev pub certificate_tag : {D : Type 0} → Bool → SubjectValue D → ℕ
certificate_tag accepted (Notarizes p) = if accepted then 2 else 1
certificate_tag accepted (Nullifies r) = 4
certificate_tag accepted (Finalizes p) = 6

-- the attestations of signers, whose signatures stand one after another
abbrev pub attestations_by : {S P G : Type 0} → (List ℕ → G) → ℕ → List ℕ → List ℕ → List (Attestation S P G)
attestations_by of_bytes size [] signatures = []
attestations_by of_bytes size (signer ∷ others) signatures =
    record { signer = signer; signature = of_bytes (take size signatures) }
    ∷ attestations_by of_bytes size others (drop size signatures)

-- The signers of a certificate ascend, and there are from 1 to 2^32 - 1 of them.
pub record AreSigners (signers : List ℕ) : Type 0 where
  pub some : 0 < length signers
  pub few : length signers < 2 ^ 32
  pub ascending : IsStrictlySortedBy nat_cmp signers
