-- What a message holds is encoded behind its tag.
use Rattle.std.proofs.Common.{◌≡◌, ℕ, ◌+◌, ◌<◌, ◌^◌, Bool, List, ◌++◌, length, refl, ap, ◌∙◌, arith, length-append, append_assoc}
use Rattle.simplex_base.specs.Format.{Format}
use Rattle.simplex_scheme.specs.Attestation.{attestation_format}
use Rattle.simplex_scheme.specs.Subject.{message_of}
use Rattle.simplex_evidence.specs.Activity.{activity_body, activity_encoding, contents_of}
use Rattle.simplex_evidence.specs.Contents.{ContentsValue, OneVote, OneCertificate, TwoVotes}
use Rattle.simplex_evidence.specs.declared.types.activity.Activity.{Activity}
use Rattle.simplex_evidence.specs.declared.types.activity.Activity.TheVariants as activity
use Rattle.simplex_votes.specs.Votes.{SignedVote}
use Rattle.simplex_places.specs.Places.{attestation_in}

-- of two encodings that have room, the first has
pub first_fits : (place : ℕ) (a b : List ℕ) → place + length (a ++ b) < 2 ^ 64 → place + length a < 2 ^ 64
first_fits place a b fits = omega (arith, fits, length-append a b)

-- and the second behind it
pub second_fits : (place next : ℕ) (a b : List ℕ) → next ≡ place + length a → place + length (a ++ b) < 2 ^ 64 →
    next + length b < 2 ^ 64
second_fits place next a b behind fits = omega (arith, fits, behind, length-append a b)

-- what is appended twice
pub both_pushed : {X : Type 0} (old mid new first : List X) (second : ℕ → List X) (next there : ℕ) → next ≡ there →
    mid ≡ old ++ first → new ≡ mid ++ second next → new ≡ old ++ (first ++ second there)
both_pushed old mid new first second next there same one two =
    two
    ∙ (ap (λ xs. xs ++ second next) one
    ∙ (append_assoc old first (second next) ∙ ap (λ n. old ++ (first ++ second n)) same))

module _ (S P : Type 0) {D C G : Type 0} (payload : Format D) (certificate : C → List ℕ) (signature : Format G) where
  -- a vote: its subject, and then its attestation
  abbrev pub vote_encoding : SignedVote D G → List ℕ
  vote_encoding v = message_of payload v.subject ++ (attestation_format {S = S} {P = P} signature).encoding (attestation_in v)

  -- a vote, a subject with its certificate, or two votes
  abbrev pub contents_encoding : ContentsValue D C G → List ℕ
  contents_encoding (OneVote v) = vote_encoding v
  contents_encoding (OneCertificate x c) = message_of payload x ++ certificate c
  contents_encoding (TwoVotes v w) = vote_encoding v ++ vote_encoding w

  module _ (eq : D → D → Bool) where
    body_is : (m : Activity S D C P G) → activity_body eq payload certificate signature m ≡ contents_encoding (contents_of m)
    body_is (activity.Notarize v) = refl
    body_is (activity.Notarization n) = refl
    body_is (activity.Certification n) = refl
    body_is (activity.Nullify v) = refl
    body_is (activity.Nullification n) = refl
    body_is (activity.Finalize v) = refl
    body_is (activity.Finalization n) = refl
    body_is (activity.ConflictingNotarize c) = refl
    body_is (activity.ConflictingFinalize c) = refl
    body_is (activity.NullifyFinalize c) = refl

    -- what is held of a message has room behind the tag
    pub contents_fit : (place : ℕ) (m : Activity S D C P G) (held : ContentsValue D C G) → held ≡ contents_of m →
        place + length (activity_encoding eq payload certificate signature m) < 2 ^ 64 →
        place + 1 + length (contents_encoding held) < 2 ^ 64
    contents_fit place m held is fits = omega (arith, fits, ap length (body_is m), ap (λ h. length (contents_encoding h)) is)
