-- Two messages that contradict, as a value, and how they are encoded.
use Rattle.std.proofs.Common.{Bool}
use Rattle.std.specs.Prelude.{codes}
use Rattle.simplex_base.specs.Reading.{Refusal, invalid}
use Rattle.simplex_base.specs.Format.{Format, both, made, tested}
use Rattle.simplex_votes.specs.Encodings.{notarize_format, nullify_format, finalize_format}
use Rattle.simplex_votes.specs.declared.types.notarize.Notarize.{Notarize}
use Rattle.simplex_votes.specs.declared.types.nullify.Nullify.{Nullify}
use Rattle.simplex_votes.specs.declared.types.finalize.Finalize.{Finalize}
use Rattle.simplex_votes.specs.Votes.{notarize_vote, nullify_vote, finalize_vote}
use Rattle.simplex_evidence.specs.Contradiction.{Equivocation, contradicts, Conflicting_notarize, Conflicting_finalize, Nullify_finalize}

-- two messages, V and W their types
pub record ConflictValue (V W : Type 0) : Type 0 where
  pub first : V
  pub second : W

-- two notarizes, as evidence
abbrev pub notarize_evidence : {S D P G : Type 0} → ConflictValue (Notarize S D P G) (Notarize S D P G) → Equivocation D G
notarize_evidence c = record { kind = Conflicting_notarize; first = notarize_vote c.first; second = notarize_vote c.second }

-- two finalizes, as evidence
abbrev pub finalize_evidence : {S D P G : Type 0} → ConflictValue (Finalize S D P G) (Finalize S D P G) → Equivocation D G
finalize_evidence c = record { kind = Conflicting_finalize; first = finalize_vote c.first; second = finalize_vote c.second }

-- a nullify and a finalize, as evidence
abbrev pub nullify_evidence : {S D P G : Type 0} → ConflictValue (Nullify S P G) (Finalize S D P G) → Equivocation D G
nullify_evidence c = record { kind = Nullify_finalize; first = nullify_vote c.first; second = finalize_vote c.second }

-- ---- how evidence is encoded: the first vote, and then the second; they have to contradict

abbrev pub conflict_format : {V W : Type 0} → (V → W → Bool) → Refusal → Format V → Format W → Format (ConflictValue V W)
conflict_format contradict refusal f g =
    tested (λ c. contradict c.first c.second) refusal
    (made (λ p. record { first = p.0; second = p.1 }) (λ c. (c.first, c.second))
    (both f g))

-- two notarizes that contradict; `eq` compares payloads
abbrev pub conflicting_notarize_format : {S D P G : Type 0} → (D → D → Bool) → Format D → Format G →
    Format (ConflictValue (Notarize S D P G) (Notarize S D P G))
conflicting_notarize_format eq payload signature =
    conflict_format (λ v w. contradicts eq Conflicting_notarize (notarize_vote v) (notarize_vote w))
    (invalid (codes "consensus::simplex::ConflictingNotarize") (codes "invalid conflicting notarize"))
    (notarize_format payload signature) (notarize_format payload signature)

-- two finalizes that contradict
abbrev pub conflicting_finalize_format : {S D P G : Type 0} → (D → D → Bool) → Format D → Format G →
    Format (ConflictValue (Finalize S D P G) (Finalize S D P G))
conflicting_finalize_format eq payload signature =
    conflict_format (λ v w. contradicts eq Conflicting_finalize (finalize_vote v) (finalize_vote w))
    (invalid (codes "consensus::simplex::ConflictingFinalize") (codes "invalid conflicting finalize"))
    (finalize_format payload signature) (finalize_format payload signature)

-- a nullify and a finalize that contradict
abbrev pub nullify_finalize_format : {S D P G : Type 0} → (D → D → Bool) → Format D → Format G →
    Format (ConflictValue (Nullify S P G) (Finalize S D P G))
nullify_finalize_format eq payload signature =
    conflict_format (λ v w. contradicts eq Nullify_finalize (nullify_vote v) (finalize_vote w))
    (invalid (codes "consensus::simplex::NullifyFinalize") (codes "mismatched signatures")) (nullify_format signature)
    (finalize_format payload signature)
