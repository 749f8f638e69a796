-- That the verdicts of the attestations that have to be verified determine the report.
use Rattle.std.specs.Prelude.{◌≡◌, ◌⊎◌, ℕ, List, get_or, length, map, All, Contains}
use Rattle.simplex_base.specs.Reading.{IsBytes}
use Rattle.simplex_evidence.specs.declared.types.activity.Activity.{Activity}
use Rattle.simplex_audit.specs.Basis.{Basis}
use Rattle.simplex_audit.specs.Guarantees.{OfMessages}
use Rattle.simplex_audit.specs.Report.{IsReport}
use Rattle.simplex_audit.specs.declared.audit.Report.{Report}
use Rattle.simplex_places.specs.Places.{places_along}
use Rattle.simplex_places.specs.Suspects.{HaveToBeVerified}
use Rattle.simplex_places.specs.declared.places.Placed.{Placed}
use Rattle.simplex_places.specs.declared.places.AttestationPlace.{AttestationPlace}

-- `other` is the stream with any bytes in place of the verdicts of these attestations
pub record DiffersInVerdicts (places : List Placed) (stream other : List ℕ) : Type 0 where
  pub length_is : length other ≡ length stream
  pub fit : IsBytes other
  pub bytes : (i : ℕ) → (get_or other i 0 ≡ get_or stream i 0) ⊎ Contains (map (λ p. p.attestation.verdict_place) places) i

-- the two streams have the same verdicts of these attestations
abbrev pub HaveSameVerdicts : List AttestationPlace → List ℕ → List ℕ → Type 0
HaveSameVerdicts found one other = All (λ s. get_or one s.verdict_place 0 ≡ get_or other s.verdict_place 0) found

-- Let other streams differ from this one in verdicts of its attestations alone. The same attestations have to be verified in
-- each, and two of them with the same verdicts of these have the same report.
pub record DetermineTheReport {S D C P G : Type 0} (basis : Basis S D C P G) (places_in : ℕ → Activity S D C P G → List Placed)
    (stream : List ℕ) (found : List AttestationPlace) : Type 0 where
  pub same_list : OfMessages basis stream (λ messages. (other : List ℕ) →
      DiffersInVerdicts (places_along places_in basis.format.encoding 0 messages) stream other →
      HaveToBeVerified basis places_in other found)
  pub same_report : OfMessages basis stream (λ messages. (one other : List ℕ) →
      DiffersInVerdicts (places_along places_in basis.format.encoding 0 messages) stream one →
      DiffersInVerdicts (places_along places_in basis.format.encoding 0 messages) stream other →
      HaveSameVerdicts found one other →
      (report : Report S D P G) → IsReport basis one report → IsReport basis other report)
