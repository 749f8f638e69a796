-- What a caller that is not Rattle is given of a stream besides its report.
use Rattle.std.specs.Prelude.{◌≡◌, ℕ, Bool, List, length}
use Rattle.simplex_audit.specs.Basis.{Basis}
use Rattle.simplex_audit.specs.Guarantees.{IsAudit}
use Rattle.simplex_audit.specs.Holding.{IsStored}
use Rattle.simplex_evidence.specs.declared.types.activity.Activity.{Activity}
use Rattle.simplex_audit.specs.declared.audit.Report.{Report}
use Rattle.simplex_votes.specs.Votes.{SignedVote}
use Rattle.simplex_places.specs.Records.{AreRecords}
use Rattle.simplex_places.specs.Repeats.{AreWithFirsts}
use Rattle.simplex_places.specs.Suspects.{HaveToBeVerified}
use Rattle.simplex_places.specs.declared.places.Placed.{Placed}
use Rattle.simplex_places.specs.declared.places.AttestationPlace.{AttestationPlace}
use Rattle.simplex_places.specs.declared.records.Record.{Record}
use Rattle.simplex_places.specs.declared.repeats.Unverified.{Unverified}
use Rattle.simplex_border.specs.Answer.{IsPut, IsSummary, ended_of}
use Rattle.simplex_border.specs.declared.answer.ReportSummary.{ReportSummary}

-- The evidence of the stream was stored: as messages it stands at the start of the buffer, with 0; or the buffer is too short
-- and
-- as before, with 4. The size is that of the messages.
pub record AreStored {S D C P G : Type 0} (basis : Basis S D C P G) (stream before after : List ℕ)
    (size status : ℕ) : Type 0 where
  pub bytes : List ℕ
  pub stored_is : IsStored basis stream bytes
  pub size_is : size ≡ length bytes
  pub bytes_are : IsPut bytes before after status 0

-- The attestations of the stream that have to be verified, each with the index of the first of them that is the same, the
-- verdicts apart. A signature has `size` bytes before its verdict.
pub record AreUnverified {S D C P G : Type 0} (basis : Basis S D C P G) (places_in : ℕ → Activity S D C P G → List Placed)
    (size : ℕ) (stream : List ℕ) (found : List Unverified) : Type 0 where
  pub attestations : List AttestationPlace
  pub attestations_are : HaveToBeVerified basis places_in stream attestations
  pub found_are : AreWithFirsts stream size attestations found

-- Those attestations stand at the start of the buffer, with 0; or the buffer is too short and as before, with 4. The number
-- needed is that of the attestations.
pub record AreAttestationsGiven {S D C P G : Type 0} (basis : Basis S D C P G)
    (places_in : ℕ → Activity S D C P G → List Placed) (size : ℕ) (stream : List ℕ) (before after : List Unverified)
    (needed status : ℕ) : Type 0 where
  pub found : List Unverified
  pub found_are : AreUnverified basis places_in size stream found
  pub needed_is : needed ≡ length found
  pub records_are : IsPut found before after status 0

-- The stream was audited: the summary is that of its report, and the records of the report's evidence stand at the start of the
-- buffer, with 0 where the stream was read whole and 1 where it has a fault; or the buffer is too short and as before, with 4.
-- `carries` says whether a message carries a vote, and `stands` whether an attestation is a vote, as it stands in a stream.
pub record AreRecorded {S D C P G : Type 0} (basis : Basis S D C P G) (bytes_of : D → List ℕ)
    (carries : SignedVote D G → Activity S D C P G → Bool)
    (stands : List ℕ → SignedVote D G → AttestationPlace → Type 0) (stream : List ℕ) (before after : List Record)
    (summary : ReportSummary) (status : ℕ) : Type 0 where
  pub report : Report S D P G
  pub audit_is : IsAudit basis stream report
  pub summary_is : IsSummary bytes_of report summary
  pub found : List Record
  pub found_are : AreRecords basis carries stands stream report found
  pub records_are : IsPut found before after status (ended_of report.fault)
