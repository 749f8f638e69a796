-- How long certificate messages are at most.
use Rattle.std.proofs.Common.{ℕ, List, ◌+◌, ◌≤◌, ◌++◌, length, arith, length-append}
use Rattle.simplex_base.specs.Format.{Format, fixed}
use Rattle.simplex_base.specs.Positions.{round_format}
use Rattle.simplex_base.specs.PositionLaws.{round_within}
use Rattle.simplex_base.specs.Sizes.{IsWithin}
use Rattle.simplex_base.specs.SizeLaws.{fixed_within}
use Rattle.simplex_scheme.specs.declared.proposal.Proposal.{Proposal}
use Rattle.simplex_scheme.specs.Proposal.{proposal_format}
use Rattle.simplex_scheme.specs.ProposalLaws.{proposal_within}
use Rattle.simplex_votes.specs.Unions.{IsCertificate, certificate_encoding}
use Rattle.simplex_votes.specs.declared.types.certificate.Certificate.{Certificate}
use Rattle.simplex_votes.specs.declared.types.certificate.Certificate.TheVariants as certificate

-- a message has what it certifies and a certificate
pub certified_within : {A C : Type 0} (f : Format A) (m most : ℕ) (fits : C → Type 0) (encoding : C → List ℕ) → IsWithin f m →
    ((c : C) → fits c → length (encoding c) ≤ most) → (a : A) (c : C) → f.is_value a → fits c →
    length (f.encoding a ++ encoding c) ≤ m + most
certified_within f m most fits encoding within certificates a c v h =
    let first = within a v in
    let second = certificates c h in
    omega (arith, length-append (f.encoding a) (encoding c))

-- a proposal and a certificate
pub proposed_within : {D C : Type 0} (size most : ℕ) (bytes_of : D → List ℕ) (of_bytes : List ℕ → D) (fits : C → Type 0)
    (encoding : C → List ℕ) → ((c : C) → fits c → length (encoding c) ≤ most) → (p : Proposal D) (c : C) →
    (proposal_format (fixed size bytes_of of_bytes)).is_value p → fits c →
    length ((proposal_format (fixed size bytes_of of_bytes)).encoding p ++ encoding c) ≤ 30 + size + most
proposed_within size most bytes_of of_bytes fits encoding certificates =
    certified_within (proposal_format (fixed size bytes_of of_bytes)) (30 + size) most fits encoding
    (proposal_within (fixed size bytes_of of_bytes) size (fixed_within size bytes_of of_bytes)) certificates

-- a certificate message is longest with a proposal
pub certificate_within : {S D C P G : Type 0} (size most : ℕ) (bytes_of : D → List ℕ) (of_bytes : List ℕ → D)
    (fits : C → Type 0) (encoding : C → List ℕ) → ((c : C) → fits c → length (encoding c) ≤ most) →
    (m : Certificate S D C P G) → IsCertificate (fixed size bytes_of of_bytes) fits m →
    length (certificate_encoding (fixed size bytes_of of_bytes) encoding m) ≤ 31 + size + most
certificate_within size most bytes_of of_bytes fits encoding certificates (certificate.Notarization n) h =
    let l = proposed_within size most bytes_of of_bytes fits encoding certificates n.proposal n.certificate h.0 h.1 in
    omega (arith, l)
certificate_within size most bytes_of of_bytes fits encoding certificates (certificate.Nullification n) h =
    let l = certified_within round_format 20 most fits encoding round_within certificates n.round n.certificate h.0 h.1 in
    omega (arith, l)
certificate_within size most bytes_of of_bytes fits encoding certificates (certificate.Finalization n) h =
    let l = proposed_within size most bytes_of of_bytes fits encoding certificates n.proposal n.certificate h.0 h.1 in
    omega (arith, l)
