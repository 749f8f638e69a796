-- The validity of a signature and of a certificate: whether it is valid, and why not.
use Rattle.std.specs.Prelude.{ℕ, Bool, true, false, ◌==◌, nat_lt, if◌then◌else◌}
use Rattle.simplex_inspect.specs.declared.validity.Validity.{Validity}
use Rattle.simplex_inspect.specs.declared.validity.Validity.TheVariants.{Valid, NoCommittee, OutsideSigner, WrongSignature, TooFew, WrongAttestation}

-- whether two validities are the same
abbrev pub same_validity : Validity → Validity → Bool
same_validity Valid Valid = true
same_validity NoCommittee NoCommittee = true
same_validity OutsideSigner OutsideSigner = true
same_validity WrongSignature WrongSignature = true
same_validity TooFew TooFew = true
same_validity WrongAttestation WrongAttestation = true
same_validity _ _ = false

-- the validity of a signature, from whether it is valid, how many participants the committee has, and its signer
abbrev pub validity_of_signature : Bool → ℕ → ℕ → Validity
validity_of_signature valid size signer =
    if valid then Valid else (if size == 0 then NoCommittee else (if nat_lt signer size then WrongSignature else OutsideSigner))

-- the validity of a certificate, from whether it is valid, how many participants the committee has, how many of them are
-- a quorum, and how many attestations are listed
abbrev pub validity_of_certificate : Bool → ℕ → ℕ → ℕ → Validity
validity_of_certificate valid size quorum count =
    if valid then Valid else (if size == 0 then NoCommittee else (if nat_lt count quorum then TooFew else WrongAttestation))
