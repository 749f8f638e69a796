use Rattle.simplex_inspect.proofs.parts.write_judged.Goals as goal

pub returns-in-OutsideSigner : goal.returns-in-OutsideSigner
returns-in-OutsideSigner c = rw c.in-OutsideSigner.is c.write_invalid-in-OutsideSigner.ensures

pub returns-in-WrongSignature : goal.returns-in-WrongSignature
returns-in-WrongSignature c = rw c.in-WrongSignature.is c.write_invalid-in-WrongSignature.ensures

pub returns-in-TooFew : goal.returns-in-TooFew
returns-in-TooFew c = rw c.in-TooFew.is c.write_invalid-in-TooFew.ensures

pub returns-in-WrongAttestation : goal.returns-in-WrongAttestation
returns-in-WrongAttestation c = rw c.in-WrongAttestation.is c.write_invalid-in-WrongAttestation.ensures
