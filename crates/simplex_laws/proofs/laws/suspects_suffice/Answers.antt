use Rattle.simplex_laws.proofs.SuspectLemmas.{suspects_suffice, rounds_are_suspect, signers_are_suspect}
use Rattle.simplex_laws.proofs.laws.suspects_suffice.Goals as goal

pub returns-clause-suffice : goal.returns-clause-suffice
returns-clause-suffice g c rules messages l = suspects_suffice rules l messages

pub returns-clause-rounds : goal.returns-clause-rounds
returns-clause-rounds g c rules messages claims l is round = rounds_are_suspect rules messages l.payloads claims is round

pub returns-clause-signers : goal.returns-clause-signers
returns-clause-signers g c rules messages claims l is suspect =
    signers_are_suspect rules messages l.payloads claims is suspect
