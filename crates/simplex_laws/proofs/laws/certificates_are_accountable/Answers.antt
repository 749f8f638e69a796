use Rattle.simplex_rules.proofs.AccountLemmas.{enough, accountable}
use Rattle.simplex_laws.proofs.laws.certificates_are_accountable.Goals as goal

pub returns-clause-enough : goal.returns-clause-enough
returns-clause-enough g c rules messages l = enough rules l messages

pub returns-clause-signers : goal.returns-clause-signers
returns-clause-signers g c rules messages l = accountable rules l messages
