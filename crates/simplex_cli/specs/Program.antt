-- The programs, and how they speak of themselves.
use Rattle.std.specs.Prelude.{ℕ, Bool, true, false, List, codes}
use Rattle.simplex_cli.specs.declared.program.Program.{Program}
use Rattle.simplex_cli.specs.declared.program.Program.TheVariants.{Audit, Compact, Inspect}
use Rattle.simplex_cli.specs.declared.program.Verification.{Verification}
use Rattle.simplex_cli.specs.declared.program.Verification.TheVariants.{Full, Deferred}

-- the name that complaints have
abbrev pub name_of : Program → List ℕ
name_of (Audit verification) = codes "audit"
name_of Compact = codes "audit_compact"
name_of Inspect = codes "inspect"

-- what stands after the name where the usage is said
abbrev pub usage_of : Program → List ℕ
usage_of (Audit verification) = codes " NAMESPACE KEY...\n"
usage_of Compact = codes " [--floor EPOCH VIEW] NAMESPACE KEY...\n"
usage_of Inspect = codes " [NAMESPACE KEY...|--verdicts BYTES [PARTICIPANTS]]\n"

-- whether two are the same
abbrev pub same_verification : Verification → Verification → Bool
same_verification Full Full = true
same_verification Deferred Deferred = true
same_verification _ _ = false
