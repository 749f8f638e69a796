-- When the calls of a device fail or fall short.
use Rattle.std.specs.Prelude.{ℕ, ◌==◌, ◌&&◌, nat_le, nat_lt, min, if◌then◌else◌, Option, Some, None}
use Rattle.std.specs.declared.io.ErrorKind.{ErrorKind}
use Rattle.faulty_io.specs.declared.trouble.Trouble.{Trouble}
use Rattle.faulty_io.specs.declared.trouble.Trouble.TheVariants.{Never, Once, Since, Between, Short}

-- the error of a call, if it fails
abbrev pub error_at : Trouble → ℕ → Option ErrorKind
error_at Never call = None
error_at (Once failing kind) call = if call == failing then Some kind else None
error_at (Since first kind) call = if nat_le first call then Some kind else None
error_at (Between first end kind) call = if nat_le first call && nat_lt call end then Some kind else None
error_at (Short short) call = None

-- how many bytes a call moves at most, where it would move `step` without trouble
abbrev pub step_at : Trouble → ℕ → ℕ → ℕ
step_at Never call step = step
step_at (Once failing kind) call step = step
step_at (Since first kind) call step = step
step_at (Between first end kind) call step = step
step_at (Short short) call step = if call == short then min step 1 else step
