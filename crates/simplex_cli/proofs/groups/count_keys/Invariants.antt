use Rattle.std.proofs.Common.{take, string_bytes}
use Rattle.std.specs.Prelude.{All}
use Rattle.simplex_cli.specs.Arguments.{BeginsGroup}
use Rattle.simplex_cli.proofs.groups.count_keys.Given as goal

abbrev pub invariant-texts : goal.invariant-texts
invariant-texts l = All (λ text. BeginsGroup (string_bytes text) → ⊥) (take l.i l.texts)
