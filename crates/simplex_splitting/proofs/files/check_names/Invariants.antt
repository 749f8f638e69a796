use Rattle.std.proofs.Common.{◌≡◌, ◌<◌, ℕ, [], get_or, map, string_bytes}
use Rattle.simplex_splitting.specs.Files.{NamesPart}
use Rattle.simplex_splitting.proofs.files.check_names.Given as goal

abbrev pub invariant-names : goal.invariant-names
invariant-names l = (l.place ≡ l.name-index)
    × ((k : ℕ) → k < l.name-index → ¬ NamesPart l.prefix l.classes (get_or (map string_bytes l.names) k []))
