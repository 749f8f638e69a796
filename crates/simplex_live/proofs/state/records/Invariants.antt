use Rattle.std.proofs.Common.{◌≡◌, ◌++◌, List, ℕ, length, None}
use Rattle.std.specs.Prelude.{option_map}
use Rattle.std.specs.List.{flat_map, last_or}
use Rattle.simplex_live.specs.State.{record_bytes}
use Rattle.simplex_live.specs.declared.state.Mark.{Mark}
use Rattle.simplex_live.proofs.state.records.Given as goal

-- how many bytes are left
abbrev pub decreases-records : goal.decreases-records
decreases-records l = length l.rest

-- some records, and the bytes that are left
abbrev pub invariant-records : goal.invariant-records
invariant-records l =
    (records : List (Mark × List ℕ)) × (l.bytes ≡ flat_map (λ r. record_bytes r.0 r.1) records ++ l.rest)
    × (l.mark ≡ option_map (λ r. r.0) (last_or None records)) × (l.held.items ≡ flat_map (λ r. r.1) records)
