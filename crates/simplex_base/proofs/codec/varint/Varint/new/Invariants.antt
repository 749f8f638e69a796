use Rattle.std.proofs.Common.{◌+◌, ◌≡◌, ℕ, ◌++◌, take, length, ◌*◌, ◌≤◌, ◌<◌, ◌^◌}
use Rattle.simplex_base.specs.Varint.{groups}
use Rattle.simplex_base.proofs.codec.varint.Varint.new.Given as goal

abbrev pub invariant-groups : goal.invariant-groups
invariant-groups l =
    (length l.bytes ≡ 10) × (k : ℕ) × (l.len + k ≤ 9) × (l.rest < 128 * 128 ^ k)
    × (take l.len l.bytes ++ groups k l.rest ≡ groups 9 l.number)

abbrev pub decreases-groups : goal.decreases-groups
decreases-groups l = l.rest
