use Rattle.std.proofs.Common.{◌≡◌, ℕ, zero, suc, ◌+◌, ◌*◌, ◌/◌, ◌%◌, ◌^◌, ◌<◌, ◌≤◌, List, ◌++◌, take, length, arith, append_assoc, ◌∙◌}
use Rattle.std.proofs.lemmas.Bool.{le-ltb, lt-ltb}
use Rattle.std.proofs.lemmas.List.{take_more_set}
use Rattle.std.proofs.Math.ListN.{set, length-set}
use Rattle.simplex_base.specs.Varint.{groups}
use Rattle.simplex_base.specs.VarintLaws.{groups_32}
use Rattle.simplex_base.proofs.codec.varint.Varint.new.Goals as goal

-- one more group is put down
next_group : (bytes text : List ℕ) (len k n : ℕ) → length bytes ≡ 10 → len + k ≤ 9 → 128 ≤ n → n < 128 * 128 ^ k →
    take len bytes ++ groups k n ≡ text → (j : ℕ) × (len + 1 + j ≤ 9) × (n / 128 < 128 * 128 ^ j)
    × (take (len + 1) (set bytes len (n % 128 + 128)) ++ groups j (n / 128) ≡ text)
unfolding groups
next_group bytes text len zero n size room big lt h = absurd (omega arith)
next_group bytes text len (suc k) n size room big lt h =
    let p : 128 ^ suc k ≡ 128 * 128 ^ k = omega arith in
    let lt' : n < 128 * (128 * 128 ^ k) = rw p at lt in (
      k,
      omega arith,
      omega arith,
      rw (take_more_set bytes len (n % 128 + 128) (omega arith), append_assoc) (rw (le-ltb n 128 big) at h),
    )

-- the last group is put down
last_group : (bytes text : List ℕ) (len k n : ℕ) → length bytes ≡ 10 → len + k ≤ 9 → n < 128 →
    take len bytes ++ groups k n ≡ text → take (len + 1) (set bytes len n) ≡ text
unfolding groups
last_group bytes text len zero n size room small h = rw (take_more_set bytes len n (omega arith)) h
last_group bytes text len (suc k) n size room small h =
    rw (take_more_set bytes len n (omega arith)) (rw (lt-ltb n 128 small) at h)

pub groups-preserved : goal.groups-preserved
groups-preserved c =
    let i = c.groups.invariant in
    let n = next_group c.groups.bytes _ c.groups.len i.1 c.groups.rest i.0 i.2 c.groups-test.true i.3 i.4 in
    (omega (arith, length-set {A = ℕ}), n.0, n.1, n.2, n.3)

pub returns-clause-wide : goal.returns-clause-wide
returns-clause-wide c =
    let i = c.groups.invariant in last_group c.groups.bytes _ c.groups.len i.1 c.groups.rest i.0 i.2 c.groups-test.false i.4

pub returns-clause-narrow : goal.returns-clause-narrow
returns-clause-narrow c lt =
    let i = c.groups.invariant in
    last_group c.groups.bytes _ c.groups.len i.1 c.groups.rest i.0 i.2 c.groups-test.false i.4 ∙ groups_32 c.args.number lt
