use Rattle.std.proofs.Common.{◌≡◌, ◌+◌, ℕ}
use Rattle.simplex_base.specs.Format.{fixed}
use Rattle.simplex_shards.proofs.SkipLemmas.{Skipping}
use Rattle.simplex_shards.proofs.skips.skip_attestations.Given as goal

abbrev pub invariant-attestations : goal.invariant-attestations
invariant-attestations g l =
    (left : ℕ) × (l.counter + left ≡ l.fn.count) × Skipping g.row.S.Denot g.row.S-PublicKey.Denot
    (fixed g.S.Signature.Fixed.SIZE g.S.Signature.Fixed.bytes_of g.S.Signature.Fixed.of_bytes)
    l.fn.bound l.fn.count l.fn.bytes l.least left l.rest
