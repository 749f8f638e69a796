-- How many bytes signatures have.
use Rattle.std.specs.Prelude.{◌≡◌, ◌⊎◌, ℕ}
use Rattle.simplex_border.specs.declared.signatures.VouchedSize.{VouchedSize}
use Rattle.simplex_border.specs.declared.signatures.VouchedSize.TheVariants.{Of48, Of64, Of96}

-- the bytes of a signature, its verdict not counted
abbrev pub size_in_bytes : VouchedSize → ℕ
size_in_bytes Of48 = 48
size_in_bytes Of64 = 64
size_in_bytes Of96 = 96

-- Signatures have 48, 64 or 96 bytes, and for each of these something holds.
abbrev pub ForSizes : ℕ → Type 0 → Type 0 → Type 0 → Type 0
ForSizes size A B C = ((size ≡ 48) × A) ⊎ (((size ≡ 64) × B) ⊎ ((size ≡ 96) × C))

-- signatures of so many bytes can have verdicts
abbrev pub IsVouchedSize : ℕ → Type 0
IsVouchedSize size = (size ≡ 48) ⊎ ((size ≡ 64) ⊎ (size ≡ 96))

-- signatures can have so many bytes: 32, without verdicts, or as many as those with verdicts
abbrev pub IsSignatureSize : ℕ → Type 0
IsSignatureSize size = (size ≡ 32) ⊎ IsVouchedSize size
