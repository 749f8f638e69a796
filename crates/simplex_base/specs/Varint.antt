-- Numbers in LEB128: groups of seven bits, the lowest group first.
use Rattle.std.specs.Prelude.{◌≡◌, ◌≢◌, ℕ, zero, suc, ◌+◌, ◌-◌, ◌*◌, ◌/◌, ◌%◌, ◌^◌, ◌<◌, ◌≤◌, List, [], ◌∷◌, ◌++◌, Result, Ok, Err, nat_lt, ◌==◌, if◌then◌else◌, OnErr, IfOk}
use Rattle.simplex_base.specs.Reading.{Reading, end_of_buffer, invalid_varint, ◌>>=◌}
use Rattle.simplex_base.specs.Format.{Format}
use Rattle.simplex_base.specs.declared.codec.error.Error.{Error}
use Rattle.simplex_base.specs.declared.codec.error.Error.TheVariants as errors

-- ---- the grammar

-- A byte below 128 is the last group. One from 128 on has seven bits, and the bytes after it encode the
-- groups above, which aren't 0: so each number has one encoding.
abbrev pub IsNumber : List ℕ → ℕ → Type 0
IsNumber [] n = ⊥
IsNumber (b ∷ []) n = (b < 128) × (n ≡ b)
IsNumber (b ∷ c ∷ bs) n = (128 ≤ b) × (b < 256) × (high : ℕ) × (0 < high) × (n + 128 ≡ b + 128 * high) × IsNumber (c ∷ bs) high

-- the encoding of n, a number below the limit, is a prefix of the bytes
pub record BeginsWith (limit : ℕ) (bytes : List ℕ) (n : ℕ) (rest : List ℕ) : Type 0 where
  pub below : n < limit
  pub front : List ℕ
  pub number : IsNumber front n
  pub parts : bytes ≡ front ++ rest

-- the bytes are a proper prefix of the encoding of a number below the limit
pub record IsCutOff (limit : ℕ) (bytes : List ℕ) : Type 0 where
  pub n : ℕ
  pub below : n < limit
  pub missing : List ℕ
  pub some : missing ≢ []
  pub number : IsNumber (bytes ++ missing) n

-- What reading a number below the limit returns, and what it leaves of the input.
pub record ReadsNumber (limit : ℕ) (result : Result ℕ Error) (old new : List ℕ) : Type 0 where
  pub taken : IfOk result (λ n. BeginsWith limit old n new)
  pub again : (n : ℕ) (rest : List ℕ) → BeginsWith limit old n rest → (result ≡ Ok n) × (new ≡ rest)
  pub refused : OnErr result (new ≡ old)
  pub ends : result ≡ Err errors.EndOfBuffer → IsCutOff limit old
  pub cut_off : IsCutOff limit old → result ≡ Err errors.EndOfBuffer
  pub otherwise : ((n : ℕ) (rest : List ℕ) → BeginsWith limit old n rest → ⊥) → (IsCutOff limit old → ⊥) →
      result ≡ Err errors.InvalidVarint

-- ---- the groups, and how they are read

-- the groups of n, of which k may follow the first
unfoldable pub groups : ℕ → ℕ → List ℕ
groups zero n = n ∷ []
groups (suc k) n = if nat_lt n 128 then n ∷ [] else (n % 128 + 128) ∷ groups k (n / 128)

-- a group b before what reading gave
abbrev pub with_group : ℕ → Reading ℕ → Reading ℕ
with_group b read = read >>= λ high. Ok ((b - 128) + 128 * high.0, high.1)

-- The groups after the first, k more of which may follow; the last of all is below top. None is a needless 0.
unfoldable pub groups_at : List ℕ → ℕ → ℕ → Reading ℕ
groups_at [] k top = Err end_of_buffer
groups_at (b ∷ bytes) k top =
    if k == 0 then (if nat_lt 0 b then (if nat_lt b top then Ok (b, bytes) else Err invalid_varint) else Err invalid_varint)
    else if nat_lt b 128 then (if nat_lt 0 b then Ok (b, bytes) else Err invalid_varint)
    else with_group b (groups_at bytes (k - 1) top)

-- a number with at most k groups after the first
unfoldable pub number_at : ℕ → ℕ → List ℕ → Reading ℕ
number_at k top [] = Err end_of_buffer
number_at k top (b ∷ bytes) = if nat_lt b 128 then Ok (b, bytes) else with_group b (groups_at bytes (k - 1) top)

-- ---- the two widths

-- a number of 64 bits: at most ten groups, a tenth being 1
abbrev pub number_64 : Format ℕ
number_64 = record { is_value = λ n. n < 2 ^ 64; encoding = groups 9; reading = number_at 9 2 }

-- a number of 32 bits: at most five groups, a fifth being below 16
abbrev pub number_32 : Format ℕ
number_32 = record { is_value = λ n. n < 2 ^ 32; encoding = groups 4; reading = number_at 4 16 }
