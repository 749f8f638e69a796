-- How long encodings are at most, of parts put together, of numbers and of fixed bytes.
-- They stand beside the definitions because ghost members of impls cite them, and those see no proofs.
use Rattle.std.proofs.Common.{◌≡◌, ℕ, zero, suc, ◌+◌, ◌-◌, ◌^◌, List, replicate, arith, length-append, lit<}
use Rattle.std.proofs.lemmas.List.{length-replicate}
use Rattle.simplex_base.specs.Reading.{IsBytes}
use Rattle.simplex_base.specs.Format.{Format, IsFixed, both, made, fixed}
use Rattle.simplex_base.specs.Varint.{number_64, number_32}
use Rattle.simplex_base.specs.VarintLaws.{groups_len, longest_64, longest_32}
use Rattle.simplex_base.specs.Sizes.{IsWithin, Longest}

-- ---- of parts

pub both_within : {A B : Type 0} (f : Format A) (g : Format B) {m n : ℕ} → IsWithin f m → IsWithin g n →
    IsWithin (both f g) (m + n)
both_within f g first second p h =
    let one = first p.0 h.0 in let other = second p.1 h.1 in omega (arith, length-append (f.encoding p.0) (g.encoding p.1))

pub both_longest : {A B : Type 0} (f : Format A) (g : Format B) {m n : ℕ} → Longest f m → Longest g n →
    Longest (both f g) (m + n)
both_longest f g first second = (
  (first.0, second.0),
  (first.1, second.1),
  let one = first.2 in
      let other = second.2 in
      omega (arith, length-append (f.encoding first.0) (g.encoding second.0)),
)

pub made_longest : {A B : Type 0} (f : Format A) {m : ℕ} (make : A → B) (parts : B → A) → ((a : A) → parts (make a) ≡ a) →
    Longest f m →
    Longest (made make parts f) m
made_longest f make parts back longest = (make longest.0, rw (back longest.0) longest.1, rw (back longest.0) longest.2)

-- the same numbers, written another way
pub same_within : {T : Type 0} (f : Format T) {m n : ℕ} → m ≡ n → IsWithin f m → IsWithin f n
same_within f e within x h = let most = within x h in omega (arith, most, e)

pub same_longest : {T : Type 0} (f : Format T) {m n : ℕ} → m ≡ n → Longest f m → Longest f n
same_longest f e longest = let most = longest.2 in (longest.0, longest.1, omega (arith, most, e))

-- ---- of numbers and fixed bytes

pub number_64_within : IsWithin number_64 10
number_64_within n h = groups_len 9 n

pub number_64_longest : Longest number_64 10
number_64_longest = (2 ^ 64 - 1, lit< tt, longest_64)

pub number_32_within : IsWithin number_32 5
number_32_within n h = groups_len 4 n

pub number_32_longest : Longest number_32 5
number_32_longest = (2 ^ 32 - 1, lit< tt, longest_32)

zeros_IsBytes : (size : ℕ) → IsBytes (replicate size 0)
zeros_IsBytes zero i = omega arith
zeros_IsBytes (suc size) zero = omega arith
zeros_IsBytes (suc size) (suc i) = zeros_IsBytes size i

zeros_fixed : (size : ℕ) → IsFixed size (replicate size 0)
zeros_fixed size = record { len = length-replicate size 0; fit = zeros_IsBytes size }

pub fixed_within : {T : Type 0} (size : ℕ) (bytes_of : T → List ℕ) (of_bytes : List ℕ → T) →
    IsWithin (fixed size bytes_of of_bytes) size
fixed_within size bytes_of of_bytes x h = let e = h.len in omega (arith, e)

pub fixed_longest : {T : Type 0} (size : ℕ) (bytes_of : T → List ℕ) (of_bytes : List ℕ → T) →
    ((bytes : List ℕ) → IsFixed size bytes → bytes_of (of_bytes bytes) ≡ bytes) → Longest (fixed size bytes_of of_bytes) size
fixed_longest size bytes_of of_bytes back =
    let zeros = zeros_fixed size in
    let same = back (replicate size 0) zeros in
    (of_bytes (replicate size 0), rw same zeros, rw same zeros.len)
