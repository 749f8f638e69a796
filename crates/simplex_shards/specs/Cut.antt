-- Which class a round is of.
use Rattle.std.specs.Prelude.{◌≡◌, ℕ, ◌+◌, ◌*◌, ◌/◌, ◌%◌, ◌^◌, bit_xor}
use Rattle.std.specs.Int.NonZero.{non_zero_u32_get, non_zero_u64_get}
use Rattle.simplex_base.specs.Positions.{Round}
use Rattle.simplex_shards.specs.declared.cut.Cut.{Cut}
use Rattle.simplex_shards.specs.declared.cut.Cut.TheVariants.{Mixed, Ranges}

-- 64 bits, with the high ones folded down by some places, times a factor
abbrev pub folded : ℕ → ℕ → ℕ → ℕ
folded z places factor = bit_xor z (z / 2 ^ places) * factor % 2 ^ 64

-- the word that SplitMix64 gives from a state
abbrev pub splitmix : ℕ → ℕ
splitmix state =
    let z = folded (folded ((state + 0x9e3779b97f4a7c15) % 2 ^ 64) 30 0xbf58476d1ce4e5b9) 27 0x94d049bb133111eb in
    bit_xor z (z / 2 ^ 31)

-- the class of a round by a mix of its epoch and view
abbrev pub mixed_class : ℕ → ℕ → Round → ℕ
mixed_class seed classes round = splitmix (bit_xor (splitmix (bit_xor seed round.epoch)) round.view) % classes

-- the class of a round by the range of views that it is in
abbrev pub ranged_class : ℕ → ℕ → Round → ℕ
ranged_class width classes round = (round.epoch + round.view / width) % classes

-- the class of a round
abbrev pub class_under : Cut → Round → ℕ
class_under (Mixed seed classes) = mixed_class seed (non_zero_u32_get classes)
class_under (Ranges width classes) = ranged_class (non_zero_u64_get width) (non_zero_u32_get classes)

-- how many classes there are
abbrev pub classes_of : Cut → ℕ
classes_of (Mixed seed classes) = non_zero_u32_get classes
classes_of (Ranges width classes) = non_zero_u32_get classes

-- the classes of some rounds at seed 0
pub record GivesVectors (class : ℕ → ℕ → Round → ℕ) : Type 0 where
  pub first : class 0 16 (record { epoch = 0; view = 0 }) ≡ 15
  pub next_view : class 0 16 (record { epoch = 0; view = 1 }) ≡ 14
  pub next_epoch : class 0 16 (record { epoch = 1; view = 0 }) ≡ 14
  pub middle : class 0 1000 (record { epoch = 5; view = 123456789 }) ≡ 466
  pub last : class 0 64 (record { epoch = 18446744073709551615; view = 18446744073709551615 }) ≡ 54
