-- How long a pair is at least of which the first part is known.
use Rattle.std.proofs.Common.{◌≡◌, ℕ, ◌+◌, ◌≤◌, List, ◌++◌, length, ap, ◌∙◌, append_assoc, arith, length-append}
use Rattle.simplex_base.specs.Format.{Lawful, BothAre, both_encoded}
use Rattle.simplex_base.specs.FormatLaws.{one_encoding}
use Rattle.simplex_base.specs.Reading.{Reading}
use Rattle.simplex_base.specs.LeastSize.{NoneShorter}

-- a first part that was read, and then at least as many bytes as the second part takes
pub both_none_shorter : {A B : Type 0} {is_a : A → Type 0} {is_b : B → Type 0} {s : A → List ℕ} {t : B → List ℕ}
    {read : List ℕ → Reading A} → Lawful is_a s read → (bytes rest : List ℕ) (a : A) (size total : ℕ) → is_a a →
    bytes ≡ s a ++ rest → NoneShorter is_b t rest size → total ≤ length (s a) + size →
    NoneShorter (BothAre is_a is_b) (both_encoded s t) bytes total
both_none_shorter {A} {B} {is_a} {is_b} {s} {t} law bytes rest a size total value parts least few x more is e =
    let joined : s x.0 ++ t x.1 ≡ s a ++ (rest ++ more) =
    e ∙ (ap (λ (b : List ℕ). b ++ more) parts ∙ append_assoc (s a) rest more) in
    let one = one_encoding law x.0 a (t x.1) (rest ++ more) is.0 value joined in
    let second = least x.1 more is.1 one.1 in
    let first = ap (λ (y : A). length (s y)) one.0 in
    omega (arith, length-append (s x.0) (t x.1))
