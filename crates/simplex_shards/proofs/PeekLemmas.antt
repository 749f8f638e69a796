-- Messages that are peeked at, and those that are decoded.
use Rattle.std.proofs.Common.{◌≡◌, ℕ, ◌+◌, ◌-◌, Bool, List, length, Ok, Err, Result, IfOk, refl, ap, subst, ◌∙◌, arith, length-append}
use Rattle.simplex_base.specs.Format.{Format, IsLawful}
use Rattle.simplex_base.specs.Positions.{Round}
use Rattle.simplex_base.specs.Reading.{IsBytes, Fails}
use Rattle.simplex_base.specs.declared.codec.error.Error.{Error}
use Rattle.simplex_base.specs.declared.codec.error.Error.TheVariants as errors
use Rattle.simplex_stream.specs.Messages.{IsStuck}
use Rattle.simplex_shards.specs.Peek.{IsPeeked}
use Rattle.simplex_shards.specs.declared.peek.Peeked.{Peeked}

module _ {M : Type 0} (format : Format M) (law : IsLawful format) (bytes rest : List ℕ) (fit : IsBytes bytes) (m : M)
    (read : format.reading bytes ≡ Ok (m, rest)) where
  -- a message that is read of some bytes has no more of them
  pub peeked_size : length bytes ≡ length (format.encoding m) + length rest
  peeked_size = ap length (law.takes bytes m rest fit read).parts ∙ length-append (format.encoding m) rest

  -- it is what is known of it
  pub peeked_read : (round : M → Round) (peeked : Peeked) → round m ≡ peeked.round →
      peeked.length ≡ length bytes - length rest → IsPeeked format.is_value format.encoding round bytes peeked
  peeked_read round peeked same size =
      let whole = peeked_size in
      record {
        message = m;
        rest = rest;
        encoded = law.takes bytes m rest fit read;
        round_is = same;
        length_is = omega (arith, whole, size);
      }

-- what holds of a value that is read if more is known
pub if_all : {A E K : Type 0} (P : A → Type 0) (read : Result A E) → (K → IfOk read P) → IfOk read (λ x. K → P x)
if_all P (Ok x) holds = holds
if_all P (Err e) holds = tt

-- where reading is refused, no message's encoding begins
pub refused_stuck : {M : Type 0} (format : Format M) (bytes : List ℕ) (memory : Bool) (e : Error) → IsLawful format →
    (e ≡ errors.OutOfMemory → ⊥) → Fails memory e (format.reading bytes) → IsStuck format bytes
refused_stuck {M} format bytes memory e law known fails m more v p =
    go e known (subst (Fails memory e) (ap format.reading p ∙ law.again m more v) fails)
  where
    go : (e : Error) → (e ≡ errors.OutOfMemory → ⊥) → Fails {X = M × List ℕ} memory e (Ok (m, more)) → ⊥
    go errors.EndOfBuffer known h = absurd cc
    go errors.InvalidVarint known h = absurd cc
    go errors.InvalidBool known h = absurd cc
    go (errors.Invalid subject reason) known h = absurd cc
    go errors.ExtraData known h = absurd cc
    go errors.OutOfMemory known h = known refl
