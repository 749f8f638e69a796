-- Messages that are not decoded.
use Rattle.std.specs.Prelude.{◌≡◌, ℕ, List, length}
use Rattle.simplex_base.specs.Format.{Encoded}
use Rattle.simplex_base.specs.Positions.{Round}
use Rattle.simplex_shards.specs.declared.peek.Peeked.{Peeked}

-- a message begins the bytes, and it has this round and length
pub record IsPeeked {M : Type 0} (is_value : M → Type 0) (encoding : M → List ℕ) (round : M → Round) (bytes : List ℕ)
    (peeked : Peeked) : Type 0 where
  pub message : M
  pub rest : List ℕ
  pub encoded : Encoded is_value encoding bytes message rest
  pub round_is : round message ≡ peeked.round
  pub length_is : length (encoding message) ≡ peeked.length
