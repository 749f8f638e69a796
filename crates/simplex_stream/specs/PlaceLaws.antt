-- The places where messages begin and end, counted from the first byte of a stream.
use Rattle.std.proofs.Common.{◌≡◌, ℕ, ◌+◌, ◌<◌, ◌^◌, List, [], ◌∷◌, ◌++◌, length, ap, ◌∙◌, arith, append-nil, length-append}
use Rattle.std.specs.List.{flat_map}
use Rattle.std.proofs.lemmas.Grind.{flat_map-append}

module _ {M : Type 0} (encoding : M → List ℕ) where
  -- the place behind one message
  pub place_behind_one : (a b size : ℕ) (m : M) → size ≡ length (encoding m) → b ≡ a + size →
      b ≡ a + length (flat_map encoding (m ∷ []))
  place_behind_one a b size m len moved =
      let whole = ap length (append-nil (encoding m)) in
      omega (arith, moved, len, whole)

  -- the place behind messages and a further one
  pub place_behind : (a b c : ℕ) (ms : List M) (m : M) → b ≡ a + length (flat_map encoding ms) →
      c ≡ b + length (flat_map encoding (m ∷ [])) → c ≡ a + length (flat_map encoding (ms ++ m ∷ []))
  place_behind a b c ms m before one =
      let all = ap length (flat_map-append encoding ms (m ∷ [])) ∙
      length-append (flat_map encoding ms) (flat_map encoding (m ∷ [])) in
      omega (arith, before, one, all)

  -- behind a message there is room for what was behind it
  pub room_behind : (a b n : ℕ) (m : M) → b ≡ a + length (flat_map encoding (m ∷ [])) →
      a + (length (encoding m) + n) < 2 ^ 64 → b + n < 2 ^ 64
  room_behind a b n m moved room =
      let size = ap length (append-nil (encoding m)) in
      omega (arith, size, moved, room)
