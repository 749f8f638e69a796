use Rattle.std.proofs.Common.{◌≡◌, ℕ, ◌+◌, ◌<◌, List, [], ◌∷◌, ◌++◌, get_or, take, length, arith, sym, length-append}
use Rattle.std.specs.List.{flat_map}
use Rattle.std.proofs.lemmas.List.{take_more}
use Rattle.std.proofs.lemmas.List.Concat.{flat_map-append}
use Rattle.std.proofs.lemmas.List.Elements.{All-push}
use Rattle.simplex_base.specs.Varint.{number_32}
use Rattle.simplex_base.proofs.codec.counted.size_counted.Goals as goal

-- one value more is encoded behind the others
length_more : {X : Type 0} (f : X → List ℕ) (front : List ℕ) (xs : List X) (i : ℕ) (x : X) → i < length xs → x ≡ get_or xs i x →
    length (front ++ flat_map f (take (i + 1) xs)) ≡ length (front ++ flat_map f (take i xs)) + length (f x)
length_more f front xs i x lt is =
    rw (take_more xs i x lt, sym is, flat_map-append f (take i xs) (x ∷ []))
    (omega (
      arith,
      length-append front (flat_map f (take i xs) ++ (f x ++ [])),
      length-append (flat_map f (take i xs)) (f x ++ []),
      length-append (f x) [],
      length-append front (flat_map f (take i xs)),
    ))

pub loop-item-preserved : goal.loop-item-preserved
loop-item-preserved g c =
    let xs = c.args.items.now in
    let i = c.loop-item.item-index in
    let x = c.item-item.result in
    let more = length_more g.T.Encoding.encoding (number_32.encoding (length xs)) xs i x c.loop-item-test.true c.item-item.is in
    record {
      size = omega (arith, c.loop-item.invariant.size, c.saturating_add-size.ensures, c.encode_size.ensures.size, more);
      values = rw (take_more xs i x c.loop-item-test.true, sym c.item-item.is)
          (All-push g.T.Encoding.is_value (take i xs) x c.loop-item.invariant.values c.encode_size.ensures.value);
      limited = omega (arith, c.loop-item.invariant.limited, c.saturating_add-size.ensures, c.encode_size.ensures.limited);
    }
