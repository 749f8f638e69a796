use Rattle.std.proofs.Common.{◌≡◌, ℕ, ◌+◌, ◌<◌, List, [], ◌∷◌, ◌++◌, length, take, get_or, sym, ap, ◌∙◌}
use Rattle.std.specs.Prelude.{map}
use Rattle.std.proofs.lemmas.List.{map-append, take_more}
use Rattle.examples.specs.Accused.{round_and_signer}
use Rattle.examples.proofs.accused.places.Goals as goal

-- one more
map_more : {X Y : Type 0} (f : X → Y) (xs : List X) (i : ℕ) (x : X) (ys : List Y) → i < length xs → x ≡ get_or xs i x →
    ys ≡ map f (take i xs) →
    ys ++ f x ∷ [] ≡ map f (take (i + 1) xs)
map_more {X} {Y} f xs i x ys lt is so_far =
    rw (take_more xs i x lt, sym is, map-append f (take i xs) (x ∷ [])) (ap (λ (l : List Y). l ++ f x ∷ []) so_far)

pub loop-one-preserved : goal.loop-one-preserved
loop-one-preserved c =
    let more : c.loop-one.places.items ++ (c.round.result, c.signer.result) ∷ []
    ≡ map round_and_signer (take (c.loop-one.one-index + 1) c.args.evidence.now) =
    rw (c.round.ensures, c.signer.ensures) (map_more round_and_signer c.args.evidence.now c.loop-one.one-index c.one-item.result
    c.loop-one.places.items c.loop-one-test.true c.one-item.is c.loop-one.invariant) in
    c.in_ok-push.ensures.items ∙ more
