use Rattle.std.proofs.Common.{◌≡◌, ℕ, ◌+◌, ◌<◌, List, [], ◌∷◌, ◌++◌, take, length, get_or, ap, ◌∙◌, append-nil}
use Rattle.std.specs.Borrow.{Bor}
use Rattle.std.specs.List.{fold}
use Rattle.std.proofs.lemmas.List.{take_more}
use Rattle.std.proofs.lemmas.List.Sums.{fold-append}
use Rattle.std.proofs.lemmas.Grind.{flat_map-append}
use Rattle.simplex_scheme.specs.Hashing.{joined}
use Rattle.simplex_message_tests.proofs.leaders.FallingHasher.hash.Goals as goal

-- one more part
joined_more : (parts : List (Bor (List ℕ))) (i : ℕ) (d : Bor (List ℕ)) → i < length parts →
    joined (take (i + 1) parts) ≡ joined (take i parts) ++ (get_or parts i d).now
joined_more parts i d lt =
    ap joined (take_more parts i d lt)
    ∙ (flat_map-append (λ (part : Bor (List ℕ)). part.now) (take i parts) (get_or parts i d ∷ []) ∙
    ap (λ (t : List ℕ). joined (take i parts) ++ t) (append-nil (get_or parts i d).now))

-- the last byte of one more part
last_more : (parts : List (Bor (List ℕ))) (i last next : ℕ) (d : Bor (List ℕ)) → i < length parts →
    last ≡ fold (λ _ byte. byte) 0 (joined (take i parts)) → next ≡ fold (λ _ byte. byte) last (get_or parts i d).now →
    next ≡ fold (λ _ byte. byte) 0 (joined (take (i + 1) parts))
last_more parts i last next d lt was is =
    rw (joined_more parts i d lt, fold-append (λ _ byte. byte) 0 (joined (take i parts)) (get_or parts i d).now, ← was) is

pub loop-part-preserved : goal.loop-part-preserved
loop-part-preserved c =
    last_more c.args.parts.now c.loop-part.part-index c.loop-part.last _ _ c.loop-part-test.true c.loop-part.invariant
    c.last_of-last.ensures
