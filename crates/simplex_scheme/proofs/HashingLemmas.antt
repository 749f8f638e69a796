-- The bytes of the parts that are hashed so far, and of one more.
use Rattle.std.proofs.Common.{◌≡◌, ℕ, ◌+◌, ◌<◌, List, [], ◌∷◌, ◌++◌, take, length, get_or, ap, ◌∙◌, append-nil}
use Rattle.std.specs.Borrow.{Bor}
use Rattle.std.proofs.lemmas.List.{take_more}
use Rattle.std.proofs.lemmas.Grind.{flat_map-append}
use Rattle.simplex_scheme.specs.Hashing.{joined}

pub joined_more : (parts : List (Bor (List ℕ))) (i : ℕ) (d : Bor (List ℕ)) → i < length parts →
    joined (take (i + 1) parts) ≡ joined (take i parts) ++ (get_or parts i d).now
joined_more parts i d lt =
    ap joined (take_more parts i d lt)
    ∙ (flat_map-append (λ (part : Bor (List ℕ)). part.now) (take i parts) (get_or parts i d ∷ []) ∙
    ap (λ (t : List ℕ). joined (take i parts) ++ t) (append-nil (get_or parts i d).now))
