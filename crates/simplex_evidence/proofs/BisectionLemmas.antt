-- What one result for a whole list says of each item.
use Rattle.std.specs.Prelude.{◌≡◌, ◌⊎◌, Bool, true, List, [], ◌∷◌, length, map, replicate}
use Rattle.std.specs.List.{list_all}
use Rattle.std.proofs.Common.{inl, inr, refl, arith}

-- where all pass, each does
each_passes : {X : Type 0} (passes : X → Bool) (xs : List X) → list_all passes xs ≡ true →
    replicate (length xs) true ≡ map passes xs
each_passes passes [] all = refl
each_passes passes (x ∷ xs) all = grind (arith, each_passes passes xs)

-- where all pass, or there is a single item, the result for the list is that for each item
pub throughout : {X : Type 0} (passes : X → Bool) (xs : List X) (all : Bool) → all ≡ list_all passes xs →
    (all ≡ true) ⊎ (length xs ≡ 1) → replicate (length xs) all ≡ map passes xs
throughout passes xs all is (inl accepted) = rw accepted (each_passes passes xs (rw (← is) accepted))
throughout passes [] all is (inr one) = refl
throughout passes (x ∷ []) all is (inr one) = grind (arith, is)
throughout passes (x ∷ y ∷ xs) all is (inr one) = absurd (omega arith)
