-- One item more that passes a test, or does not.
use Rattle.std.proofs.Common.{◌≡◌, ℕ, ◌+◌, ◌<◌, Bool, true, false, List, [], ◌∷◌, ◌++◌, length, get_or, take, map, sym, ap, ◌∙◌, cond, arith}
use Rattle.std.specs.List.{filter}
use Rattle.std.proofs.lemmas.List.{get_or-map, append-nil}
use Rattle.std.proofs.lemmas.List.Elements.{filter_more}

-- the item at the place passes
pub one_more : {X : Type 0} (p : X → Bool) (xs : List X) (i : ℕ) (e : Bool) (d : X) → i < length xs →
    get_or (map p xs) i e ≡ true → filter p (take (i + 1) xs) ≡ filter p (take i xs) ++ get_or xs i d ∷ []
one_more p xs i e d lt so =
    filter_more p xs i d lt
    ∙ ap (λ b. filter p (take i xs) ++ cond b (get_or xs i d ∷ []) []) (sym (get_or-map p xs i d e lt) ∙ so)

-- the item at the place does not pass
pub none_more : {X : Type 0} (p : X → Bool) (xs : List X) (i : ℕ) (e : Bool) → i < length xs → get_or (map p xs) i e ≡ false →
    filter p (take (i + 1) xs) ≡ filter p (take i xs)
none_more p [] i e lt so = absurd (omega arith)
none_more p (x ∷ xs) i e lt so =
    filter_more p (x ∷ xs) i x lt ∙ ap (λ b. filter p (take i (x ∷ xs)) ++ cond b (get_or (x ∷ xs) i x ∷ []) [])
    (sym (get_or-map p (x ∷ xs) i x e lt) ∙ so) ∙ append-nil _
