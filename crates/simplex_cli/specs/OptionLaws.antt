-- Words behind options.
use Rattle.std.proofs.Common.{◌≡◌, ◌∙◌, arith, ap, drop, inl, inr, length, length-drop, map, refl, take, ◌-◌, ◌+◌, ℕ, suc, zero, List, [], ◌∷◌, sym}
use Rattle.std.proofs.Math.Seq.{drop-nil, take-length}
use Rattle.std.proofs.lemmas.List.{drop-map}
use Rattle.simplex_cli.specs.Options.{AreBehindOption}

-- all that is left behind some elements
pub taken : {X : Type 0} (n : ℕ) (xs : List X) → take (length xs - n) (drop n xs) ≡ drop n xs
taken n xs = ap (λ k. take k (drop n xs)) (sym (length-drop n xs)) ∙ take-length (drop n xs)

-- the words of the arguments behind the first ones
pub words_behind : {X Y : Type 0} (f : X → Y) (n : ℕ) (xs : List X) →
    map f (take (length xs - n) (drop n xs)) ≡ drop n (map f xs)
words_behind f n xs =
    ap (map f) (taken n xs) ∙ sym (drop-map f n xs)

-- what is left without some first elements and without some more
pub drop_twice : {X : Type 0} (n k : ℕ) (xs : List X) → drop k (drop n xs) ≡ drop (n + k) xs
drop_twice zero k xs = ap (λ m. drop m xs) (omega arith)
drop_twice (suc n) k [] = drop-nil k ∙ sym (drop-nil (suc n + k))
drop_twice (suc n) k (x ∷ xs) =
    let same : suc (n + k) ≡ suc n + k = omega arith in
    drop_twice n k xs ∙ ap (λ m. drop m (x ∷ xs)) same

-- the same words stand behind an option, whichever the number is
pub behind_alone : (option : List ℕ) (otherwise : ℕ) (words behind others : List (List ℕ)) (number another : ℕ) →
    AreBehindOption option otherwise words number behind → AreBehindOption option otherwise words another others →
    behind ≡ others
behind_alone option otherwise words behind others number another (inl given) (inl again) =
    let same = sym given.0 ∙ again.0 in cc
behind_alone option otherwise words behind others number another (inl given) (inr none) = absurd (none.0 (_, given.0))
behind_alone option otherwise words behind others number another (inr none) (inl given) = absurd (none.0 (_, given.0))
behind_alone option otherwise words behind others number another (inr none) (inr again) = none.2 ∙ sym again.2
