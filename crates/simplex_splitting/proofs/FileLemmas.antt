-- Which files have the names of parts.
use Rattle.std.proofs.Common.{◌≡◌, ◌<◌, ◌^◌, ◌∙◌, ℕ, zero, suc, List, [], ◌∷◌, ◌++◌, arith, get_or, length, refl, sym}
use Rattle.std.specs.Prelude.{codes, decimal}
use Rattle.std.proofs.lemmas.Fmt.{decimal_injective}

-- behind the same bytes stand the same ones
same_behind : (front xs ys : List ℕ) → front ++ xs ≡ front ++ ys → xs ≡ ys
same_behind [] xs ys e = e
same_behind (b ∷ front) xs ys e = same_behind front xs ys cc

-- the class that a name of a part says
pub class_said : (prefix name number : List ℕ) (class another : ℕ) → class < 2 ^ 64 → another < 2 ^ 64 →
    name ≡ prefix ++ (codes "." ++ number) → number ≡ decimal class →
    name ≡ prefix ++ (codes "." ++ decimal another) → class ≡ another
class_said prefix name number class another small small' is said other =
    let behind = same_behind prefix (codes "." ++ number) (codes "." ++ decimal another) (sym is ∙ other) in
    let same : number ≡ decimal another = cc in
    decimal_injective class another small small' (sym said ∙ same)

-- an element of a list, whatever stands past its end
pub same_within : {X : Type 0} (xs : List X) (k : ℕ) (d e : X) → k < length xs → get_or xs k d ≡ get_or xs k e
same_within [] k d e within = absurd (omega (arith, within))
same_within (x ∷ xs) zero d e within = refl
same_within (x ∷ xs) (suc k) d e within = same_within xs k d e (omega (arith, within))
