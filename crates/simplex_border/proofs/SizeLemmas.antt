-- Committees by their sizes.
use Rattle.std.proofs.Common.{◌≡◌, ℕ, zero, suc, ◌+◌, ◌<◌, ◌≤◌, List, [], ◌∷◌, ◌++◌, length, get_or, drop, refl, sym, ap, ◌∙◌, append_assoc, append-nil, subst, true, false, nat_eq, arith}
use Rattle.std.specs.List.Sorted.{IsStrictlySortedBy}
use Rattle.std.specs.Ordering.{nat_cmp}
use Rattle.std.specs.Prelude.{◌==◌, All, map}
use Rattle.std.specs.List.{list_any}
use Rattle.std.proofs.Math.ListN.{get_or-map}
use Rattle.std.proofs.lemmas.Bool.{eqb-false, eqb-true, false≢true}
use Rattle.std.proofs.lemmas.Bool.Decides.{nat_tests}
use Rattle.std.proofs.lemmas.List.Elements.{All-nil, All-cons, All-head}
use Rattle.std.proofs.lemmas.List.{drop_more, drop_all, length-map}
use Rattle.std.proofs.lemmas.Map.Keys.{below_from_sorted, sorted_from_strictly_increasing}
use Rattle.simplex_schemes.specs.Vouched.{VouchedScheme, of_size}
use Rattle.simplex_scheme.specs.Committees.{Schedule, Every, Listed, AreRising}
use Rattle.simplex_scheme.specs.declared.committees.CommitteesError.{CommitteesError}
use Rattle.simplex_scheme.specs.declared.committees.CommitteesError.TheVariants as errors
use Rattle.simplex_border.specs.Sizes.{AreSizes, AreCommitteeSizes, pairs_of}

-- one more epoch
pub pairs_more : (epochs sizes : List ℕ) (i : ℕ) (before whole : List (ℕ × VouchedScheme)) → i < length epochs →
    i < length sizes →
    before ++ pairs_of (drop i epochs) (drop i sizes) ≡ whole →
    (before ++ (get_or epochs i 0, of_size (get_or sizes i 0)) ∷ []) ++ pairs_of (drop (i + 1) epochs) (drop (i + 1) sizes)
    ≡ whole
pairs_more epochs sizes i before whole le ls is =
    let unrolled : pairs_of (drop i epochs) (drop i sizes)
    ≡ (get_or epochs i 0, of_size (get_or sizes i 0)) ∷ pairs_of (drop (i + 1) epochs) (drop (i + 1) sizes) =
    rw (drop_more epochs i 0 le, drop_more sizes i 0 ls) refl in
    append_assoc before ((get_or epochs i 0, of_size (get_or sizes i 0)) ∷ [])
    (pairs_of (drop (i + 1) epochs) (drop (i + 1) sizes)) ∙
    (ap (λ (l : List (ℕ × VouchedScheme)). before ++ l) (sym unrolled) ∙ is)

-- all of them
pub pairs_whole : (epochs sizes : List ℕ) (i : ℕ) (before whole : List (ℕ × VouchedScheme)) → length epochs ≤ i →
    before ++ pairs_of (drop i epochs) (drop i sizes) ≡ whole → before ≡ whole
pairs_whole epochs sizes i before whole over is =
    let none : pairs_of (drop i epochs) (drop i sizes) ≡ [] = rw (drop_all i epochs over) refl in
    sym (append-nil before) ∙ (ap (λ (l : List (ℕ × VouchedScheme)). before ++ l) (sym none) ∙ is)

-- no pairs, where each epoch has a size
no_pairs : (epochs sizes : List ℕ) → length epochs ≡ length sizes → pairs_of epochs sizes ≡ [] → epochs ≡ []
no_pairs [] sizes same none = refl
no_pairs (e ∷ es) [] same none = absurd cc
no_pairs (e ∷ es) (n ∷ ns) same none = absurd cc

-- the pairs are refused as committees, so the sizes give no committees
pub refused : (epochs sizes : List ℕ) (pairs : List (ℕ × VouchedScheme)) (e : CommitteesError) → pairs ≡ pairs_of epochs sizes →
    (epochs ≡ [] → ⊥) →
    (e ≡ errors.Empty → pairs ≡ []) → (e ≡ errors.Unordered → AreRising pairs → ⊥) → (committees : Schedule VouchedScheme) →
    AreSizes epochs sizes committees → ⊥
refused epochs sizes pairs e is some empty unordered (Every committee) are = some are.0
refused epochs sizes pairs errors.Empty is some empty unordered (Listed others) are =
    some (no_pairs epochs sizes are.1 (sym is ∙ empty refl))
refused epochs sizes pairs errors.Unordered is some empty unordered (Listed others) are =
    unordered refl (subst (λ (ps : List (ℕ × VouchedScheme)). AreRising ps) (are.4 ∙ sym is) are.3)

-- there are epochs
pub some_epochs : (epochs : List ℕ) → false ≡ (length epochs == 0) → epochs ≡ [] → ⊥
some_epochs epochs is e = eqb-false (length epochs) 0 (sym is) (ap length e)

-- the epochs of the pairs
epochs_of : (epochs sizes : List ℕ) → length epochs ≡ length sizes → map (λ p. p.0) (pairs_of epochs sizes) ≡ epochs
epochs_of [] sizes same = refl
epochs_of (e ∷ es) [] same = absurd (omega (arith, same))
epochs_of (e ∷ es) (n ∷ ns) same = ap (λ (l : List ℕ). e ∷ l) (epochs_of es ns (omega (arith, same)))

-- the epoch of a pair, and how many pairs there are
pairs_at : {S : Type 0} (epochs : List ℕ) (pairs : List (ℕ × S)) → map (λ p. p.0) pairs ≡ epochs →
    (length pairs ≡ length epochs) × ((k : ℕ) (d : ℕ × S) → (get_or pairs k d).0 ≡ get_or epochs k d.0)
pairs_at {S} epochs pairs is =
    let epoch : ℕ × S → ℕ = λ p. p.0 in
    (sym (length-map pairs epoch) ∙ ap length is, λ k d. sym (get_or-map epoch pairs k d) ∙ ap (λ ns. get_or ns k d.0) is)

-- the pairs rise if the epochs do
pub rising_pairs : {S : Type 0} (epochs : List ℕ) (pairs : List (ℕ × S)) → map (λ p. p.0) pairs ≡ epochs →
    IsStrictlySortedBy nat_cmp epochs → AreRising pairs
rising_pairs {S} epochs pairs is rising i j d lt within =
    let at = pairs_at epochs pairs is in
    omega (arith, at.1 i d, at.1 j d, below_from_sorted epochs i j d.0 rising lt (omega (arith, within, at.0)))

-- the epochs rise if the pairs do
rising_epochs : (epochs sizes : List ℕ) → length epochs ≡ length sizes → AreRising (pairs_of epochs sizes) →
    IsStrictlySortedBy nat_cmp epochs
rising_epochs epochs sizes same rising =
    let at = pairs_at epochs (pairs_of epochs sizes) (epochs_of epochs sizes same) in
    let d : ℕ × VouchedScheme = (0, of_size 0) in
    sorted_from_strictly_increasing epochs
    (λ k within. omega (arith, at.1 k d, at.1 (k + 1) d, rising k (k + 1) d (omega arith) (omega (arith, within, at.0))))

-- there are no epochs
pub no_epochs : (epochs : List ℕ) → true ≡ (length epochs == 0) → epochs ≡ []
no_epochs [] is = refl
no_epochs (e ∷ es) is = absurd (omega (arith, eqb-true (length (e ∷ es)) 0 (sym is)))

-- a number above 0 is not 0
not_zero : (n : ℕ) → nat_eq (suc n) 0 ≡ false
not_zero n = grind (arith, nat_tests)

-- no size is 0
pub some_sizes : (sizes : List ℕ) → list_any (λ n. nat_eq n 0) sizes ≡ false → All (λ n. 1 ≤ n) sizes
some_sizes [] none = All-nil _
some_sizes (zero ∷ ns) none = absurd (false≢true (sym none))
some_sizes (suc n ∷ ns) none = All-cons (λ n. 1 ≤ n) (suc n) ns (omega arith) (some_sizes ns (rw (not_zero n) at none))

-- without epochs there is one size
pub size_of_one : (epochs sizes : List ℕ) → epochs ≡ [] → AreCommitteeSizes epochs sizes → (n : ℕ) × (sizes ≡ n ∷ []) × (1 ≤ n)
size_of_one epochs sizes none (Every committee, are) = (are.1.0, are.1.1, are.1.2)
size_of_one epochs sizes none (Listed pairs, are) = absurd (are.0 none)

-- one size for every epoch
pub one_size : (sizes : List ℕ) → length sizes ≡ 1 → All (λ n. 1 ≤ n) sizes → AreCommitteeSizes [] sizes
one_size [] many some = absurd (omega (arith, many))
one_size (m ∷ n ∷ ns) many some = absurd (omega (arith, many))
one_size (n ∷ []) many some = (Every (of_size n), (refl, (n, refl, All-head (λ n. 1 ≤ n) n [] some, refl)))

-- with epochs there is a size for each
pub sizes_of_listed : (epochs sizes : List ℕ) → (epochs ≡ [] → ⊥) → AreCommitteeSizes epochs sizes →
    (length epochs ≡ length sizes) × All (λ n. 1 ≤ n) sizes × IsStrictlySortedBy nat_cmp epochs
sizes_of_listed epochs sizes listed (Every committee, are) = absurd (listed are.0)
sizes_of_listed epochs sizes listed (Listed pairs, are) =
    (are.1, are.2, rising_epochs epochs sizes are.1 (subst (λ (ps : List (ℕ × VouchedScheme)). AreRising ps) are.4 are.3))

-- sizes of listed epochs
pub listed_sizes : (epochs sizes : List ℕ) → (epochs ≡ [] → ⊥) → length epochs ≡ length sizes → All (λ n. 1 ≤ n) sizes →
    IsStrictlySortedBy nat_cmp epochs → AreCommitteeSizes epochs sizes
listed_sizes epochs sizes listed same some rising =
    let pairs = pairs_of epochs sizes in
    (Listed pairs, (listed, same, some, rising_pairs epochs pairs (epochs_of epochs sizes same) rising, refl))
