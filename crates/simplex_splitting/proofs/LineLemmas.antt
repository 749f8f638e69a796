-- The lines of files, one after the other.
use Rattle.std.proofs.Common.{◌≡◌, ◌<◌, ◌+◌, ◌||◌, ◌∙◌, Bool, true, false, ℕ, zero, suc, List, [], ◌∷◌, ◌++◌, Option, arith, get_or, length, map, take, drop, refl, sym, ap, subst, string_bytes, append_assoc, append-nil, length-append}
use Rattle.std.specs.Global.{Global}
use Rattle.std.specs.Io.KnownBytes.{Appends}
use Rattle.std.specs.Prelude.{String, is_some}
use Rattle.std.proofs.KnownBytes.{Appends-trans}
use Rattle.std.proofs.lemmas.List.{take-append-drop}
use Rattle.std.proofs.lemmas.List.Elements.{All-append, All-cons, All-nil}
use Rattle.simplex_stream.specs.Text.{AppendsBeginning}
use Rattle.simplex_splitting.specs.Ending.{AreRead, any_fault, line_of, lines}
use Rattle.simplex_splitting.specs.declared.splitting.Totals.{Totals}
use Rattle.simplex_splitting.proofs.CutLemmas.{begins}

-- the name of a file at its place
pub name_there : (names : List (String Global)) (i : ℕ) (name : String Global) → i < length names → name ≡ get_or names i name →
    get_or (map string_bytes names) i [] ≡ string_bytes name
name_there [] i name within is = absurd (omega (arith, within))
name_there (n ∷ names) zero name within is = ap string_bytes (sym is)
name_there (n ∷ names) (suc i) name within is = name_there names i name (omega (arith, within)) is

-- nothing is said of no file
pub no_lines : (names : List (List ℕ)) → lines names [] ≡ []
no_lines [] = refl
no_lines (n ∷ names) = refl

-- the lines of files and of one more
pub lines_more : (names : List (List ℕ)) (all : List Totals) (name : List ℕ) (t : Totals) → length all < length names →
    get_or names (length all) [] ≡ name → lines names (all ++ t ∷ []) ≡ lines names all ++ line_of name t
lines_more [] all name t within is = absurd (omega (arith, within))
lines_more (n ∷ names) [] name t within is =
    ap (λ (l : List ℕ). line_of n t ++ l) (no_lines names)
    ∙ append-nil (line_of n t) ∙ ap (λ (m : List ℕ). line_of m t) is
lines_more (n ∷ names) (u ∷ all) name t within is =
    ap (λ (l : List ℕ). line_of n u ++ l) (lines_more names all name t (omega (arith, within)) is)
    ∙ sym (append_assoc (line_of n u) (lines names all) (line_of name t))

or_false : (b : Bool) → (b || false) ≡ b
or_false true = refl
or_false false = refl

or_assoc : (a b c : Bool) → (a || (b || c)) ≡ ((a || b) || c)
or_assoc true b c = refl
or_assoc false b c = refl

-- whether files or one more have a fault
pub any_more : (all : List Totals) (t : Totals) → any_fault (all ++ t ∷ []) ≡ (any_fault all || is_some t.fault)
any_more [] t = or_false (is_some t.fault)
any_more (u ∷ all) t =
    ap (λ (b : Bool). is_some u.fault || b) (any_more all t) ∙ or_assoc (is_some u.fault) (any_fault all) (is_some t.fault)

-- one file more was read
pub read_more : (Reads : List ℕ → Totals → Type 0) (all : List Totals) (t : Totals) → AreRead Reads all →
    ((input : List ℕ) × Reads input t) → AreRead Reads (all ++ t ∷ [])
read_more Reads all t each one =
    All-append (λ totals. (input : List ℕ) × Reads input totals) all (t ∷ []) each
    (All-cons (λ totals. (input : List ℕ) × Reads input totals) t [] one (All-nil _))

-- the line of one more was written
pub said_more : (a b c : Option (List ℕ)) (names : List (List ℕ)) (all : List Totals) (name : List ℕ) (t : Totals) →
    length all < length names → get_or names (length all) [] ≡ name → Appends a b (lines names all) →
    Appends b c (line_of name t) → Appends a c (lines names (all ++ t ∷ []))
said_more a b c names all name t within is before one =
    subst (Appends a c) (sym (lines_more names all name t within is))
    (Appends-trans a b c (lines names all) (line_of name t) before one)

-- a prefix of it was
pub said_begun : (a b c : Option (List ℕ)) (names : List (List ℕ)) (all : List Totals) (name : List ℕ) (t : Totals) →
    length all < length names → get_or names (length all) [] ≡ name → Appends a b (lines names all) →
    AppendsBeginning b c (line_of name t) → AppendsBeginning a c (lines names (all ++ t ∷ []))
said_begun a b c names all name t within is before (count, one) =
    let line = line_of name t in
    begins a c (lines names all ++ take count line) (drop count line) (lines names (all ++ t ∷ []))
    (lines_more names all name t within is
    ∙ ap (λ (l : List ℕ). lines names all ++ l) (sym (take-append-drop count line))
    ∙ sym (append_assoc (lines names all) (take count line) (drop count line)))
    (Appends-trans a b c (lines names all) (take count line) before one)

-- how many these are
pub one_longer : (all : List Totals) (t : Totals) → length (all ++ t ∷ []) ≡ length all + 1
one_longer all t = omega (arith, length-append all (t ∷ []))
