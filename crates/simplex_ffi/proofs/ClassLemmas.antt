-- Ranges of classes that stand one class after another.
use Rattle.std.proofs.Common.{◌≡◌, ◌+◌, ℕ, suc, List, [], ◌∷◌, ◌++◌, length, map, refl, sym, ap, subst, ◌∙◌, arith, append-nil, length-append}
use Rattle.std.specs.Prelude.{Vec}
use Rattle.std.specs.Global.{Global}
use Rattle.std.specs.List.{flat_map}
use Rattle.std.proofs.lemmas.Grind.{flat_map-append}
use Rattle.std.proofs.lemmas.List.{map-append}
use Rattle.simplex_base.specs.Format.{Format}
use Rattle.simplex_base.specs.Positions.{Round}
use Rattle.simplex_shards.specs.Classes.{AreClassRanges, ranges_in}
use Rattle.simplex_shards.specs.declared.classes.ClassRanges.{ClassRanges}
use Rattle.simplex_shards.specs.declared.index.Row.{Row}
use Rattle.simplex_shards.specs.declared.ranges.Range.{Range}
use Rattle.simplex_ffi.specs.Rows.{all_ranges, ends_from}

-- where the ranges of one class more end
pub ends_more : (n : ℕ) (xs : List (List Range)) (x : List Range) →
    ends_from n (xs ++ x ∷ []) ≡ ends_from n xs ++ (n + length (flat_map (λ l. l) xs ++ x)) ∷ []
ends_more n [] x = refl
ends_more n (y ∷ ys) x =
    let next = n + length y in
    let all : List Range = flat_map (λ l. l) ys in
    let same : next + length (all ++ x) ≡ n + length ((y ++ all) ++ x) =
    omega (arith, length-append all x, length-append (y ++ all) x, length-append y all) in
    ap (λ (l : List ℕ). next ∷ l)
    (ends_more next ys x ∙ ap (λ (k : ℕ). ends_from next ys ++ k ∷ []) same)

-- there are as many as there are classes
pub ends_count : (n : ℕ) (xs : List (List Range)) → length (ends_from n xs) ≡ length xs
ends_count n [] = refl
ends_count n (x ∷ xs) = ap suc (ends_count (n + length x) xs)

-- the ranges of all classes
pub all_items : (parts : List (Vec Range Global)) →
    flat_map (λ part. part.items) parts ≡ flat_map (λ l. l) (map (λ part. part.items) parts)
all_items [] = refl
all_items (part ∷ parts) = ap (λ (l : List Range). part.items ++ l) (all_items parts)

-- where ranges of these classes stand one class after another
abbrev pub AreLaidOut : List (Vec Range Global) → List Range → List ℕ → Type 0
AreLaidOut parts ranges ends =
    (ranges ≡ flat_map (λ part. part.items) parts) × (ends ≡ ends_from 0 (map (λ part. part.items) parts))

-- one class more
pub laid_out_more : (parts : List (Vec Range Global)) (part : Vec Range Global) (more : List (Vec Range Global)) →
    more ≡ parts ++ part ∷ [] → (ranges further : List Range) (ends places : List ℕ) → AreLaidOut parts ranges ends →
    further ≡ ranges ++ part.items → places ≡ ends ++ length further ∷ [] → AreLaidOut more further places
laid_out_more parts part more joined ranges further ends places before grown put =
    let view : Vec Range Global → List Range = λ v. v.items in
    let all : further ≡ flat_map view parts ++ part.items = grown ∙ ap (λ (l : List Range). l ++ part.items) before.0 in
    let views : map view more ≡ map view parts ++ part.items ∷ [] =
    ap (map view) joined ∙ map-append view parts (part ∷ []) in (
      all ∙ (ap (λ (l : List Range). flat_map view parts ++ l) (sym (append-nil part.items)) ∙
          (sym (flat_map-append view parts (part ∷ [])) ∙ ap (flat_map view) (sym joined))),
      put ∙ (ap (λ (l : List ℕ). l ++ length further ∷ []) before.1 ∙
          (ap (λ (k : ℕ). ends_from 0 (map view parts) ++ k ∷ [])
          (ap length (all ∙ ap (λ (l : List Range). l ++ part.items) (all_items parts)) ∙ omega arith) ∙
          (sym (ends_more 0 (map view parts) part.items) ∙ ap (ends_from 0) (sym views)))),
    )

-- what is laid out of the ranges that were found
pub found_laid_out : (found : ClassRanges) (parts : List (Vec Range Global)) → parts ≡ found.ranges.items →
    (ranges : List Range) (ends : List ℕ) → AreLaidOut parts ranges ends →
    (ranges ≡ all_ranges found) × (ends ≡ ends_from 0 (ranges_in found))
found_laid_out found parts same ranges ends laid = (
  laid.0 ∙ (ap (flat_map (λ part. part.items)) same ∙ all_items found.ranges.items),
  laid.1 ∙ ap (λ (l : List (Vec Range Global)). ends_from 0 (map (λ part. part.items) l)) same,
)

-- the ranges of classes under a cut that is known
pub found_as : {M : Type 0} {format : Format M} {round : M → Round} {row_of : ℕ → M → Row} {cut class : Round → ℕ}
    {n classes : ℕ} {stream : List ℕ} {found : ClassRanges} → cut ≡ class → n ≡ classes →
    AreClassRanges format round row_of cut n stream found → AreClassRanges format round row_of class classes stream found
found_as {M} {format} {round} {row_of} {cut} {class} {n} {classes} {stream} {found} by many are =
    subst (λ (f : Round → ℕ). AreClassRanges format round row_of f classes stream found) by
    (subst (λ (k : ℕ). AreClassRanges format round row_of cut k stream found) many are)
