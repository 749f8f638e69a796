-- Why words and texts name no committees.
use Rattle.std.proofs.Common.{◌≡◌, ℕ, zero, suc, ◌<◌, ◌≤◌, List, [], ◌∷◌, Result, Err, take, drop, get_or, refl, sym, ap, subst, ◌∙◌, arith}
use Rattle.std.specs.Prelude.{◌≢◌, All}
use Rattle.std.proofs.lemmas.List.Elements.{All-head}
use Rattle.simplex_scheme.specs.Committees.{Every, Listed, AreRising}
use Rattle.simplex_scheme.specs.declared.committees.CommitteesError.{CommitteesError}
use Rattle.simplex_scheme.specs.declared.committees.CommitteesError.TheVariants as errors
use Rattle.simplex_cli.specs.Arguments.{AreGroups, AreNoArguments, BeginsGroup, IsNaming, NameCommittees, NameNoCommittees, NameNone, Naming, StandsBeforeGroup, by_keys}

-- texts that name a committee begin no group
pub names_stand : {S : Type 0} (naming : Naming S) (law : IsNaming naming) (texts : List (List ℕ)) (committee : S) →
    naming.names texts committee → StandsBeforeGroup texts → ⊥
names_stand naming law [] committee is stands = law.some committee is
names_stand naming law (text ∷ texts) committee is stands =
    All-head (λ (t : List ℕ). BeginsGroup t → ⊥) text texts (law.apart (text ∷ texts) committee is) stands

-- groups of texts begin with the first text
pub groups_begin : {S : Type 0} (naming : Naming S) (texts : List (List ℕ)) (pairs : List (ℕ × S)) (n : ℕ) → pairs ≢ [] →
    0 < n → All (λ text. BeginsGroup text → ⊥) (take n texts) → AreGroups naming texts pairs → ⊥
groups_begin naming texts [] n some above none are = some refl
groups_begin naming texts (pair ∷ pairs) zero some above none are = absurd (omega (arith, above))
groups_begin naming texts (pair ∷ pairs) (suc n) some above none (own, rest, e, small, is, others) =
    All-head (λ (t : List ℕ). BeginsGroup t → ⊥) _ _
    (subst (λ ts. All (λ text. BeginsGroup text → ⊥) (take (suc n) ts)) e none) (_, refl)

-- where there are groups there are texts
pub groups_some : {S : Type 0} (naming : Naming S) (texts : List (List ℕ)) (pairs : List (ℕ × S)) → pairs ≢ [] → texts ≡ [] →
    AreGroups naming texts pairs → ⊥
groups_some naming texts [] some none are = some refl
groups_some naming texts (pair ∷ pairs) some none (own, rest, e, small, is, others) = absurd cc

-- the texts begin with no group, and name no committee
pub not_one : {S : Type 0} (naming : Naming S) (texts : List (List ℕ)) (n : ℕ) → 0 < n →
    All (λ text. BeginsGroup text → ⊥) (take n texts) → NameNone naming texts → NameNoCommittees naming texts
not_one naming texts n above none not (Every committee) is = not committee is
not_one naming texts n above none not (Listed pairs) (some, rising, are) =
    groups_begin naming texts pairs n some above none are

-- the texts begin with a group, and are no groups whose epochs rise
pub no_rising : {S : Type 0} (naming : Naming S) (law : IsNaming naming) (texts : List (List ℕ)) (n : ℕ) → n ≤ 0 →
    StandsBeforeGroup (drop n texts) → ((pairs : List (ℕ × S)) → AreGroups naming texts pairs → AreRising pairs → ⊥) →
    NameNoCommittees naming texts
no_rising naming law texts n first stands not (Every committee) is =
    let at : n ≡ 0 = omega (arith, first) in
    names_stand naming law texts committee is (subst (λ k. StandsBeforeGroup (drop k texts)) at stands)
no_rising naming law texts n first stands not (Listed pairs) (some, rising, are) = not pairs are rising

-- there are no texts
pub no_texts_named : {S : Type 0} (naming : Naming S) (law : IsNaming naming) (texts : List (List ℕ)) → texts ≡ [] →
    NameNoCommittees naming texts
no_texts_named naming law texts none (Every committee) is =
    names_stand naming law texts committee is (subst StandsBeforeGroup (sym none) tt)
no_texts_named naming law texts none (Listed pairs) (some, rising, are) = groups_some naming texts pairs some none are

-- a namespace and texts that name no committees
pub no_arguments : (words : List (List ℕ)) (namespace : List ℕ) (texts : List (List ℕ)) → words ≡ namespace ∷ texts →
    NameNoCommittees (by_keys namespace) texts → AreNoArguments words
no_arguments words namespace texts whole none committees (name, others, e, named) =
    let both = sym e ∙ whole in
    none committees
    (subst (λ n. NameCommittees (by_keys n) texts committees) (ap (λ (ws : List (List ℕ)). get_or ws 0 []) both)
    (subst (λ ts. NameCommittees (by_keys name) ts committees) (ap (drop 1) both) named))

-- a refused list whose epochs rise is empty
pub refused_empty : {A S : Type 0} (error : CommitteesError) (pairs : List (ℕ × S)) →
    (let r : Result A CommitteesError = Err error in
    (r ≡ Err errors.Empty → pairs ≡ []) × (r ≡ Err errors.Unordered → AreRising pairs → ⊥)) → AreRising pairs → pairs ≡ []
refused_empty errors.Empty pairs told rising = told.0 refl
refused_empty errors.Unordered pairs told rising = absurd (told.1 refl rising)
