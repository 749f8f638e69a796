-- Why texts are no groups, or none whose epochs rise.
use Rattle.std.proofs.Common.{◌≡◌, ℕ, List, [], ◌∷◌, ◌++◌, ◌<◌, ◌^◌, take, drop, map, refl, sym, ap, subst, ◌∙◌, append_assoc}
use Rattle.std.specs.Prelude.{◌≢◌, All}
use Rattle.std.proofs.lemmas.List.{map-append}
use Rattle.simplex_scheme.specs.Committees.{AreRising}
use Rattle.simplex_cli.specs.Arguments.{AreGroups, BeginsGroup, IsNaming, NameNone, Naming, StandsBeforeGroup, epoch_text}
use Rattle.simplex_cli.proofs.GroupLemmas.{first_group, epoch_told, risen}

-- the epochs of groups
abbrev pub epochs_of : {S : Type 0} → List (ℕ × S) → List ℕ
epochs_of pairs = map (λ p. p.0) pairs

-- if the texts are groups, their epochs are those of `before`, and then those of groups that `rest` is
abbrev pub Continues : {S : Type 0} → Naming S → List (List ℕ) → List (List ℕ) → List (ℕ × S) → Type 0
Continues {S} naming texts rest before =
    (pairs : List (ℕ × S)) → AreGroups naming texts pairs
    → (more : List (ℕ × S)) × AreGroups naming rest more × (epochs_of pairs ≡ epochs_of before ++ epochs_of more)

-- at first nothing stands before
pub continues_first : {S : Type 0} (naming : Naming S) (texts : List (List ℕ)) → Continues naming texts texts []
continues_first naming texts pairs are = (pairs, are, refl)

-- no epoch's text comes next
pub no_epoch : {S : Type 0} (naming : Naming S) (law : IsNaming naming) (texts rest behind : List (List ℕ))
    (before : List (ℕ × S)) (text : List ℕ) →
    Continues naming texts rest before → rest ≡ text ∷ behind
    → ((epoch : ℕ) → epoch < 2 ^ 64 → text ≢ epoch_text epoch) → (pairs : List (ℕ × S))
    → AreGroups naming texts pairs → ⊥
no_epoch naming law texts rest behind before text continues next none pairs are =
    let (more, others, same) = continues pairs are in
    let first = first_group naming law text behind more (subst (λ ts. AreGroups naming ts more) next others) in
    none first.pair.0 first.small first.text_is

-- the next epoch is not above all before
pub no_rise : {S : Type 0} (naming : Naming S) (law : IsNaming naming) (texts rest behind : List (List ℕ))
    (before : List (ℕ × S)) (text : List ℕ)
    (epoch : ℕ) → Continues naming texts rest before → rest ≡ text ∷ behind
    → text ≡ epoch_text epoch → epoch < 2 ^ 64 → (All (λ p. p.0 < epoch) before → ⊥) → (pairs : List (ℕ × S))
    → AreGroups naming texts pairs → AreRising pairs → ⊥
no_rise naming law texts rest behind before text epoch continues next named small wrong pairs are rising =
    let (more, others, same) = continues pairs are in
    let first = first_group naming law text behind more (subst (λ ts. AreGroups naming ts more) next others) in
    let is : first.pair.0 ≡ epoch = epoch_told first.pair.0 epoch first.small small (sym first.text_is ∙ named) in
    wrong (subst (λ n. All (λ p. p.0 < n) before) is
    (risen pairs before first.more first.pair rising (same ∙ ap (λ ps. epochs_of before ++ epochs_of ps) first.pairs_are)))

-- the next group names no committee
pub no_committee : {S : Type 0} (naming : Naming S) (law : IsNaming naming) (texts rest behind : List (List ℕ))
    (before : List (ℕ × S)) (text : List ℕ)
    (n : ℕ) → Continues naming texts rest before → rest ≡ text ∷ behind
    → All (λ t. BeginsGroup t → ⊥) (take n behind) → StandsBeforeGroup (drop n behind) → NameNone naming (take n behind)
    → (pairs : List (ℕ × S)) → AreGroups naming texts pairs → ⊥
no_committee naming law texts rest behind before text n continues next none stands unnamed pairs are =
    let (more, others, same) = continues pairs are in
    let first = first_group naming law text behind more (subst (λ ts. AreGroups naming ts more) next others) in
    unnamed first.pair.1 (first.ends n none stands).0

-- one group more stands before
pub continues_next : {S : Type 0} (naming : Naming S) (law : IsNaming naming) (texts rest behind : List (List ℕ))
    (before : List (ℕ × S)) (text : List ℕ)
    (n epoch : ℕ) (committee : S) → Continues naming texts rest before → rest ≡ text ∷ behind
    → text ≡ epoch_text epoch → epoch < 2 ^ 64 → All (λ t. BeginsGroup t → ⊥) (take n behind)
    → StandsBeforeGroup (drop n behind)
    → Continues naming texts (drop n behind) (before ++ (epoch, committee) ∷ [])
continues_next {S} naming law texts rest behind before text n epoch committee continues next named small none stands pairs are =
    let (more, others, same) = continues pairs are in
    let first = first_group naming law text behind more (subst (λ ts. AreGroups naming ts more) next others) in
    let is : first.pair.0 ≡ epoch = epoch_told first.pair.0 epoch first.small small (sym first.text_is ∙ named) in (
      first.more,
      (first.ends n none stands).1,
      same ∙ (ap (λ ps. epochs_of before ++ epochs_of ps) first.pairs_are
          ∙ (ap (λ e. epochs_of before ++ e ∷ epochs_of first.more) is
          ∙ (sym (append_assoc (epochs_of before) (epoch ∷ []) (epochs_of first.more)) ∙ ap (λ (es : List ℕ). es
          ++ epochs_of first.more) (sym (map-append (λ (p : ℕ × S). p.0) before ((epoch, committee) ∷ [])))))),
    )
