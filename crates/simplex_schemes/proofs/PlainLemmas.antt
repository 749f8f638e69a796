-- A key that was found is in the committee.
use Rattle.std.proofs.Common.{◌≡◌, ◌≢◌, ◌∙◌, ℕ, ◌<◌, false, true, List, length, Option, None, Some, All, ap, refl, subst, sym}
use Rattle.std.specs.Cmp.Lexicographic.{slice_cmp}
use Rattle.std.specs.Ordering.{eq_by_cmp, nat_cmp}
use Rattle.std.specs.List.{slice_get}
use Rattle.std.specs.Option.{IsSomeAnd}
use Rattle.std.proofs.lemmas.Bool.{false≢true}
use Rattle.std.proofs.lemmas.Map.Text.{is_eq-slice_cmp}
use Rattle.std.proofs.lemmas.Slice.Eq.{bytes_eq-Decides}
use Rattle.std.proofs.lemmas.Option.{slice_get_within, get_or_from_slice_get}
use Rattle.std.proofs.lemmas.List.Elements.{All-contains, Contains-from_at}

is_key : (found : Option (List ℕ)) (key : List ℕ) →
    IsSomeAnd found (λ one. eq_by_cmp (slice_cmp nat_cmp) one key ≡ true) → found ≡ Some key
is_key None key h = absurd h
is_key (Some one) key h = ap (λ x. Some x) ((bytes_eq-Decides one key).0 (sym (is_eq-slice_cmp one key) ∙ h))

pub key_at : (keys : List (List ℕ)) (place : ℕ) (key : List ℕ) →
    IsSomeAnd (slice_get keys place) (λ one. eq_by_cmp (slice_cmp nat_cmp) one key ≡ true) →
    (place < length keys) × (slice_get keys place ≡ Some key)
key_at keys place key h = let same = is_key (slice_get keys place) key h in (slice_get_within keys place key same, same)

pub not_outside : (keys : List (List ℕ)) (place : ℕ) (key : List ℕ) →
    IsSomeAnd (slice_get keys place) (λ one. eq_by_cmp (slice_cmp nat_cmp) one key ≡ true) → All (λ one. one ≢ key) keys → ⊥
not_outside keys place key h none =
    let at = key_at keys place key h in
    All-contains (λ one. one ≢ key) keys key none
    (Contains-from_at keys key (place, at.0, λ d. get_or_from_slice_get keys place key d at.1)) refl

-- a key that compares equal to none of the committee is not in it
pub none_is : (one key : List ℕ) → eq_by_cmp (slice_cmp nat_cmp) one key ≡ false → one ≢ key
none_is one key differs same =
    false≢true (sym differs ∙ is_eq-slice_cmp one key ∙ (bytes_eq-Decides one key).1 same)
