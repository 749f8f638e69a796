-- The texts of keys begin no group. It stands beside the definitions because a ghost member cites it, which sees no proofs.
use Rattle.std.proofs.Common.{◌≡◌, ◌∙◌, ℕ, List, [], ◌∷◌, length, Bool, true, false, Option, None, Some, Result, Err, refl, ap, sym, arith}
use Rattle.std.specs.Prelude.{All, if◌then◌else◌}
use Rattle.std.proofs.lemmas.List.Elements.{All-nil, All-cons}
use Rattle.hex.specs.Hex.{decode_pairs}
use Rattle.hex.specs.declared.error.FromHexError.{FromHexError}
use Rattle.hex.specs.declared.error.FromHexError.TheVariants.{OddLength, InvalidStringLength}
use Rattle.simplex_cli.specs.Arguments.{BeginsGroup, IsNaming, by_keys, key_of, key_named, keys_named, with_key}

-- a text of any length that is not hexadecimal digits names no key
no_digits : (b c : Bool) (decoded : Result (List ℕ) FromHexError) → key_of decoded ≡ None →
    key_of (if b then Err OddLength else if c then decoded else Err InvalidStringLength) ≡ None
no_digits true c decoded none = refl
no_digits false true decoded none = none
no_digits false false decoded none = refl

-- a text that begins a group names no key
at_names_none : (rest : List ℕ) → key_named (64 ∷ rest) ≡ None
unfolding decode_pairs
at_names_none [] = refl
at_names_none (digit ∷ rest) = no_digits _ _ (decode_pairs 0 (64 ∷ digit ∷ rest)) refl

-- a key's text begins no group
pub key_begins_no_group : (text key : List ℕ) → key_named text ≡ Some key → BeginsGroup text → ⊥
key_begins_no_group text key named (rest, e) =
    let none : key_named text ≡ None = ap key_named e ∙ at_names_none rest in
    let both : Some key ≡ None = sym named ∙ none in
    absurd cc

-- the texts of keys begin no group
pub keys_begin_no_group : (texts keys : List (List ℕ)) → keys_named texts ≡ Some keys → All (λ text. BeginsGroup text → ⊥) texts
keys_begin_no_group [] keys e = All-nil _
keys_begin_no_group (text ∷ texts) keys e = by (key_named text) (keys_named texts) refl e (keys_begin_no_group texts)
  where
    by : (o : Option (List ℕ)) (rest : Option (List (List ℕ))) → key_named text ≡ o → with_key o rest ≡ Some keys
        → ((more : List (List ℕ)) → rest ≡ Some more → All (λ t. BeginsGroup t → ⊥) texts)
        → All (λ t. BeginsGroup t → ⊥) (text ∷ texts)
    by None rest first whole others = absurd cc
    by (Some key) None first whole others = absurd cc
    by (Some key) (Some more) first whole others =
        All-cons (λ t. BeginsGroup t → ⊥) text texts (key_begins_no_group text key first) (others more refl)

-- keys name committees as texts have to
pub naming_by_keys : (namespace : List ℕ) → IsNaming (by_keys namespace)
naming_by_keys namespace = record {
  some = λ committee is.
      let same : [] ≡ is.keys = let e = is.named.named in cc in
      absurd (omega (arith, is.named.are_keys.some, ap length same));
  apart = λ texts committee is. keys_begin_no_group texts is.keys is.named.named;
  may = λ texts committee is. (is.keys, is.named.named, (is.named.are_keys.some, is.named.are_keys.few));
}
