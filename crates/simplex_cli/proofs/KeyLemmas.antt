-- Which keys texts name.
use Rattle.std.proofs.Common.{◌≡◌, ℕ, suc, List, [], ◌∷◌, ◌++◌, length, Option, None, Some, refl, ap, sym, ◌∙◌, append_assoc, subst}
use Rattle.std.specs.Prelude.{String, string_bytes, map}
use Rattle.std.specs.Global.{Global}
use Rattle.std.proofs.lemmas.List.{length-map}
use Rattle.simplex_schemes.specs.PlainCommittee.{AreCommitteeKeys}
use Rattle.simplex_cli.specs.Arguments.{key_named, keys_named, with_key, AreNoKeys, IsCommitteeSize, NameKeys}

-- some keys in front of others, where these are there
abbrev pub with_keys : List (List ℕ) → Option (List (List ℕ)) → Option (List (List ℕ))
with_keys keys None = None
with_keys keys (Some rest) = Some (keys ++ rest)

-- no keys in front
pub with_keys-nil : (o : Option (List (List ℕ))) → with_keys [] o ≡ o
with_keys-nil None = refl
with_keys-nil (Some rest) = refl

-- keys and then a key in front
pub with_keys-with_key : (keys : List (List ℕ)) (key : List ℕ) (o : Option (List (List ℕ)))
    → with_keys (keys ++ key ∷ []) o ≡ with_keys keys (with_key (Some key) o)
with_keys-with_key keys key None = refl
with_keys-with_key keys key (Some rest) = ap Some (append_assoc keys (key ∷ []) rest)

-- the next text names a key
pub with_keys-named : (keys : List (List ℕ)) (text : List ℕ) (texts : List (List ℕ)) (key : List ℕ) → key_named text ≡ Some key
    → with_keys (keys ++ key ∷ []) (keys_named texts) ≡ with_keys keys (keys_named (text ∷ texts))
with_keys-named keys text texts key e =
    subst (λ (o : Option (List ℕ)). with_keys (keys ++ key ∷ []) (keys_named texts)
    ≡ with_keys keys (with_key o (keys_named texts))) (sym e)
    (with_keys-with_key keys key (keys_named texts))

-- the next text names none
pub with_keys-unnamed : (keys : List (List ℕ)) (text : List ℕ) (texts : List (List ℕ)) → key_named text ≡ None
    → with_keys keys (keys_named (text ∷ texts)) ≡ None
with_keys-unnamed keys text texts e =
    subst (λ (o : Option (List ℕ)). with_keys keys (with_key o (keys_named texts)) ≡ None) (sym e) refl

-- there is a key for each text
pub length-with_key : (o : Option (List ℕ)) (rest : Option (List (List ℕ))) (keys : List (List ℕ)) (n : ℕ)
    → ((others : List (List ℕ)) → rest ≡ Some others → length others ≡ n) → with_key o rest ≡ Some keys → length keys ≡ suc n
length-with_key None rest keys n below e = cc
length-with_key (Some key) None keys n below e = cc
length-with_key (Some key) (Some others) keys n below e =
    let same : key ∷ others ≡ keys = cc in
    sym (ap length same) ∙ ap suc (below others refl)

-- as many keys as texts
pub length-keys_named : (texts : List (List ℕ)) (keys : List (List ℕ)) → keys_named texts ≡ Some keys →
    length keys ≡ length texts
length-keys_named [] keys e = let same : [] ≡ keys = cc in sym (ap length same)
length-keys_named (text ∷ texts) keys e =
    length-with_key (key_named text) (keys_named texts) keys (length texts) (length-keys_named texts) e

-- too few texts, or too many
pub no_keys-size : (texts : List (String Global)) → (IsCommitteeSize (length texts) → ⊥) → AreNoKeys (map string_bytes texts)
no_keys-size texts wrong = λ keys named.
    let size : length keys ≡ length texts = length-keys_named _ _ named.named ∙ length-map texts string_bytes in
    wrong (subst IsCommitteeSize size (named.are_keys.some, named.are_keys.few))

-- some text names no key
pub no_keys-unnamed : (texts : List (String Global)) → keys_named (map string_bytes texts) ≡ None →
    AreNoKeys (map string_bytes texts)
no_keys-unnamed texts none = λ keys are.
    let both : Some keys ≡ None = sym are.named ∙ none in
    absurd cc

-- each text names a key, and a committee may have as many
pub keys-named : (texts : List (String Global)) (keys : List (List ℕ)) → keys_named (map string_bytes texts) ≡ Some keys →
    IsCommitteeSize (length texts) → NameKeys (map string_bytes texts)
keys-named texts keys named size =
    let same : length keys ≡ length texts = length-keys_named _ _ named ∙ length-map texts string_bytes in
    (keys, named, subst IsCommitteeSize (sym same) size)

-- texts name keys that are no committee's
pub no_keys-named : (texts : List (String Global)) (keys : List (List ℕ)) → keys_named (map string_bytes texts) ≡ Some keys →
    (AreCommitteeKeys keys → ⊥) → AreNoKeys (map string_bytes texts)
no_keys-named texts keys named wrong = λ others are.
    let both : Some others ≡ Some keys = sym are.named ∙ named in
    let equal : others ≡ keys = cc in
    wrong (subst AreCommitteeKeys equal are.are_keys)
