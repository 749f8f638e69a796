-- Tokens written one after another.
use Rattle.std.proofs.Common.{◌≡◌, ℕ, suc, ◌+◌, ◌<◌, List, [], ◌∷◌, ◌++◌, length, map, drop, get_or, Result, Ok, Err, Option, refl, sym, ap, ◌∙◌, append_assoc, append-nil, add-one, drop-cons}
use Rattle.std.specs.Prelude.{OnOk}
use Rattle.json.specs.Json.{Json}
use Rattle.json.specs.Token.{Token}
use Rattle.json.specs.Tree.{json_tokens, items_tokens, members_tokens}
use Rattle.json.specs.Written.{Written, Writes}
use Rattle.simplex_inspect.specs.Json.{validity_members, listing_json}
use Rattle.simplex_inspect.specs.Values.{items_of, members_of, array_of, object_of}
use Rattle.simplex_inspect.specs.Tokens.{Appended, member_tokens, value_tokens, open_tokens, close_tokens}
use Rattle.simplex_inspect.specs.declared.validity.Validity.{Validity}

-- nothing was written
pub unwritten : (a : Written) → Appended [] a a
unwritten a = record { before = refl; tokens = sym (append-nil a.tokens) }

-- some tokens, and then some more
pub behind : {ts us : List Token} {a b c : Written} → Appended ts a b → Appended us b c → Appended (ts ++ us) a c
behind {ts} {us} {a} {b} {c} p q = record {
  before = q.before ∙ p.before;
  tokens = q.tokens ∙ (ap (λ (vs : List Token). vs ++ us) p.tokens ∙ append_assoc a.tokens ts us);
}

-- the same tokens, otherwise put together
pub same : {ts us : List Token} {a b : Written} → ts ≡ us → Appended ts a b → Appended us a b
same {ts} {us} {a} {b} e p =
    record { before = p.before; tokens = p.tokens ∙ ap (λ (vs : List Token). a.tokens ++ vs) e }

-- what follows of a value follows where one was returned
pub on_ok : {X E : Type 0} (r : Result X E) {P Q : Type 0} → (P → Q) → OnOk r P → OnOk r Q
on_ok (Ok x) f h = f h
on_ok (Err e) f h = tt

-- a token was written
pub put : {t : Token} {a b : Written} → b.before ≡ a.before → b.tokens ≡ a.tokens ++ t ∷ [] → Appended (t ∷ []) a b
put kept added = record { before = kept; tokens = added }

-- a token was written, if a value was returned
pub one : {E : Type 0} {r : Result (Unit {0}) E} {t : Token} {a b : Written} → Writes r a b t → OnOk r (Appended (t ∷ []) a b)
one {E} {r} {t} {a} {b} w = on_ok r (λ e. record { before = w.room.0; tokens = e }) w.ok

-- some tokens were written behind others
pub then : {E : Type 0} (r : Result (Unit {0}) E) {ts vs : List Token} (us : List Token) {a b : Written} (c : Written) →
    ts ++ us ≡ vs → Appended ts a b → OnOk r (Appended us b c) → OnOk r (Appended vs a c)
then r us c e p h = on_ok r (λ q. same e (behind p q)) h

-- one value was written
pub alone : {E : Type 0} (r : Result (Unit {0}) E) (ts : List Token) (a b : Written) → OnOk r (Appended ts a b)
    → OnOk r (Appended (ts ++ []) a b)
alone r ts a b h = on_ok r (same (sym (append-nil ts))) h

-- the tokens of an object
pub members_whole : (ms : List (List ℕ × Json)) → members_tokens (members_of ms) ≡ member_tokens ms ++ Token.end_object ∷ []
members_whole [] = refl
members_whole (m ∷ ms) =
    ap (λ (ts : List Token). Token.key m.0 ∷ (json_tokens m.1 ++ ts)) (members_whole ms)
    ∙ ap (λ (ts : List Token). Token.key m.0 ∷ ts) (sym (append_assoc (json_tokens m.1)
    (member_tokens ms) (Token.end_object ∷ [])))

-- the tokens of an array
items_whole : (js : List Json) → items_tokens (items_of js) ≡ value_tokens js ++ Token.end_array ∷ []
items_whole [] = refl
items_whole (j ∷ js) =
    ap (λ (ts : List Token). json_tokens j ++ ts) (items_whole js)
    ∙ sym (append_assoc (json_tokens j) (value_tokens js) (Token.end_array ∷ []))

-- the tokens of members before a list, and of the rest of the object
members_before : (ms ns : List (List ℕ × Json)) →
    members_tokens (members_of (ms ++ ns)) ≡ member_tokens ms ++ members_tokens (members_of ns)
members_before [] ns = refl
members_before (m ∷ ms) ns =
    ap (λ (ts : List Token). Token.key m.0 ∷ (json_tokens m.1 ++ ts)) (members_before ms ns)
    ∙ ap (λ (ts : List Token). Token.key m.0 ∷ ts)
    (sym (append_assoc (json_tokens m.1) (member_tokens ms) (members_tokens (members_of ns))))

-- the tokens of a listing
pub listing_tokens : (ms : List (List ℕ × Json)) (name : List ℕ) (js : List Json) (validity : Option Validity) →
    open_tokens ms name ++ (value_tokens js ++ close_tokens validity) ≡ json_tokens (listing_json ms name js validity)
listing_tokens ms name js validity =
    let more = validity_members validity in
    let close = close_tokens validity in
    let inside : Token.key name ∷ Token.begin_array ∷ (value_tokens js ++ close)
    ≡ members_tokens (members_of ((name, array_of js) ∷ more)) =
    ap (λ (ts : List Token). Token.key name ∷ Token.begin_array ∷ ts)
    (ap (λ (ts : List Token). value_tokens js ++ Token.end_array ∷ ts) (sym (members_whole more))
    ∙ (sym (append_assoc (value_tokens js) (Token.end_array ∷ []) (members_tokens (members_of more)))
    ∙ ap (λ (ts : List Token). ts ++ members_tokens (members_of more)) (sym (items_whole js)))) in
    ap (λ (ts : List Token). Token.begin_object ∷ ts)
    (append_assoc (member_tokens ms) (Token.key name ∷ Token.begin_array ∷ []) (value_tokens js ++ close)
    ∙ (ap (λ (ts : List Token). member_tokens ms ++ ts) inside ∙ sym (members_before ms ((name, array_of js) ∷ more))))

-- an object of members was written
pub object_written : {E : Type 0} (r : Result (Unit {0}) E) (ms : List (List ℕ × Json)) {a b c : Written} (d : Written) →
    Appended (Token.begin_object ∷ []) a b → Appended (member_tokens ms) b c
    → OnOk r (Appended (Token.end_object ∷ []) c d) → OnOk r (Appended (json_tokens (object_of ms)) a d)
object_written r ms d p q h =
    then r (Token.end_object ∷ []) d (ap (λ (ts : List Token). Token.begin_object ∷ ts) (sym (members_whole ms))) (behind p q) h

-- a listing was written
pub listed : {E : Type 0} (r : Result (Unit {0}) E) (ms : List (List ℕ × Json)) (name : List ℕ) (js : List Json)
    (validity : Option Validity) {a b c : Written} (d : Written) → Appended (open_tokens ms name) a b →
    Appended (value_tokens js) b c → OnOk r (Appended (close_tokens validity) c d) →
    OnOk r (Appended (json_tokens (listing_json ms name js validity)) a d)
listed r ms name js validity d p q h =
    on_ok r (λ s. same (listing_tokens ms name js validity) (behind p (behind q s))) h

-- what is left to write of values that are made alike, from the i-th on
abbrev pub IsBefore : {A : Type 0} → (A → Json) → List A → ℕ → Written → Written → Type 0
IsBefore f xs i start now =
    (now.before ≡ start.before)
    × (start.tokens ++ value_tokens (map f xs) ≡ now.tokens ++ value_tokens (map f (drop i xs)))

-- one value more
pub written_next : {A : Type 0} (f : A → Json) (xs : List A) (i : ℕ) (x : A) (start now next : Written) → i < length xs →
    x ≡ get_or xs i x → Appended (json_tokens (f x)) now next → IsBefore f xs i start now → IsBefore f xs (i + 1) start next
written_next {A} f xs i x start now next lt is p before =
    let cut : drop i xs ≡ x ∷ drop (i + 1) xs =
    rw add-one (drop-cons xs i x lt ∙ ap (λ (y : A). y ∷ drop (suc i) xs) (sym is)) in
    let others = value_tokens (map f (drop (i + 1) xs)) in (
      p.before ∙ before.0,
      before.1 ∙ (ap (λ (ys : List A). now.tokens ++ value_tokens (map f ys)) cut
          ∙ (sym (append_assoc now.tokens (json_tokens (f x)) others) ∙ ap (λ (ts : List Token). ts ++ others) (sym p.tokens))),
    )
