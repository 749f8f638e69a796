-- Which groups texts name.
use Rattle.std.proofs.Common.{Ordering, Less, Equal, Greater, inl, inr, ◌≡◌, ℕ, zero, suc, List, [], ◌∷◌, ◌++◌, ◌-◌, ◌<◌, ◌≤◌, ◌^◌, true, take, drop, map, length, get_or, refl, arith, sym, ap, subst, ◌∙◌, append_assoc, append-nil, drop-cons}
use Rattle.std.specs.Prelude.{String, string_bytes, All, decimal}
use Rattle.std.specs.Global.{Global}
use Rattle.std.proofs.lemmas.List.{take-append-drop, map-append, take-map, drop-map, take_all, get_or_append_left, length-map, length-append, get_or_default}
use Rattle.std.proofs.lemmas.List.Elements.{All-head, All-tail, All-map}
use Rattle.std.proofs.Math.Seq.{get_or-append_seam}
use Rattle.std.proofs.Math.ListN.{get_or-map}
use Rattle.std.specs.Ordering.{nat_cmp, is_lt, MatchOrdering}
use Rattle.std.proofs.lemmas.Cmp.{ranked}
use Rattle.std.proofs.lemmas.Bool.{cases_lt, false≢true}
use Rattle.std.proofs.lemmas.Fmt.{decimal_injective}
use Rattle.simplex_scheme.specs.Committees.{AreRising}
use Rattle.simplex_cli.specs.Arguments.{AreGroups, BeginAsGroups, BeginsGroup, IsNaming, Naming, StandsBeforeGroup, epoch_text}

-- ---- where a group begins

-- a text stands before a group
pub stands_before : (texts : List (String Global)) (i : ℕ) (d : String Global) → i < length texts →
    BeginsGroup (string_bytes (get_or texts i d)) → StandsBeforeGroup (drop i (map string_bytes texts))
stands_before texts i d lt begins =
    let parts : map string_bytes (drop i texts) ≡ string_bytes (get_or texts i d) ∷ map string_bytes (drop (suc i) texts) =
    ap (map string_bytes) (drop-cons texts i d lt) in
    subst StandsBeforeGroup (sym (drop-map string_bytes i texts ∙ parts)) begins

-- no text of the first ones begins a group
pub no_group_before : (texts : List (String Global)) (n : ℕ) →
    All (λ text. BeginsGroup (string_bytes text) → ⊥) (take n texts) →
    All (λ text. BeginsGroup text → ⊥) (take n (map string_bytes texts))
no_group_before texts n none =
    subst (All (λ text. BeginsGroup text → ⊥)) (sym (take-map string_bytes n texts))
    (All-map (λ text. BeginsGroup text → ⊥) string_bytes (take n texts) none)

-- no text begins a group
pub no_group : (texts : List (String Global)) (n : ℕ) → length texts ≤ n →
    All (λ text. BeginsGroup (string_bytes text) → ⊥) (take n texts) →
    All (λ text. BeginsGroup text → ⊥) (take (length texts) (map string_bytes texts))
no_group texts n all none =
    no_group_before texts (length texts)
    (subst (All (λ text. BeginsGroup (string_bytes text) → ⊥))
    (take_all n texts all ∙ sym (take_all (length texts) texts (omega arith))) none)

-- ---- where a group ends

-- the texts of keys before a group, or at the end, are all those up to the first that begins a group
pub same_front : (front rest : List (List ℕ)) (n : ℕ) → All (λ text. BeginsGroup text → ⊥) front → StandsBeforeGroup rest
    → All (λ text. BeginsGroup text → ⊥) (take n (front ++ rest)) → StandsBeforeGroup (drop n (front ++ rest))
    → (front ≡ take n (front ++ rest)) × (rest ≡ drop n (front ++ rest))
same_front [] rest zero keys group none stands = (refl, refl)
same_front [] [] (suc n) keys group none stands = (refl, refl)
same_front [] (text ∷ rest) (suc n) keys group none stands =
    absurd (All-head (λ (t : List ℕ). BeginsGroup t → ⊥) text (take n rest) none group)
same_front (text ∷ front) rest zero keys group none stands =
    absurd (All-head (λ (t : List ℕ). BeginsGroup t → ⊥) text front keys stands)
same_front (text ∷ front) rest (suc n) keys group none stands =
    let tail = same_front front rest n (All-tail (λ (t : List ℕ). BeginsGroup t → ⊥) text front keys) group
    (All-tail (λ (t : List ℕ). BeginsGroup t → ⊥) text (take n (front ++ rest)) none) stands in
    (ap (λ (ts : List (List ℕ)). text ∷ ts) tail.0, tail.1)

-- the texts of groups begin with a group, or are none
pub groups_stand : {S : Type 0} (naming : Naming S) (texts : List (List ℕ)) (pairs : List (ℕ × S)) →
    AreGroups naming texts pairs → StandsBeforeGroup texts
groups_stand naming texts [] none = subst StandsBeforeGroup (sym none) tt
groups_stand naming texts (pair ∷ pairs) (own, rest, e, small, is, others) =
    subst StandsBeforeGroup (sym e) (decimal pair.0, refl)

-- the text of an epoch determines it
pub epoch_told : (m n : ℕ) → m < 2 ^ 64 → n < 2 ^ 64 → epoch_text m ≡ epoch_text n → m ≡ n
epoch_told m n m_small n_small e = decimal_injective m n m_small n_small (ap (drop 1) e)

-- the first group of texts
pub record FirstGroup {S : Type 0} (naming : Naming S) (text : List ℕ) (behind : List (List ℕ))
    (pairs : List (ℕ × S)) : Type 0 where
  pub pair : ℕ × S
  pub more : List (ℕ × S)
  pub pairs_are : pairs ≡ pair ∷ more
  pub text_is : text ≡ epoch_text pair.0
  pub small : pair.0 < 2 ^ 64
  pub ends : (n : ℕ) → All (λ t. BeginsGroup t → ⊥) (take n behind) → StandsBeforeGroup (drop n behind) →
      naming.names (take n behind) pair.1 × AreGroups naming (drop n behind) more

pub first_group : {S : Type 0} (naming : Naming S) (law : IsNaming naming) (text : List ℕ) (behind : List (List ℕ))
    (pairs : List (ℕ × S)) →
    AreGroups naming (text ∷ behind) pairs → FirstGroup naming text behind pairs
first_group naming law text behind [] e = absurd cc
first_group naming law text behind (pair ∷ more) (own, rest, e, small, is, others) = record {
  pair = pair;
  more = more;
  pairs_are = refl;
  text_is = ap (λ (ts : List (List ℕ)). get_or ts 0 []) e;
  small = small;
  ends = λ n none stands.
      let parts : behind ≡ own ++ rest = ap (drop 1) e in
      let same =
      same_front own rest n (law.apart own pair.1 is) (groups_stand naming rest more others)
      (subst (λ ts. All (λ t. BeginsGroup t → ⊥) (take n ts)) parts none)
      (subst (λ ts. StandsBeforeGroup (drop n ts)) parts stands) in (
        subst (λ ts. naming.names ts pair.1) (same.0 ∙ ap (take n) (sym parts)) is,
        subst (λ ts. AreGroups naming ts more) (same.1 ∙ ap (drop n) (sym parts)) others,
      );
}

-- ---- epochs that rise

-- what a test of two numbers decides
pub lt_told : (a b : ℕ) → (is_lt (nat_cmp a b) ≡ true → a < b) × (a < b → is_lt (nat_cmp a b) ≡ true)
lt_told a b = by (nat_cmp a b) (ranked a b (nat_cmp a b) refl)
  where
    by : (o : Ordering) → MatchOrdering o (a < b) (a ≡ b) (b < a) → (is_lt o ≡ true → a < b) × (a < b → is_lt o ≡ true)
    by Less m = (λ h. m, λ h. refl)
    by Equal m = (λ h. absurd (false≢true h), λ h. absurd (omega (arith, m, h)))
    by Greater m = (λ h. absurd (false≢true h), λ h. absurd (omega (arith, m, h)))

-- all entries are below an epoch if the last one is
pub above_last : {S : Type 0} (pairs : List (ℕ × S)) (last : ℕ × S) (epoch : ℕ) → AreRising pairs →
    length pairs - 1 < length pairs → last ≡ get_or pairs (length pairs - 1) last → last.0 < epoch →
    All (λ p. p.0 < epoch) pairs
above_last pairs last epoch rising some is below k d lt =
    let end = ap (λ p. p.0) (is ∙ get_or_default pairs (length pairs - 1) last d some) in
    elim (cases_lt k (length pairs - 1)) [
      | inl before ↦ omega (arith, rising k (length pairs - 1) d before some, end, below)
      | inr at ↦ (let same : k ≡ length pairs - 1 = omega (arith, at, lt) in rw same (omega (arith, end, below)))
    ]

-- the last entry is below an epoch if all are
pub last_below : {S : Type 0} (pairs : List (ℕ × S)) (last : ℕ × S) (epoch : ℕ) → length pairs - 1 < length pairs →
    last ≡ get_or pairs (length pairs - 1) last → All (λ p. p.0 < epoch) pairs → last.0 < epoch
last_below pairs last epoch some is all = subst (λ p. p.0 < epoch) (sym is) (all (length pairs - 1) last some)

-- rising entries still rise with one more that is above all
pub rising_push : {S : Type 0} (pairs : List (ℕ × S)) (p : ℕ × S) → AreRising pairs → All (λ q. q.0 < p.0) pairs →
    AreRising (pairs ++ p ∷ [])
rising_push pairs p rising above a b d a_lt b_lt =
    let size = length-append pairs (p ∷ []) in
    let before = ap (λ q. q.0) (get_or_append_left pairs (p ∷ []) d a (omega (arith, a_lt, b_lt, size))) in
    elim (cases_lt b (length pairs)) [
      | inl lo ↦ omega (arith, before, ap (λ q. q.0) (get_or_append_left pairs (p ∷ []) d b lo), rising a b d a_lt lo)
      | inr hi ↦
          (let is : b ≡ length pairs = omega (arith, hi, b_lt, size) in
          let last = ap (λ q. q.0) (get_or-append_seam pairs p [] d) in
          rw is (omega (arith, before, last, above a d (omega (arith, a_lt, is)))))
    ]

-- entries that rise have each epoch above all before it
pub risen : {S : Type 0} (pairs before more : List (ℕ × S)) (p : ℕ × S) → AreRising pairs →
    map (λ q. q.0) pairs ≡ map (λ q. q.0) before ++ map (λ q. q.0) (p ∷ more) → All (λ q. q.0 < p.0) before
risen {S} pairs before more p rising same k d lt =
    let epoch : ℕ × S → ℕ = λ q. q.0 in
    let size = length-map before epoch in
    let sizes = ap length same ∙ length-append (map epoch before) (map epoch (p ∷ more)) in
    let here : (get_or pairs k d).0 ≡ (get_or before k d).0 =
    sym (get_or-map epoch pairs k d) ∙ (ap (λ ns. get_or ns k d.0) same ∙ (get_or_append_left (map epoch before)
    (map epoch (p ∷ more)) d.0 k (omega (arith, lt, size)) ∙ get_or-map epoch before k d)) in
    let there : (get_or pairs (length before) d).0 ≡ p.0 =
    sym (get_or-map epoch pairs (length before) d)
    ∙ (ap (λ ns. get_or ns (length before) d.0) same ∙ (ap (λ n. get_or (map epoch before ++ map epoch (p ∷ more)) n d.0)
    (sym size) ∙ get_or-append_seam (map epoch before) p.0 (map epoch more) d.0)) in
    omega (arith, rising k (length before) d lt (omega (arith, size, sizes, length-map pairs epoch)), here, there)

-- ---- one group more

-- the texts of a group and of what is behind it
pub split_group : (rest behind keys after : List (String Global)) (first : String Global) (n epoch : ℕ)
    → rest ≡ first ∷ behind → string_bytes first ≡ epoch_text epoch → keys ≡ take n behind → after ≡ drop n behind
    → map string_bytes rest ≡ epoch_text epoch ∷ (map string_bytes keys ++ map string_bytes after)
split_group rest behind keys after first n epoch whole begins front back =
    let parts : behind ≡ keys ++ after = sym (take-append-drop n behind) ∙ (λ i. sym front i ++ sym back i) in
    let split : map string_bytes behind ≡ map string_bytes keys ++ map string_bytes after =
    ap (map string_bytes) parts ∙ map-append string_bytes keys after in
    ap (map string_bytes) whole
    ∙ (ap (λ (w : List ℕ). w ∷ map string_bytes behind) begins ∙ ap (λ (ws : List (List ℕ)). epoch_text epoch ∷ ws) split)

-- the next group in front of more
pub next_group : {S : Type 0} (naming : Naming S) (rest behind keys after : List (String Global)) (first : String Global)
    (n epoch : ℕ)
    (committee : S) (more : List (ℕ × S))
    → rest ≡ first ∷ behind → string_bytes first ≡ epoch_text epoch → epoch < 2 ^ 64 → keys ≡ take n behind
    → after ≡ drop n behind
    → naming.names (map string_bytes keys) committee → AreGroups naming (map string_bytes after) more
    → AreGroups naming (map string_bytes rest) ((epoch, committee) ∷ more)
next_group naming rest behind keys after first n epoch committee more whole begins small front back is others = (
  map string_bytes keys,
  map string_bytes after,
  split_group rest behind keys after first n epoch whole begins front back,
  small,
  is,
  others,
)

-- one group more behind groups
one_group_more : {S : Type 0} (naming : Naming S) (before keys : List (List ℕ)) (pairs : List (ℕ × S)) (epoch : ℕ)
    (committee : S) → AreGroups naming before pairs → epoch < 2 ^ 64
    → naming.names keys committee
    → AreGroups naming (before ++ epoch_text epoch ∷ keys) (pairs ++ (epoch, committee) ∷ [])
one_group_more naming before keys [] epoch committee none small is =
    let texts : before ++ epoch_text epoch ∷ keys ≡ epoch_text epoch ∷ (keys ++ []) =
    ap (λ (ts : List (List ℕ)). ts ++ epoch_text epoch ∷ keys) none
    ∙ ap (λ (ts : List (List ℕ)). epoch_text epoch ∷ ts) (sym (append-nil keys)) in
    (keys, [], texts, small, is, refl)
one_group_more naming before keys (pair ∷ pairs) epoch committee (front, rest, e, below, named, others) small is =
    let texts : before ++ epoch_text epoch ∷ keys ≡ epoch_text pair.0 ∷ (front ++ (rest ++ epoch_text epoch ∷ keys)) =
    ap (λ (ts : List (List ℕ)). ts ++ epoch_text epoch ∷ keys) e
    ∙ ap (λ (ts : List (List ℕ)). epoch_text pair.0 ∷ ts) (append_assoc front rest (epoch_text epoch ∷ keys)) in (
      front,
      rest ++ epoch_text epoch ∷ keys,
      texts,
      below,
      named,
      one_group_more naming rest keys pairs epoch committee others small is,
    )

-- the texts are groups of these pairs, and then the rest
abbrev pub AreRead : {S : Type 0} → Naming S → List (List ℕ) → List (List ℕ) → List (ℕ × S) → Type 0
AreRead naming texts rest pairs = (before : List (List ℕ)) × (texts ≡ before ++ rest) × AreGroups naming before pairs

-- one group more was read
pub read_next : {S : Type 0} (naming : Naming S) (texts : List (List ℕ)) (rest behind keys after : List (String Global))
    (first : String Global) (n epoch : ℕ) (pairs : List (ℕ × S)) (committee : S)
    → AreRead naming texts (map string_bytes rest) pairs → rest ≡ first ∷ behind → string_bytes first ≡ epoch_text epoch
    → epoch < 2 ^ 64 → keys ≡ take n behind → after ≡ drop n behind
    → naming.names (map string_bytes keys) committee
    → AreRead naming texts (map string_bytes after) (pairs ++ (epoch, committee) ∷ [])
read_next naming texts rest behind keys after first n epoch pairs committee (before, e, are) whole begins small
    front back is =
    let group = epoch_text epoch ∷ map string_bytes keys in (
      before ++ group,
      e ∙ (ap (λ (ts : List (List ℕ)). before ++ ts) (split_group rest behind keys after first n epoch whole begins front back)
          ∙ sym (append_assoc before group (map string_bytes after))),
      one_group_more naming before (map string_bytes keys) pairs epoch committee are small is,
    )

-- the keys of the next group were read
pub begun : {S : Type 0} (naming : Naming S) (texts : List (List ℕ)) (rest behind keys after : List (String Global))
    (first : String Global) (n epoch : ℕ) (pairs : List (ℕ × S))
    → AreRead naming texts (map string_bytes rest) pairs → AreRising pairs → All (λ q. q.0 < epoch) pairs
    → rest ≡ first ∷ behind → string_bytes first ≡ epoch_text epoch → epoch < 2 ^ 64 → keys ≡ take n behind
    → after ≡ drop n behind
    → StandsBeforeGroup (map string_bytes after) → naming.may (map string_bytes keys) → BeginAsGroups naming texts
begun naming texts rest behind keys after first n epoch pairs (before, e, are) rising above whole begins small front back
    ends named =
    record {
      before = before;
      pairs = pairs;
      epoch = epoch;
      own = map string_bytes keys;
      rest = map string_bytes after;
      texts_are =
          e ∙ ap (λ (ts : List (List ℕ)). before ++ ts)
          (split_group rest behind keys after first n epoch whole begins front back);
      groups = are;
      rising = rising;
      above = above;
      small = small;
      may = named;
      ends = ends;
    }

-- no text is left
pub no_texts : (texts : List (String Global)) → length texts ≡ 0 → map string_bytes texts ≡ []
no_texts [] e = refl
no_texts (text ∷ texts) e = absurd (omega (arith, e))
