-- What is read of numbers and of the body of a record.
use Rattle.std.proofs.Common.{None, Some, Option, ◌≡◌, ◌≢◌, ◌+◌, ◌-◌, ◌<◌, ◌≤◌, ◌^◌, ◌++◌, ◌∙◌, ℕ, List, [], ◌∷◌, length, take, drop, get_or, ap, refl, sym, arith, length-append, length-drop, append_assoc, append-nil, min, Bool, true, false, not, suc, zero}
use Rattle.std.specs.Str.{bytes_eq}
use Rattle.std.proofs.Math.Dec.{eqb}
use Rattle.std.specs.Cmp.Lexicographic.{pointwise}
use Rattle.std.proofs.lemmas.Bool.Decides.{Decides-eqb}
use Rattle.std.proofs.lemmas.Slice.Eq.{bytes_eq-Decides, starts_is}
use Rattle.std.proofs.Math.Seq.{drop-nil, take-add, take-append_seam, drop-append_seam}
use Rattle.std.proofs.lemmas.Grind.{common_steps, flat_map-append}
use Rattle.std.proofs.lemmas.List.{take_all, take-append-drop, get_or-drop, get_or-take, get_or_past}
use Rattle.std.proofs.lemmas.Nat.{from_le_bytes-to_le_bytes_8, le_bytes_8}
use Rattle.std.specs.List.{flat_map, last_or}
use Rattle.simplex_live.specs.declared.state.Mark.{Mark}
use Rattle.std.specs.Int.{from_le_bytes, to_le_bytes, w64}
use Rattle.std.specs.Prelude.{All, codes}
use Rattle.std.proofs.lemmas.List.Elements.{All-head}
use Rattle.simplex_cli.specs.Arguments.{BeginsGroup, StandsBeforeGroup}
use Rattle.sha2.specs.Sha256.{sha256}
use Rattle.sha2.proofs.Facts256.{length-sha256}
use Rattle.simplex_live.specs.State.{framed, head_bytes, mark_bytes, number_bytes, record_bytes, words_bytes}

-- a number takes 8 bytes
pub number_length : (n : ℕ) → length (number_bytes n) ≡ 8
unfolding number_bytes
number_length n = refl

-- how it is written
pub number_is : (n : ℕ) → to_le_bytes w64 n ≡ number_bytes n
unfolding number_bytes
number_is n = refl

-- 8 bytes are those of the number that is read of them
pub number_read :
    (bytes : List ℕ) (n : ℕ) → length bytes ≡ 8 → ((i : ℕ) → get_or bytes i 0 < 256) → n ≡ from_le_bytes w64 bytes →
    number_bytes n ≡ bytes
unfolding number_bytes
number_read bytes n = le_bytes_8 bytes n

-- numbers of the same bytes are the same
pub number_same : (a b : ℕ) → a < 2 ^ 64 → b < 2 ^ 64 → number_bytes a ≡ number_bytes b → a ≡ b
unfolding number_bytes
number_same a b small_a small_b same =
    sym (from_le_bytes-to_le_bytes_8 a small_a) ∙ ap (from_le_bytes w64) same ∙ from_le_bytes-to_le_bytes_8 b small_b

-- a part of some bytes is bytes
pub part_bytes :
    (bytes : List ℕ) (n k : ℕ) → ((i : ℕ) → get_or bytes i 0 < 256) → (i : ℕ) → get_or (take n (drop k bytes)) i 0 < 256
part_bytes bytes n k all i = grind (arith, common_steps, get_or-take, get_or-drop, get_or_past, all (k + i))

-- bytes in parts: 8, 32, so many, and the rest
pub in_parts :
    (bytes : List ℕ) (size : ℕ) →
    take 8 bytes ++ take 32 (drop 8 bytes) ++ take size (drop 40 bytes) ++ drop (40 + size) bytes ≡ bytes
in_parts bytes size =
    grind (arith, common_steps, take-add 8 32 bytes, take-add 40 size bytes, take-append-drop (40 + size) bytes)

-- the first 56 bytes in parts
pub mark_parts :
    {X : Type 0} (xs : List X) →
    take 8 xs ++ (take 16 (drop 8 xs)) ++ (take 16 (drop 24 xs)) ++ take 16 (drop 40 xs) ≡ take 56 xs
mark_parts xs =
    grind (arith, common_steps, take-add 8 48 xs, take-add 24 32 xs, take-add 8 16 xs, take-add 40 16 xs, take-add 24 16 xs)

-- the first of two parts
pub front : {X : Type 0} (n : ℕ) (xs ys : List X) → length xs ≡ n → take n (xs ++ ys) ≡ xs
front n xs ys one = rw (sym one) (take-append_seam xs ys)

-- the middle of three parts
pub middle :
    {X : Type 0} (n m : ℕ) (xs ys zs : List X) → length xs ≡ n → length ys ≡ m →
    take m (drop n (xs ++ ys ++ zs)) ≡ ys
middle n m xs ys zs one two =
    rw (sym one, append_assoc xs ys zs, drop-append_seam xs (ys ++ zs)) (front m ys zs two)

-- what a framed body begins with, in numbers
pub framed_read :
    (bytes body behind : List ℕ) (size : ℕ) → length bytes < 2 ^ 64 → size < 2 ^ 64 → bytes ≡ framed body ++ behind →
    number_bytes size ≡ take 8 bytes →
    (size ≡ length body) × (take 32 (drop 8 bytes) ≡ sha256 body) × (take size (drop 40 bytes) ≡ body)
    × (length bytes ≡ 40 + length body + length behind)
framed_read bytes body behind size few small is first =
    let number = number_bytes (length body) in
    let digest = sha256 body in
    let eight = number_length (length body) in
    let deep = length-sha256 body in
    let split : bytes ≡ number ++ digest ++ (body ++ behind) = is ∙ append_assoc (number ++ digest) body behind in
    let head : length (number ++ digest) ≡ 40 = grind (arith, length-append, eight, deep) in
    let long : length bytes ≡ 40 + length body + length behind =
    ap length is ∙ grind (arith, length-append, eight, deep) in
    let first_8 : take 8 bytes ≡ number =
    ap (take 8) (split ∙ append_assoc number digest (body ++ behind)) ∙ front 8 number (digest ++ (body ++ behind)) eight in
    let equal : size ≡ length body = number_same size (length body) small (omega (arith, long, few)) (first ∙ first_8) in (
      equal,
      ap (λ ys. take 32 (drop 8 ys)) split ∙ middle 8 32 number digest (body ++ behind) eight deep,
      ap (λ k. take k (drop 40 bytes)) equal
          ∙ ap (λ ys. take (length body) (drop 40 ys)) is ∙ middle 40 (length body) (number ++ digest) body behind head refl,
      long,
    )

-- bytes that are not found other are the same
pub same_bytes : (xs ys : List ℕ) (other : Bool) → other ≡ not (bytes_eq xs ys) → other ≡ false → xs ≡ ys
same_bytes xs ys other is none = (bytes_eq-Decides xs ys).0 (grind (arith, is, none))

-- bytes that are found other are not the same
pub other_bytes : (xs ys : List ℕ) (other : Bool) → other ≡ not (bytes_eq xs ys) → other ≡ true → xs ≢ ys
other_bytes xs ys other is found same = absurd (grind (arith, is, found, (bytes_eq-Decides xs ys).1 same))

-- words and one more
pub words_more :
    (words : List (List ℕ)) (word : List ℕ) →
    words_bytes (words ++ word ∷ []) ≡ words_bytes words ++ number_bytes (length word) ++ word
words_more words word =
    let f : List ℕ → List ℕ = λ w. number_bytes (length w) ++ w in
    flat_map-append f words (word ∷ [])
    ∙ ap (λ ys. flat_map f words ++ ys) (append-nil (f word))
    ∙ sym (append_assoc (flat_map f words) (number_bytes (length word)) word)

-- the last of some elements and one more
pub last_pushed : {X : Type 0} (xs : List X) (x : X) → last_or None (xs ++ x ∷ []) ≡ Some x
last_pushed xs x = last_behind None xs x where
  last_behind : {X : Type 0} (o : Option X) (xs : List X) (x : X) → last_or o (xs ++ x ∷ []) ≡ Some x
  last_behind o [] x = refl
  last_behind o (y ∷ xs) x = last_behind (Some y) xs x

-- records and one more
pub record_pushed :
    (records : List (Mark × List ℕ)) (mark : Mark) (messages rest behind bytes : List ℕ) →
    bytes ≡ flat_map (λ r. record_bytes r.0 r.1) records ++ rest → rest ≡ record_bytes mark messages ++ behind →
    bytes ≡ flat_map (λ r. record_bytes r.0 r.1) (records ++ (mark, messages) ∷ []) ++ behind
record_pushed records mark messages rest behind bytes stand there =
    let f : (Mark × List ℕ) → List ℕ = λ r. record_bytes r.0 r.1 in
    let so_far = flat_map f records in
    stand ∙ ap (λ ys. so_far ++ ys) there ∙ sym (append_assoc so_far (record_bytes mark messages) behind)
    ∙ ap (λ ys. ys ++ behind) (ap (λ ys. so_far ++ ys) (sym (append-nil (record_bytes mark messages)))
    ∙ sym (flat_map-append f records ((mark, messages) ∷ [])))

-- a mark has 56 bytes, and so a body has as many
pub body_long : (mark : Mark) (messages : List ℕ) → 56 ≤ length (mark_bytes mark ++ messages)
body_long mark messages = grind (arith, length-append, number_length)

-- the words that a head is of are determined by its number
pub head_splits :
    (own : List ℕ) (words front behind : List (List ℕ)) (count : ℕ) → number_bytes count ≡ take 8 (drop 8 own) →
    count < 2 ^ 64 → length words < 2 ^ 64 → words ≡ front ++ behind → own ≡ head_bytes front →
    (count ≡ length front) × (front ≡ take count words) × (behind ≡ drop count words) × (count ≤ length words)
head_splits own words front behind count number small few split is =
    let first_16 : take 8 (drop 8 own) ≡ number_bytes (length front) =
    ap (λ ys. take 8 (drop 8 ys)) is
    ∙ middle 8 8 (codes "simplex1") (number_bytes (length front)) (sha256 (words_bytes front)) refl
    (number_length (length front)) in
    let shorter : length words ≡ length front + length behind = ap length split ∙ length-append front behind in
    let equal : count ≡ length front =
    number_same count (length front) small (omega (arith, shorter, few)) (number ∙ first_16) in (
      equal,
      sym (rw (equal, split) (take-append_seam front behind)),
      sym (rw (equal, split) (drop-append_seam front behind)),
      omega (arith, equal, shorter),
    )

-- no group begins texts of which the first begins none
pub no_group_first :
    (texts : List (List ℕ)) (n : ℕ) → 0 < n → n ≤ length texts → All (λ text. BeginsGroup text → ⊥) (take n texts) →
    StandsBeforeGroup texts → ⊥
no_group_first [] n some most none stands = absurd (omega (arith, some, most))
no_group_first (text ∷ texts) zero some most none stands = elim some [ ]
no_group_first (text ∷ texts) (suc n) some most none stands =
    All-head (λ (t : List ℕ). BeginsGroup t → ⊥) text (take n texts) none stands

-- as many of the first elements as there are
pub first_of : {X : Type 0} (n : ℕ) (xs : List X) → take (min (length xs) n) xs ≡ take n xs
first_of n xs = grind (arith, common_steps, take_all)

-- whether the bytes begin as a state does
pub kind_is :
    (bytes kind : List ℕ) (begins : ℕ) (same : Bool) → begins ≡ min (length bytes) 8 →
    same ≡ pointwise eqb (take begins bytes) (take (length (take begins bytes)) kind) →
    (same ≡ true → (rest : List ℕ) × (kind ≡ take 8 bytes ++ rest))
    × (((rest : List ℕ) × (kind ≡ take 8 bytes ++ rest)) → same ≡ true)
kind_is bytes kind begins same least is =
    let p = take begins bytes in
    let first : p ≡ take 8 bytes = ap (λ k. take k bytes) least ∙ first_of 8 bytes in
    let told = starts_is Decides-eqb kind p same is in (
      λ yes. (drop (length p) kind, told.0 yes ∙ ap (λ xs. xs ++ drop (length p) kind) first),
      λ at. told.1 at.0 (at.1 ∙ ap (λ xs. xs ++ at.0) (sym first)),
    )
