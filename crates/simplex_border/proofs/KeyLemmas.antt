-- Keys, one after the other.
use Rattle.std.proofs.Common.{◌≡◌, ◌≢◌, ℕ, ◌+◌, ◌*◌, ◌/◌, ◌<◌, ◌≤◌, ◌^◌, List, [], ◌∷◌, ◌++◌, length, get_or, take, drop, refl, sym, ap, ◌∙◌, append_assoc, append-nil, subst, arith, length-drop}
use Rattle.std.specs.Prelude.{All, IfSome, IsTrue, Option, None, Some, map, sum}
use Rattle.std.specs.Option.{is_some}
use Rattle.std.proofs.lemmas.Bool.{false≢true}
use Rattle.std.specs.List.{range_with_len, AllZip}
use Rattle.std.proofs.lemmas.List.{at_drop_more, drop_all, drop_more, length-take-le, map-append, take_all, take_more}
use Rattle.std.proofs.lemmas.List.Elements.{All-cons, All-head, All-nil, All-rest}
use Rattle.std.proofs.lemmas.List.FromFn.{length-map-range_with_len, map-range_with_len_more}
use Rattle.std.proofs.lemmas.List.Sums.{sum_by-cons}
use Rattle.simplex_scheme.specs.Committees.{Schedule, Every, Listed, AreRising}
use Rattle.simplex_scheme.specs.declared.committees.CommitteesError.{CommitteesError}
use Rattle.simplex_scheme.specs.declared.committees.CommitteesError.TheVariants as errors
use Rattle.simplex_schemes.specs.Plain.{PlainScheme}
use Rattle.simplex_schemes.specs.PlainCommittee.{AreCommitteeKeys, IsPlainCommittee}
use Rattle.simplex_border.specs.Keys.{AreKeys, AreOfKeys, HasNoKeyTwice, key_at, keys_in, parts_of}
use Rattle.simplex_border.specs.Sizes.{AreCommitteeSizes}
use Rattle.simplex_border.proofs.SizeLemmas.{rising_pairs, size_of_one, sizes_of_listed}

-- one more key
pub one_more : (bytes : List ℕ) (place : ℕ) →
    map (key_at bytes) (range_with_len 0 (place + 1)) ≡ map (key_at bytes) (range_with_len 0 place) ++ key_at bytes place ∷ []
one_more bytes place = map-range_with_len_more (key_at bytes) 0 place place (omega arith)

-- distinct keys, of which there are some, are those of a committee
committee_keys : (bytes : List ℕ) (size : ℕ) → length bytes ≡ 32 * size → 1 ≤ size → size < 2 ^ 32 → HasNoKeyTwice bytes →
    AreCommitteeKeys (keys_in bytes)
committee_keys bytes size room some few distinct =
    let many = length-map-range_with_len (key_at bytes) 0 (length bytes / 32) in
    let are : length bytes / 32 ≡ size = omega (arith, room) in
    record { some = omega (arith, many, are, some); few = omega (arith, many, are, few); distinct = distinct }

-- ---- how many bytes the keys have

-- the sizes that are left
pub sum_more : (sizes : List ℕ) (i : ℕ) → i < length sizes →
    sum (drop i sizes) ≡ get_or sizes i 0 + sum (drop (i + 1) sizes)
sum_more sizes i lt = at_drop_more sum sizes i 0 lt ∙ sum_by-cons (λ n. n) (get_or sizes i 0) (drop (i + 1) sizes)

-- ---- one committee after another

-- the committees of some parts
abbrev pub AreCommittees : List ℕ → List (List ℕ) → List (ℕ × PlainScheme) → Type 0
AreCommittees namespace parts pairs = AllZip (λ part p. IsPlainCommittee namespace (keys_in part) p.1) parts pairs

-- the next part, and those behind it
next_part : (sizes rest : List ℕ) (i : ℕ) → i < length sizes →
    parts_of (drop i sizes) rest
    ≡ take (32 * get_or sizes i 0) rest ∷ parts_of (drop (i + 1) sizes) (drop (32 * get_or sizes i 0) rest)
next_part sizes rest i lt = ap (λ (ns : List ℕ). parts_of ns rest) (drop_more sizes i 0 lt)

-- there is room for the next part
pub room_more : (sizes rest : List ℕ) (i : ℕ) → i < length sizes → length rest ≡ 32 * sum (drop i sizes) →
    (32 * get_or sizes i 0 ≤ length rest)
    × (length (drop (32 * get_or sizes i 0) rest) ≡ 32 * sum (drop (i + 1) sizes))
room_more sizes rest i lt room =
    let more = sum_more sizes i lt in
    let left = length-drop (32 * get_or sizes i 0) rest in
    (omega (arith, more, room), omega (arith, more, room, left))

-- one more committee
pub committees_more : (namespace sizes rest : List ℕ) (i : ℕ) (before : List (ℕ × PlainScheme)) (p : ℕ × PlainScheme)
    (whole : List (List ℕ)) → i < length sizes → IsPlainCommittee namespace (keys_in (take (32 * get_or sizes i 0) rest)) p.1 →
    ((more : List (ℕ × PlainScheme)) → AreCommittees namespace (parts_of (drop i sizes) rest) more →
    AreCommittees namespace whole (before ++ more)) → (more : List (ℕ × PlainScheme)) →
    AreCommittees namespace (parts_of (drop (i + 1) sizes) (drop (32 * get_or sizes i 0) rest)) more →
    AreCommittees namespace whole ((before ++ p ∷ []) ++ more)
committees_more namespace sizes rest i before p whole lt is so_far more are =
    subst (AreCommittees namespace whole) (sym (append_assoc before (p ∷ []) more))
    (so_far (p ∷ more)
    (subst (λ (parts : List (List ℕ)). AreCommittees namespace parts (p ∷ more)) (sym (next_part sizes rest i lt)) (is, are)))

-- and its epoch
pub epochs_more : (epochs : List ℕ) (i : ℕ) (before : List (ℕ × PlainScheme)) (p : ℕ × PlainScheme) → i < length epochs →
    map (λ q. q.0) before ≡ take i epochs → p.0 ≡ get_or epochs i 0 →
    map (λ q. q.0) (before ++ p ∷ []) ≡ take (i + 1) epochs
epochs_more epochs i before p lt so_far is =
    let epoch : ℕ × PlainScheme → ℕ = λ q. q.0 in
    map-append epoch before (p ∷ [])
    ∙ (ap (λ (ns : List ℕ). ns ++ p.0 ∷ []) so_far
    ∙ (ap (λ (n : ℕ). take i epochs ++ n ∷ []) is ∙ sym (take_more epochs i 0 lt)))

-- all of them
pub committees_whole : (namespace sizes rest : List ℕ) (i : ℕ) (before : List (ℕ × PlainScheme)) (whole : List (List ℕ)) →
    length sizes ≤ i →
    ((more : List (ℕ × PlainScheme)) → AreCommittees namespace (parts_of (drop i sizes) rest) more →
    AreCommittees namespace whole (before ++ more)) → AreCommittees namespace whole before
committees_whole namespace sizes rest i before whole over so_far =
    let none : parts_of (drop i sizes) rest ≡ [] = ap (λ (ns : List ℕ). parts_of ns rest) (drop_all i sizes over) in
    subst (AreCommittees namespace whole) (append-nil before)
    (so_far [] (subst (λ (parts : List (List ℕ)). AreCommittees namespace parts []) (sym none) tt))

-- no key stands twice in what is left
pub distinct_more : (sizes rest : List ℕ) (i : ℕ) → i < length sizes → All HasNoKeyTwice (parts_of (drop i sizes) rest) →
    All HasNoKeyTwice (parts_of (drop (i + 1) sizes) (drop (32 * get_or sizes i 0) rest))
distinct_more sizes rest i lt all = All-rest HasNoKeyTwice _ _ _ (next_part sizes rest i lt) all

-- the keys of the next committee
pub next_keys : (sizes rest : List ℕ) (i : ℕ) → i < length sizes → 1 ≤ get_or sizes i 0 → get_or sizes i 0 < 2 ^ 32 →
    length rest ≡ 32 * sum (drop i sizes) → All HasNoKeyTwice (parts_of (drop i sizes) rest) →
    AreCommitteeKeys (keys_in (take (32 * get_or sizes i 0) rest))
next_keys sizes rest i lt some few room all =
    let size = get_or sizes i 0 in
    committee_keys (take (32 * size) rest) size (length-take-le (32 * size) rest (room_more sizes rest i lt room).0) some few
    (All-head HasNoKeyTwice (take (32 * size) rest) (parts_of (drop (i + 1) sizes) (drop (32 * size) rest))
    (subst (All HasNoKeyTwice) (next_part sizes rest i lt) all))

-- ---- one committee for every epoch

-- the one part is all the keys
one_part : (size : ℕ) (bytes : List ℕ) → length bytes ≡ 32 * sum (size ∷ []) → parts_of (size ∷ []) bytes ≡ bytes ∷ []
one_part size bytes room =
    let one = sum_by-cons (λ n. n) size [] in
    ap (λ (part : List ℕ). part ∷ []) (take_all (32 * size) bytes (omega (arith, room, one)))

-- the keys of the one committee
pub one_keys : (epochs sizes bytes : List ℕ) → epochs ≡ [] → ((n : ℕ) → sizes ≡ n ∷ [] → n < 2 ^ 32) →
    AreKeys epochs sizes bytes → AreCommitteeKeys (keys_in bytes)
one_keys epochs sizes bytes none few are =
    let (n, is, some) = size_of_one epochs sizes none are.length_is.0 in
    let room : length bytes ≡ 32 * sum (n ∷ []) = subst (λ (ns : List ℕ). length bytes ≡ 32 * sum ns) is are.length_is.1 in
    let one = sum_by-cons (λ n. n) n [] in
    committee_keys bytes n (omega (arith, room, one)) some (few n is)
    (All-head HasNoKeyTwice bytes [] (subst (All HasNoKeyTwice)
    (ap (λ (ns : List ℕ). parts_of ns bytes) is ∙ one_part n bytes room) are.distinct))

-- ---- what the committees say of the keys

-- no key stands twice
no_key_twice : (namespace : List ℕ) (parts : List (List ℕ)) (pairs : List (ℕ × PlainScheme)) →
    AreCommittees namespace parts pairs → All HasNoKeyTwice parts
no_key_twice namespace [] [] are = All-nil HasNoKeyTwice
no_key_twice namespace [] (p ∷ pairs) are = absurd are
no_key_twice namespace (part ∷ parts) [] are = absurd are
no_key_twice namespace (part ∷ parts) (p ∷ pairs) are =
    All-cons HasNoKeyTwice part parts are.0.are_keys.distinct (no_key_twice namespace parts pairs are.1)

-- there are such committees, so the keys are those of committees
pub keys_of : (namespace epochs sizes bytes : List ℕ) (committees : Schedule PlainScheme) →
    AreOfKeys namespace epochs sizes bytes committees → AreKeys epochs sizes bytes
keys_of namespace epochs sizes bytes (Every committee) are =
    let (n, is, some) = size_of_one epochs sizes are.0 are.1.0 in
    let room : length bytes ≡ 32 * sum (n ∷ []) = subst (λ (ns : List ℕ). length bytes ≡ 32 * sum ns) is are.1.1 in
    let parts : parts_of sizes bytes ≡ bytes ∷ [] = ap (λ (ns : List ℕ). parts_of ns bytes) is ∙ one_part n bytes room in
    record {
      length_is = are.1;
      distinct = subst (All HasNoKeyTwice) (sym parts)
          (All-cons HasNoKeyTwice bytes [] are.2.are_keys.distinct (All-nil HasNoKeyTwice));
    }
keys_of namespace epochs sizes bytes (Listed pairs) are =
    record { length_is = are.1; distinct = no_key_twice namespace (parts_of sizes bytes) pairs are.3 }

-- there are such committees exactly of keys of committees
pub decided : (namespace epochs sizes bytes : List ℕ) (answer : Option (Schedule PlainScheme)) →
    IfSome answer (AreOfKeys namespace epochs sizes bytes) → (answer ≡ None → AreKeys epochs sizes bytes → ⊥) →
    (IsTrue (is_some answer) → AreKeys epochs sizes bytes) × (AreKeys epochs sizes bytes → IsTrue (is_some answer))
decided namespace epochs sizes bytes None some none = (λ yes. absurd (false≢true yes), λ are. absurd (none refl are))
decided namespace epochs sizes bytes (Some committees) some none =
    (λ _. keys_of namespace epochs sizes bytes committees some, λ _. refl)

-- the pairs of committees whose epochs rise are not refused
pub never_refused : (epochs sizes : List ℕ) (pairs : List (ℕ × PlainScheme)) (e : CommitteesError) → epochs ≢ [] →
    AreCommitteeSizes epochs sizes → map (λ p. p.0) pairs ≡ epochs → (e ≡ errors.Empty → pairs ≡ []) →
    (e ≡ errors.Unordered → AreRising pairs → ⊥) → ⊥
never_refused epochs sizes pairs errors.Empty some are is empty unordered =
    some (sym is ∙ ap (λ (ps : List (ℕ × PlainScheme)). map (λ p. p.0) ps) (empty refl))
never_refused epochs sizes pairs errors.Unordered some are is empty unordered =
    unordered refl (rising_pairs epochs pairs is (sizes_of_listed epochs sizes some are).2)
