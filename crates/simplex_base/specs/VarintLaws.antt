-- A number that is read is the number that was written, and what was written is read again.
-- Each law is by induction on the groups: what holds of the rest holds with one more group before it.
-- They stand beside the definitions because ghost members of impls cite them, and those see no proofs.
use Rattle.std.proofs.Math.Nat.{mul-le-mul_left, le-mul_of_pos_right, one-le-pow}
use Rattle.std.proofs.Common.{◌≡◌, ℕ, zero, suc, length, get_or, take, drop, nat_lt, ◌+◌, ◌-◌, ◌*◌, ◌/◌, ◌%◌, ◌^◌, ◌<◌, ◌≤◌, Bool, true, false, cond, List, [], ◌∷◌, ◌++◌, Result, Ok, Err, refl, sym, ap, subst, ◌∙◌, arith, inl, inr, ltb, ◌⊎◌}
use Rattle.std.proofs.Math.Dec.{eqb-suc-zero}
use Rattle.std.proofs.lemmas.List.{take_all}
use Rattle.std.proofs.lemmas.Bool.{cases_Bool, cases_lt, lt-ltb, le-ltb, ltb-true, ltb-false}
use Rattle.std.specs.Prelude.{⊤, ◌≢◌, IfOk}
use Rattle.simplex_base.specs.declared.codec.error.Error.{Error}
use Rattle.simplex_base.specs.declared.codec.error.Error.TheVariants as errors
use Rattle.simplex_base.specs.Reading.{Reading, end_of_buffer, invalid_varint, IsBytes, Gives}
use Rattle.simplex_base.specs.Format.{Lawful, IsLawful}
use Rattle.simplex_base.specs.Varint.{groups, groups_at, number_at, with_group, IsNumber, BeginsWith, IsCutOff, ReadsNumber, number_64, number_32}

-- ---- powers of 128

-- with one group more there are 128 times as many numbers
wider : (top k : ℕ) → top * 128 ^ suc k ≡ 128 * (top * 128 ^ k)
wider top k = let p : 128 ^ suc k ≡ 128 * 128 ^ k = omega arith in rw p (omega arith)

pub step_of_power : (top more : ℕ) → 0 < more → top * 128 ^ more ≡ 128 * (top * 128 ^ (more - 1))
step_of_power top zero h = absurd (omega arith)
step_of_power top (suc k) h = let e : suc k - 1 ≡ k = omega arith in rw (e, wider top k) refl

top_of_power : (top more : ℕ) → top ≤ top * 128 ^ more
top_of_power top more = le-mul_of_pos_right top (one-le-pow more 128 (omega arith))

pub some_of_power : (top more : ℕ) → 0 < more → 1 ≤ top → 128 ≤ top * 128 ^ more
some_of_power top more h t = omega (arith, step_of_power top more h, top_of_power top (more - 1))

-- ---- a group before the rest, by the grammar

-- a group that isn't the last, before the encoding of the groups above
record Lower (b : ℕ) (rest : List ℕ) (n : ℕ) : Type 0 where
  pub big : 128 ≤ b
  pub byte : b < 256
  pub high : ℕ
  pub some : 0 < high
  pub sum : n + 128 ≡ b + 128 * high
  pub number : IsNumber rest high

lower : (b : ℕ) (rest : List ℕ) (high n : ℕ) → 128 ≤ b → b < 256 → 0 < high → n + 128 ≡ b + 128 * high →
    IsNumber rest high → IsNumber (b ∷ rest) n
lower b [] high n p q r e h = absurd h
lower b (c ∷ rest) high n p q r e h = (p, q, high, r, e, h)

-- the first group is the last, or such a group
first : (b : ℕ) (rest : List ℕ) (n : ℕ) → IsNumber (b ∷ rest) n →
    ((rest ≡ []) × (b < 128) × (n ≡ b)) ⊎ Lower b rest n
first b [] n h = inl (refl, h.0, h.1)
first b (c ∷ rest) n h = inr (record { big = h.0; byte = h.1; high = h.2; some = h.3; sum = h.4; number = h.5 })

-- ---- the groups of a number are its encoding

pub groups_number : (k n : ℕ) → n < 128 * 128 ^ k → IsNumber (groups k n) n
unfolding groups
groups_number zero n lt = (omega arith, refl)
groups_number (suc k) n lt = elim (cases_lt n 128) [
  | inl small ↦ rw (lt-ltb n 128 small) (small, refl)
  | inr big ↦
      let up : n / 128 < 128 * 128 ^ k = omega (arith, wider 128 k) in
      rw (le-ltb n 128 big) (lower _ _ (n / 128) n (omega arith) (omega arith) (omega arith) (omega arith)
      (groups_number k (n / 128) up))
]

-- and nothing else is
pub number_groups : (bytes : List ℕ) (k n : ℕ) → n < 128 * 128 ^ k → IsNumber bytes n → bytes ≡ groups k n
unfolding groups
number_groups [] k n lt h = absurd h
number_groups (b ∷ rest) zero n lt h = elim (first b rest n h) [
  | inl l ↦ rw (l.0, l.2) refl
  | inr l ↦ absurd (omega (arith, l.big, l.some, l.sum))
]
number_groups (b ∷ rest) (suc k) n lt h = elim (first b rest n h) [
  | inl l ↦ let small : n < 128 = omega (arith, l.1, l.2) in rw (lt-ltb n 128 small, l.0, l.2) refl
  | inr l ↦
      let p = l.big in let q = l.byte in let r = l.some in let e = l.sum in
      let big : 128 ≤ n = omega arith in
      let low : n % 128 + 128 ≡ b = omega arith in
      let up : n / 128 ≡ l.high = omega arith in
      rw (le-ltb n 128 big, low, up)
      (ap (λ (t : List ℕ). b ∷ t) (number_groups rest k l.high (omega (arith, wider 128 k)) l.number))
]

pub groups_len : (k n : ℕ) → length (groups k n) ≤ suc k
unfolding groups
groups_len zero n = omega arith
groups_len (suc k) n = elim (cases_Bool (nat_lt n 128)) [
  | inl small ↦ rw small (omega arith)
  | inr large ↦ rw large (omega (arith, groups_len k (n / 128)))
]

-- a group before groups that are at least m
pub above_group : (m n b : ℕ) (read : Reading ℕ) → n ≤ 128 * m → IfOk read (λ x. m ≤ x.0) →
    IfOk (with_group b read) (λ x. n ≤ x.0)
above_group m n b (Ok (high, rest)) le h = omega arith
above_group m n b (Err e) le h = tt

-- the groups above the first are not 0
pub groups_above : (bytes : List ℕ) (k top : ℕ) → IfOk (groups_at bytes k top) (λ x. 1 ≤ x.0)
unfolding groups_at
groups_above [] k top = tt
groups_above (b ∷ bytes) zero top = elim (cases_Bool (nat_lt 0 b)) [
  | inl some ↦ rw some (elim (cases_Bool (nat_lt b top)) [
    | inl below ↦ rw below (ltb-true 0 b some)
    | inr past ↦ rw past tt
  ])
  | inr none ↦ rw none tt
]
groups_above (b ∷ bytes) (suc k) top = rw (eqb-suc-zero k) (elim (cases_Bool (nat_lt b 128)) [
  | inl last ↦ rw last (elim (cases_Bool (nat_lt 0 b)) [
    | inl some ↦ rw some (ltb-true 0 b some)
    | inr none ↦ rw none tt
  ])
  | inr more ↦ rw more (above_group 1 1 b _ (omega arith) (groups_above bytes (suc k - 1) top))
])

-- that of a group that is not the last one
next_group : (k top m n b : ℕ) (bytes : List ℕ) → 128 ≤ b → n ≤ 128 * m → IfOk (groups_at bytes k top) (λ x. m ≤ x.0) →
    IfOk (groups_at (b ∷ bytes) (suc k) top) (λ x. n ≤ x.0)
unfolding groups_at
next_group k top m n b bytes more le h =
    let less : suc k - 1 ≡ k = omega arith in
    rw (eqb-suc-zero k, le-ltb b 128 more, less) (above_group m n b _ le h)

-- what has more than three groups is at least 2^21
pub many_groups : (k top low middle high : ℕ) (bytes : List ℕ) → 128 ≤ low → 128 ≤ middle → 128 ≤ high →
    IfOk (groups_at (low ∷ middle ∷ high ∷ bytes) (suc (suc (suc k))) top) (λ x. 2 ^ 21 ≤ x.0)
many_groups k top low middle high bytes p q r =
    next_group (suc (suc k)) top (128 * 128) (2 ^ 21) low _ p (omega arith)
    (next_group (suc k) top 128 (128 * 128) middle _ q (omega arith)
    (next_group k top 1 128 high _ r (omega arith) (groups_above bytes k top)))

-- what stands behind the first byte
abbrev behind : List ℕ → List ℕ
behind xs = take (length xs - 1) (drop 1 xs)

behind_cons : (x : ℕ) (xs : List ℕ) → behind (x ∷ xs) ≡ xs
behind_cons x xs = take_all (suc (length xs) - 1) xs (omega arith)

-- that of bytes whose first three are no last groups
pub many_groups_at : (k top : ℕ) (xs : List ℕ) → 1 ≤ length xs → 128 ≤ get_or xs 0 0 → 1 ≤ length (behind xs) →
    128 ≤ get_or (behind xs) 0 0 → 1 ≤ length (behind (behind xs)) → 128 ≤ get_or (behind (behind xs)) 0 0 →
    IfOk (groups_at xs (suc (suc (suc k))) top) (λ x. 2 ^ 21 ≤ x.0)
many_groups_at k top [] a p b q d r = absurd (omega arith)
many_groups_at k top (low ∷ []) a p b q d r = absurd (omega (arith, b))
many_groups_at k top (low ∷ middle ∷ []) a p b q d r = absurd (omega (arith, d))
many_groups_at k top (low ∷ middle ∷ high ∷ rest) a p b q d r =
    let e = behind_cons low (middle ∷ high ∷ rest) in
    let f = behind_cons middle (high ∷ rest) in
    many_groups k top low middle high rest p (rw e at q) (rw f at (rw e at r))

-- no encoding is empty
pub groups_some : (k n : ℕ) → 1 ≤ length (groups k n)
unfolding groups
groups_some zero n = omega arith
groups_some (suc k) n = elim (cases_Bool (nat_lt n 128)) [
  | inl small ↦ rw small (omega arith)
  | inr large ↦ rw large (omega arith)
]

-- ---- what reading returns is right by the grammar

-- A number from least on, below the limit, whose encoding is a prefix of the bytes; or the bytes are a proper prefix of one.
abbrev Right : ℕ → ℕ → List ℕ → Reading ℕ → Type 0
Right least limit bytes (Ok (n, rest)) = (least ≤ n) × BeginsWith limit bytes n rest
Right least limit bytes (Err end_of_buffer) = (cut : IsCutOff limit bytes) × (least ≤ cut.n)
Right least limit bytes (Err invalid_varint) = ⊤
Right least limit bytes (Err _) = ⊥

right_if : (least limit : ℕ) (bytes : List ℕ) (b : Bool) (x y : Reading ℕ) → (b ≡ true → Right least limit bytes x) →
    (b ≡ false → Right least limit bytes y) → Right least limit bytes (cond b x y)
right_if least limit bytes true x y p q = p refl
right_if least limit bytes false x y p q = q refl

right_none : (least limit : ℕ) → least ≤ 1 → 2 ≤ limit → Right least limit [] (Err end_of_buffer)
right_none least limit p q =
    (record { n = 1; below = omega arith; missing = 1 ∷ []; some = λ e. cc; number = (omega arith, refl) }, omega arith)

right_last : (least limit b : ℕ) (bytes : List ℕ) → least ≤ b → b < limit → b < 128 →
    Right least limit (b ∷ bytes) (Ok (b, bytes))
right_last least limit b bytes p q r =
    (omega arith, record { below = omega arith; front = b ∷ []; number = (omega arith, refl); parts = refl })

right_lower : (least limit b : ℕ) (bytes : List ℕ) (r : Reading ℕ) → least ≤ 1 → 128 ≤ b → b < 256 →
    Right 1 limit bytes r → Right least (128 * limit) (b ∷ bytes) (with_group b r)
right_lower least limit b bytes (Ok (n, rest)) l p q h =
    let some = h.0 in let lt = h.1.below in (
      omega arith,
      record {
        below = omega arith;
        front = b ∷ h.1.front;
        number = lower b h.1.front n _ p q (omega arith) (omega arith) h.1.number;
        parts = ap (λ (t : List ℕ). b ∷ t) h.1.parts;
      },
    )
right_lower least limit b bytes (Err end_of_buffer) l p q (cut, some) =
    let lt = cut.below in (
      record {
        n = (b - 128) + 128 * cut.n;
        below = omega arith;
        missing = cut.missing;
        some = cut.some;
        number = lower b (bytes ++ cut.missing) cut.n _ p q (omega arith) (omega arith) cut.number;
      },
      omega arith,
    )
right_lower least limit b bytes (Err invalid_varint) l p q h = tt
right_lower least limit b bytes (Err _) l p q h = absurd h

groups_right : (least : ℕ) (bytes : List ℕ) (k top : ℕ) → least ≤ 1 → top ≤ 128 → 2 ≤ top → IsBytes bytes →
    Right least (top * 128 ^ k) bytes (groups_at bytes k top)
unfolding groups_at
groups_right least [] k top l t t' fit = right_none least _ l (omega (arith, top_of_power top k))
groups_right least (b ∷ bytes) zero top l t t' fit =
    right_if _ _ _ (ltb 0 b) _ _ (λ p. right_if _ _ _ (ltb b top) _ _
    (λ q. right_last least _ b bytes (omega (arith, ltb-true 0 b p)) (omega (arith, ltb-true b top q))
    (omega (arith, ltb-true b top q))) (λ _. tt)) (λ _. tt)
groups_right least (b ∷ bytes) (suc k) top l t t' fit =
    let one : suc k - 1 ≡ k = omega arith in
    rw (eqb-suc-zero k, one) (right_if _ _ _ (ltb b 128) _ _
    (λ p. right_if _ _ _ (ltb 0 b) _ _ (λ q. right_last least _ b bytes (omega (arith, ltb-true 0 b q))
    (omega (arith, ltb-true b 128 p, some_of_power top (suc k) (omega arith) (omega arith))) (ltb-true b 128 p)) (λ _. tt))
    (λ p. rw (wider top k) (right_lower least _ b bytes _ l (ltb-false b 128 p) (fit 0)
    (groups_right 1 bytes k top (omega arith) t t' (λ i. fit (suc i))))))

-- a number is its groups, but for 0
number_groups_at : (b : ℕ) (bytes : List ℕ) (k top : ℕ) → 0 < b →
    number_at (suc k) top (b ∷ bytes) ≡ groups_at (b ∷ bytes) (suc k) top
unfolding number_at groups_at
number_groups_at b bytes k top some = rw (eqb-suc-zero k, lt-ltb 0 b some) refl

number_right : (bytes : List ℕ) (k top : ℕ) → top ≤ 128 → 2 ≤ top → IsBytes bytes →
    Right 0 (top * 128 ^ suc k) bytes (number_at (suc k) top bytes)
unfolding number_at
number_right [] k top t t' fit = right_none 0 _ (omega arith) (omega (arith, top_of_power top (suc k)))
number_right (zero ∷ bytes) k top t t' fit =
    right_last 0 _ 0 bytes (omega arith) (omega (arith, top_of_power top (suc k))) (omega arith)
number_right (suc b ∷ bytes) k top t t' fit =
    rw (number_groups_at (suc b) bytes k top (omega arith)) (groups_right 0 (suc b ∷ bytes) (suc k) top (omega arith) t t' fit)

-- ---- what begins with an encoding is read so, and what is cut off ends too early

joined : (b : ℕ) (rest : List ℕ) (n : ℕ) (l : Lower b rest n) → (b - 128) + 128 * l.high ≡ n
joined b rest n l = omega (arith, l.big, l.sum)

above : (b : ℕ) (rest : List ℕ) (n top k : ℕ) (l : Lower b rest n) → n < top * 128 ^ suc k → l.high < top * 128 ^ k
above b rest n top k l lt = omega (arith, l.big, l.sum, wider top k)

groups_begun : (front rest : List ℕ) (k top n : ℕ) → top ≤ 128 → 0 < n → n < top * 128 ^ k → IsNumber front n →
    groups_at (front ++ rest) k top ≡ Ok (n, rest)
unfolding groups_at
groups_begun [] rest k top n t some lt h = absurd h
groups_begun (b ∷ front) rest zero top n t some lt h = elim (first b front n h) [
  | inl l ↦
      let p : 0 < b = omega (arith, l.2) in let q : b < top = omega (arith, l.2) in
      rw (l.0, l.2, lt-ltb 0 b p, lt-ltb b top q) refl
  | inr l ↦ absurd (omega (arith, l.big, l.some, l.sum))
]
groups_begun (b ∷ front) rest (suc k) top n t some lt h =
    let one : suc k - 1 ≡ k = omega arith in
    elim (first b front n h) [
      | inl l ↦ let p : 0 < b = omega (arith, l.2) in
          rw (eqb-suc-zero k, l.0, l.2, lt-ltb b 128 l.1, lt-ltb 0 b p) refl
      | inr l ↦ rw (
        eqb-suc-zero k,
        le-ltb b 128 l.big,
        one,
        groups_begun front rest k top l.high t l.some (above b front n top k l lt) l.number,
        joined b front n l,
      ) refl
    ]

number_begun : (front rest : List ℕ) (k top n : ℕ) → top ≤ 128 → n < top * 128 ^ suc k → IsNumber front n →
    number_at (suc k) top (front ++ rest) ≡ Ok (n, rest)
unfolding number_at
number_begun [] rest k top n t lt h = absurd h
number_begun (b ∷ front) rest k top n t lt h = elim (first b front n h) [
  | inl l ↦ rw (l.0, l.2, lt-ltb b 128 l.1) refl
  | inr l ↦ number_groups_at b (front ++ rest) k top (omega (arith, l.big))
      ∙ groups_begun (b ∷ front) rest (suc k) top n t (omega (arith, l.big, l.sum, l.some)) lt h
]

-- a byte before bytes that miss some is no last group
higher : (b : ℕ) (bytes missing : List ℕ) (n : ℕ) → missing ≢ [] → IsNumber (b ∷ bytes ++ missing) n →
    Lower b (bytes ++ missing) n
higher b [] missing n some h = elim (first b missing n h) [ inl l ↦ absurd (some l.0) | inr l ↦ l ]
higher b (c ∷ bytes) missing n some h =
    elim (first b (c ∷ bytes ++ missing) n h) [ inl l ↦ absurd (let e = l.0 in cc) | inr l ↦ l ]

groups_ended : (bytes missing : List ℕ) (k top n : ℕ) → top ≤ 128 → missing ≢ [] → n < top * 128 ^ k →
    IsNumber (bytes ++ missing) n → groups_at bytes k top ≡ Err end_of_buffer
unfolding groups_at
groups_ended [] missing k top n t some lt h = refl
groups_ended (b ∷ bytes) missing zero top n t some lt h =
    let l = higher b bytes missing n some h in absurd (omega (arith, l.big, l.some, l.sum))
groups_ended (b ∷ bytes) missing (suc k) top n t some lt h =
    let l = higher b bytes missing n some h in
    let one : suc k - 1 ≡ k = omega arith in
    rw (
      eqb-suc-zero k,
      le-ltb b 128 l.big,
      one,
      groups_ended bytes missing k top l.high t some (above b (bytes ++ missing) n top k l lt) l.number,
    ) refl

number_ended : (bytes : List ℕ) (k top : ℕ) → top ≤ 128 → IsCutOff (top * 128 ^ suc k) bytes →
    number_at (suc k) top bytes ≡ Err end_of_buffer
unfolding number_at
number_ended [] k top t c = refl
number_ended (b ∷ bytes) k top t c =
    let l = higher b bytes c.missing c.n c.some c.number in
    number_groups_at b bytes k top (omega (arith, l.big))
    ∙ groups_ended (b ∷ bytes) c.missing (suc k) top c.n t c.some c.below c.number

-- ---- what reading a number returns, and that it is lawful

abbrev limit_of : ℕ → ℕ → ℕ
limit_of k top = top * 128 ^ suc k

in_groups : (k top n : ℕ) → top ≤ 128 → n < top * 128 ^ k → n < 128 * 128 ^ k
in_groups k top n t lt = omega (arith, mul-le-mul_left (128 ^ k) t)

-- what reading returned is right
right_of : (k top : ℕ) (bytes : List ℕ) (r : Reading ℕ) → top ≤ 128 → 2 ≤ top → IsBytes bytes →
    number_at (suc k) top bytes ≡ r → Right 0 (limit_of k top) bytes r
right_of k top bytes r t t' fit e = subst (Right 0 (limit_of k top) bytes) e (number_right bytes k top t t' fit)

begun : (k top : ℕ) (bytes : List ℕ) (n : ℕ) (rest : List ℕ) → top ≤ 128 → BeginsWith (limit_of k top) bytes n rest →
    number_at (suc k) top bytes ≡ Ok (n, rest)
begun k top bytes n rest t b = rw (b.parts) (number_begun b.front rest k top n t b.below b.number)

number_lawful : (k top : ℕ) → top ≤ 128 → 2 ≤ top → Lawful (λ n. n < limit_of k top) (groups (suc k)) (number_at (suc k) top)
number_lawful k top t t' = record {
  takes = λ bytes n rest fit e.
      let b = (right_of k top bytes (Ok (n, rest)) t t' fit e).1 in
      let front = number_groups b.front (suc k) n (in_groups (suc k) top n t b.below) b.number in
      record { value = b.below; parts = rw (← front) (b.parts) };
  again = λ n rest lt.
      number_begun (groups (suc k) n) rest k top n t lt (groups_number (suc k) n (in_groups (suc k) top n t lt));
}

same_read : {n m : ℕ} {rest left : List ℕ} → ◌≡◌ {A = Reading ℕ} (Ok (n, rest)) (Ok (m, left)) →
    (◌≡◌ {A = Result ℕ Error} (Ok n) (Ok m)) × (rest ≡ left)
same_read {n} {m} {rest} {left} e = let p : ◌≡◌ {A = ℕ × List ℕ} (n, rest) (m, left) = cc in
    (ap (λ (x : ℕ × List ℕ). Ok (x.0)) p, ap (λ (x : ℕ × List ℕ). x.1) p)

pub reads_number : (k top : ℕ) → top ≤ 128 → 2 ≤ top → (r : Result ℕ Error) (old new : List ℕ) → IsBytes old →
    Gives false r old new (number_at (suc k) top old) → ReadsNumber (top * 128 ^ suc k) r old new
reads_number k top t t' (Ok n) old new fit g = let b = (right_of k top old (Ok (n, new)) t t' fit g).1 in record {
  taken = b;
  again = λ m rest c.
      let e : ◌≡◌ {A = Reading ℕ} (Ok (n, new)) (Ok (m, rest)) = sym g ∙ begun k top old m rest t c in same_read e;
  refused = tt;
  ends = λ e. absurd cc;
  cut_off = λ c. let e = sym g ∙ number_ended old k top t c in absurd cc;
  otherwise = λ never _. absurd (never n new b);
}
reads_number k top t t' (Err errors.EndOfBuffer) old new fit g =
    let cut = (right_of k top old (Err end_of_buffer) t t' fit g.1).0 in record {
      taken = tt;
      again = λ m rest c. let e = sym (g.1) ∙ begun k top old m rest t c in absurd cc;
      refused = g.0;
      ends = λ _. cut;
      cut_off = λ _. refl;
      otherwise = λ _ uncut. absurd (uncut cut);
    }
reads_number k top t t' (Err errors.InvalidVarint) old new fit g = record {
  taken = tt;
  again = λ m rest c. let e = sym (g.1) ∙ begun k top old m rest t c in absurd cc;
  refused = g.0;
  ends = λ e. absurd cc;
  cut_off = λ c. let e = sym (g.1) ∙ number_ended old k top t c in absurd cc;
  otherwise = λ _ _. refl;
}
reads_number k top t t' (Err errors.OutOfMemory) old new fit g = absurd (let e = g.1 in cc)
reads_number k top t t' (Err _) old new fit g = absurd (right_of k top old (Err _) t t' fit g.1)

-- ---- the two widths

-- the encoding of a number by the grammar, and the only one
pub encodes_64 : (n : ℕ) → n < 2 ^ 64 → IsNumber (groups 9 n) n
encodes_64 n lt = groups_number 9 n (omega arith)

pub only_encoding_64 : (n : ℕ) (bytes : List ℕ) → n < 2 ^ 64 → IsNumber bytes n → bytes ≡ groups 9 n
only_encoding_64 n bytes lt h = number_groups bytes 9 n (omega arith) h

pub encodes_32 : (n : ℕ) → n < 2 ^ 32 → IsNumber (groups 4 n) n
encodes_32 n lt = groups_number 4 n (omega arith)

pub only_encoding_32 : (n : ℕ) (bytes : List ℕ) → n < 2 ^ 32 → IsNumber bytes n → bytes ≡ groups 4 n
only_encoding_32 n bytes lt h = number_groups bytes 4 n (omega arith) h

-- a number of 32 bits is encoded alike in both
pub groups_32 : (n : ℕ) → n < 2 ^ 32 → groups 9 n ≡ groups 4 n
groups_32 n lt = only_encoding_32 n (groups 9 n) lt (encodes_64 n (omega arith))

pub number_64_lawful : IsLawful number_64
number_64_lawful = number_lawful 8 2 (omega arith) (omega arith)

pub number_32_lawful : IsLawful number_32
number_32_lawful = number_lawful 3 16 (omega arith) (omega arith)

pub groups_len_64 : (n : ℕ) → length (groups 9 n) ≤ 10
groups_len_64 n = groups_len 9 n

pub groups_len_32 : (n : ℕ) → length (groups 4 n) ≤ 5
groups_len_32 n = groups_len 4 n

-- the greatest number of 64 bits has ten groups
pub longest_64 : length (groups 9 (2 ^ 64 - 1)) ≡ 10
unfolding groups
longest_64 = refl

-- the greatest number of 32 bits has five groups
pub longest_32 : length (groups 4 (2 ^ 32 - 1)) ≡ 5
unfolding groups
longest_32 = refl
