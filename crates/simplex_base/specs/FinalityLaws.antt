-- Formats put together have final refusals if their parts have.
-- They stand beside the definitions because ghost members of impls cite them, and those see no proofs.
use Rattle.std.proofs.Common.{◌≡◌, ◌==◌, ◌⊎◌, inl, inr, ℕ, zero, suc, ◌+◌, ◌-◌, ◌*◌, ◌≤◌, List, [], ◌∷◌, ◌++◌, length, Ok, Err, Bool, true, false, cond, nat_lt, refl, ◌∙◌, arith, length-append}
use Rattle.std.proofs.lemmas.Bool.{ltb-true, ltb-false, le-ltb}
use Rattle.std.proofs.lemmas.List.{take-append-le, drop-append-le, length-drop}
use Rattle.std.specs.Prelude.{IfOk}
use Rattle.std.proofs.Math.Dec.{eqb-suc-zero}
use Rattle.simplex_base.specs.Reading.{Reading, Refusal, ◌>>=◌, end_of_buffer, invalid_varint}
use Rattle.simplex_base.specs.Format.{both_at, made_at, tested_at, fixed_at, truth_at}
use Rattle.simplex_base.specs.Union.{union_at, branch_at, no_branch}
use Rattle.simplex_base.specs.Varint.{groups_at, with_group, number_at, number_32, number_64}
use Rattle.simplex_base.specs.Finality.{EndsEarly, IsSettled, IsFinal}

-- ---- a longer bound

pub final_within : {T : Type 0} {read : List ℕ → Reading T} {m n : ℕ} → m ≤ n → IsFinal read m → IsFinal read n
final_within {T} {read} {m} {n} le final bytes = elim (final bytes) [
  | inl e ↦ inl (record { refused = e.refused; short = let s = e.short in omega (arith, s, le) })
  | inr s ↦ inr (record { same = s.same; within = wider (read bytes) s.within })
]
  where
    wider : (r : Reading T) → IfOk r (λ x. length bytes ≤ m + length x.1) → IfOk r (λ x. length bytes ≤ n + length x.1)
    wider (Ok x) h = omega (arith, h, le)
    wider (Err e) h = tt

-- ---- a value of no bytes, and a refusal

pub value_final : {T : Type 0} (x : T) → IsFinal (λ bytes. Ok (x, bytes)) 0
value_final x bytes = inr (record { same = λ more. refl; within = omega arith })

pub refusal_final : {T : Type 0} (refusal : Refusal) → IsFinal {T = T} (λ bytes. Err refusal) 0
refusal_final refusal bytes = inr (record { same = λ more. refl; within = tt })

-- ---- one step after another

abbrev pub then_at : {A B : Type 0} → (List ℕ → Reading A) → (A → List ℕ → Reading B) → List ℕ → Reading B
then_at first second bytes = first bytes >>= λ x. second x.0 x.1

module _ {A B : Type 0} (first : List ℕ → Reading A) (second : A → List ℕ → Reading B) (m n : ℕ) (bytes : List ℕ) where
  -- the first step gave a value
  after_value : (x : A) (rest : List ℕ) → first bytes ≡ Ok (x, rest) → IsSettled first m bytes →
      EndsEarly (second x) n rest ⊎ IsSettled (second x) n rest →
      EndsEarly (then_at first second) (m + n) bytes ⊎ IsSettled (then_at first second) (m + n) bytes
  after_value x rest h s (inl e) =
      let within : length bytes ≤ m + length rest = rw h at s.within in
      inl (record {
        refused = rw h e.refused;
        short = let t = e.short in omega (arith, within, t);
      })
  after_value x rest h s (inr t) =
      let within : length bytes ≤ m + length rest = rw h at s.within in
      inr (record {
        same = λ more. rw (s.same more, h, t.same more) refl;
        within = rw h (used (second x rest) within t.within);
      })
    where
      used : (r : Reading B) → length bytes ≤ m + length rest → IfOk r (λ y. length rest ≤ n + length y.1) →
          IfOk r (λ y. length bytes ≤ (m + n) + length y.1)
      used (Ok y) a b = omega (arith, a, b)
      used (Err e) a b = tt

  after_first : (r : Reading A) → first bytes ≡ r → EndsEarly first m bytes ⊎ IsSettled first m bytes →
      ((x : A) → IsFinal (second x) n) →
      EndsEarly (then_at first second) (m + n) bytes ⊎ IsSettled (then_at first second) (m + n) bytes
  after_first r h (inl e) finals =
      inl (record { refused = rw e.refused refl; short = let s = e.short in omega (arith, s) })
  after_first (Ok (x, rest)) h (inr s) finals = after_value x rest h s (finals x rest)
  after_first (Err e) h (inr s) finals = inr (record { same = λ more. rw (s.same more, h) refl; within = rw h tt })

pub then_final : {A B : Type 0} (first : List ℕ → Reading A) (second : A → List ℕ → Reading B) {m n : ℕ} →
    IsFinal first m → ((x : A) → IsFinal (second x) n) → IsFinal (then_at first second) (m + n)
then_final first second {m} {n} final finals bytes = after_first first second m n bytes (first bytes) refl (final bytes) finals

-- ---- parts

pub both_final : {A B : Type 0} {first : List ℕ → Reading A} {second : List ℕ → Reading B} {m n : ℕ} → IsFinal first m →
    IsFinal second n → IsFinal (both_at first second) (m + n)
both_final {A} {B} {first} {second} {m} {n} final other =
    then_final first (λ a. then_at second (λ b rest. Ok ((a, b), rest))) final
    (λ a. final_within (omega arith) (then_final second (λ b rest. Ok ((a, b), rest)) other (λ b. value_final (a, b))))

pub made_final : {A B : Type 0} (make : A → B) {read : List ℕ → Reading A} {m : ℕ} → IsFinal read m →
    IsFinal (made_at make read) m
made_final make {read} final =
    final_within (omega arith) (then_final read (λ a rest. Ok (make a, rest)) final (λ a. value_final (make a)))

pub tested_final : {T : Type 0} (test : T → Bool) (refusal : Refusal) {read : List ℕ → Reading T} {m : ℕ} → IsFinal read m →
    IsFinal (tested_at test refusal read) m
tested_final {T} test refusal {read} final =
    final_within (omega arith)
    (then_final read (λ x rest. cond (test x) (Ok (x, rest)) (Err refusal)) final (λ x. chosen (test x) x))
  where
    chosen : (b : Bool) (x : T) → IsFinal (λ rest. cond b (Ok (x, rest)) (Err refusal)) 0
    chosen true x = value_final x
    chosen false x = refusal_final refusal

-- ---- fixed bytes and truth values

pub fixed_final : {T : Type 0} (size : ℕ) (of_bytes : List ℕ → T) → IsFinal (fixed_at size of_bytes) size
fixed_final {T} size of_bytes bytes = go (nat_lt (length bytes) size) refl
  where
    go : (b : Bool) → nat_lt (length bytes) size ≡ b →
        EndsEarly (fixed_at size of_bytes) size bytes ⊎ IsSettled (fixed_at size of_bytes) size bytes
    go true h = inl (record { refused = rw h refl; short = ltb-true (length bytes) size h })
    go false h =
        let long : size ≤ length bytes = ltb-false (length bytes) size h in
        inr (record {
          same = λ more.
              let longer : nat_lt (length (bytes ++ more)) size ≡ false =
              le-ltb _ _ (omega (arith, long, length-append bytes more)) in
              rw (longer, h, take-append-le size bytes more long, drop-append-le size bytes more long) refl;
          within = rw h (omega (arith, long, length-drop size bytes));
        })

pub truth_final : IsFinal truth_at 1
truth_final [] = inl (record { refused = refl; short = omega arith })
truth_final (b ∷ bytes) = go (b == 0) (b == 1) refl refl
  where
    go : (s t : Bool) → (b == 0) ≡ s → (b == 1) ≡ t →
        EndsEarly truth_at 1 (b ∷ bytes) ⊎ IsSettled truth_at 1 (b ∷ bytes)
    go true t h k = inr (record { same = λ more. rw h refl; within = rw h (omega arith) })
    go false true h k = inr (record { same = λ more. rw (h, k) refl; within = rw (h, k) (omega arith) })
    go false false h k = inr (record { same = λ more. rw (h, k) refl; within = rw (h, k) tt })

-- ---- one byte, and then what depends on it

pub byte_final : {T : Type 0} (read : List ℕ → Reading T) (behind : ℕ → List ℕ → Reading T) {n : ℕ} →
    read [] ≡ Err end_of_buffer → ((b : ℕ) (bytes : List ℕ) → read (b ∷ bytes) ≡ behind b bytes) →
    ((b : ℕ) → IsFinal (behind b) n) → IsFinal read (1 + n)
byte_final read behind none some finals [] = inl (record { refused = none; short = omega arith })
byte_final {T} read behind {n} none some finals (b ∷ bytes) = elim (finals b bytes) [
  | inl e ↦ inl (record { refused = some b bytes ∙ e.refused; short = let s = e.short in omega (arith, s) })
  | inr s ↦ inr (record {
    same = λ more. rw (some b (bytes ++ more), some b bytes) (s.same more);
    within = rw (some b bytes) (longer (behind b bytes) s.within);
  })
]
  where
    longer : (r : Reading T) → IfOk r (λ x. length bytes ≤ n + length x.1) →
        IfOk r (λ x. length (b ∷ bytes) ≤ (1 + n) + length x.1)
    longer (Ok x) h = omega (arith, h)
    longer (Err e) h = tt

-- ---- unions

pub branch_final : {A T : Type 0} (tag : ℕ) (make : A → T) {read : List ℕ → Reading A} {others : ℕ → List ℕ → Reading T}
    {n : ℕ} → IsFinal read n → ((b : ℕ) → IsFinal (others b) n) → (b : ℕ) → IsFinal (branch_at tag make read others b) n
branch_final {A} {T} tag make {read} {others} {n} final finals b = chosen (b == tag)
  where
    chosen : (t : Bool) → IsFinal (λ bytes. cond t (made_at make read bytes) (others b bytes)) n
    chosen true = made_final make final
    chosen false = finals b

pub no_branch_final : {T : Type 0} (refusal : Refusal) (n b : ℕ) → IsFinal {T = T} (no_branch refusal b) n
no_branch_final refusal n b = final_within (omega arith) (refusal_final refusal)

pub union_final : {T : Type 0} {branches : ℕ → List ℕ → Reading T} {n : ℕ} → ((b : ℕ) → IsFinal (branches b) n) →
    IsFinal (union_at branches) (1 + n)
union_final {T} {branches} finals = byte_final (union_at branches) branches refl (λ b bytes. refl) finals

-- ---- numbers

-- a byte that ends a number, if it may
last_final : (b : ℕ) (fine : Bool) → IsFinal (λ bytes. cond fine (Ok (b, bytes)) (Err invalid_varint)) 0
last_final b true = value_final b
last_final b false = refusal_final invalid_varint

-- a byte that further groups follow
group_final : (b : ℕ) {read : List ℕ → Reading ℕ} {n : ℕ} → IsFinal read n → IsFinal (λ bytes. with_group b (read bytes)) n
group_final b {read} final =
    final_within (omega arith)
    (then_final read (λ high rest. Ok ((b - 128) + 128 * high, rest)) final (λ high. value_final ((b - 128) + 128 * high)))

groups_final : (k top : ℕ) → IsFinal (λ bytes. groups_at bytes k top) (1 + k)
unfolding groups_at
groups_final zero top =
    byte_final (λ bytes. groups_at bytes zero top) _ refl (λ b bytes. refl) (λ b. chosen b (nat_lt 0 b) (nat_lt b top))
  where
    chosen : (b : ℕ) (some low : Bool) →
        IsFinal (λ bytes. cond some (cond low (Ok (b, bytes)) (Err invalid_varint)) (Err invalid_varint)) 0
    chosen b true low = last_final b low
    chosen b false low = refusal_final invalid_varint
groups_final (suc k) top =
    final_within (omega arith)
    (byte_final (λ bytes. groups_at bytes (suc k) top) behind refl (λ b bytes. rw (eqb-suc-zero k, less) refl)
    (λ b. chosen b (nat_lt b 128) (groups_final k top)))
  where
    less : suc k - 1 ≡ k
    less = omega arith

    behind : ℕ → List ℕ → Reading ℕ
    behind b bytes =
        cond (nat_lt b 128) (cond (nat_lt 0 b) (Ok (b, bytes)) (Err invalid_varint)) (with_group b (groups_at bytes k top))

    chosen : (b : ℕ) (last : Bool) → IsFinal (λ bytes. groups_at bytes k top) (1 + k) →
        IsFinal (λ bytes. cond last (cond (nat_lt 0 b) (Ok (b, bytes)) (Err invalid_varint))
        (with_group b (groups_at bytes k top))) (1 + k)
    chosen b true final = final_within (omega arith) (last_final b (nat_lt 0 b))
    chosen b false final = group_final b final

number_final : (k top : ℕ) → IsFinal (number_at (suc k) top) (2 + k)
unfolding number_at
number_final k top =
    final_within (omega arith)
    (byte_final (number_at (suc k) top) behind refl (λ b bytes. rw less refl) (λ b. chosen b (nat_lt b 128)))
  where
    less : suc k - 1 ≡ k
    less = omega arith

    behind : ℕ → List ℕ → Reading ℕ
    behind b bytes = cond (nat_lt b 128) (Ok (b, bytes)) (with_group b (groups_at bytes k top))

    chosen : (b : ℕ) (last : Bool) →
        IsFinal (λ bytes. cond last (Ok (b, bytes)) (with_group b (groups_at bytes k top))) (1 + k)
    chosen b true = final_within (omega arith) (value_final b)
    chosen b false = group_final b (groups_final k top)

pub number_64_final : IsFinal number_64.reading 10
number_64_final = number_final 8 2

pub number_32_final : IsFinal number_32.reading 5
number_32_final = number_final 3 16
