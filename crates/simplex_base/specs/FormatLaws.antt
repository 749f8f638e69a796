-- Formats put together are lawful where their parts are, and what follows from being lawful.
-- They stand beside the definitions because ghost members of impls cite them, and those see no proofs.
use Rattle.std.specs.Prelude.{IfOk, IsTrue, ⊤}
use Rattle.std.proofs.Common.{append-nil, ◌≡◌, ◌==◌, if◌then◌else◌, length, ℕ, suc, List, [], ◌∷◌, ◌++◌, Result, Ok, Err, refl, Bool, true, false, cond, nat_lt, take, drop, inl, inr, ◌≤◌, sym, ◌∙◌, ap, subst, append_assoc, arith}
use Rattle.std.proofs.lemmas.Bool.{eqb-true, cases_lt, le-ltb, ltb-false}
use Rattle.std.proofs.lemmas.List.{take_at, drop_at, take-append-drop, length-append, length-take, get_or-take, get_or_past}
use Rattle.simplex_base.specs.declared.codec.error.Error.{Error}
use Rattle.simplex_base.specs.Reading.{Reading, Refusal, end_of_buffer, invalid_bool, extra_data, ◌>>=◌, IsBytes, Gives, GivesAll, all_of}
use Rattle.simplex_base.specs.Format.{Encoded, Lawful, IsLawful, BothAre, both_encoded, both_at, made_at, IsFixed, fixed_at, tested_at, truth, truth_encoding, truth_at}

-- the value of a step that did not fail
pub bind_ok : {A B : Type 0} (r : Result A Refusal) (f : A → Result B Refusal) (y : B) → (r >>= f) ≡ Ok y →
    (x : A) × (r ≡ Ok x) × (f x ≡ Ok y)
bind_ok (Ok x) f y e = (x, refl, e)
bind_ok (Err d) f y e = absurd cc

pub IsBytes-after : (front rest : List ℕ) → IsBytes (front ++ rest) → IsBytes rest
IsBytes-after [] rest h = h
IsBytes-after (b ∷ front) rest h = IsBytes-after front rest (λ i. h (suc i))

pub both_lawful : {A B : Type 0} {is_a : A → Type 0} {is_b : B → Type 0} {s : A → List ℕ} {t : B → List ℕ} {read_a : List ℕ →
    Reading A} {read_b : List ℕ → Reading B} → Lawful is_a s read_a → Lawful is_b t read_b →
    Lawful (BothAre is_a is_b) (both_encoded s t) (both_at read_a read_b)
both_lawful {A} {B} {is_a} {is_b} {s} {t} {read_a} {read_b} la lb = record {
  takes = λ bytes x rest fit e.
      let p = bind_ok (read_a bytes) (λ a. read_b a.1 >>= λ b. Ok ((a.0, b.0), b.1)) (x, rest) e in
      let q = bind_ok (read_b p.0.1) (λ b. Ok ((p.0.0, b.0), b.1)) (x, rest) p.2 in
      let first = la.takes bytes p.0.0 p.0.1 fit p.1 in
      let fit' = IsBytes-after (s p.0.0) p.0.1 (subst IsBytes first.parts fit) in
      let second = lb.takes p.0.1 q.0.0 q.0.1 fit' q.1 in
      let same : ((p.0.0, q.0.0), q.0.1) ≡ (x, rest) = cc in
      subst (λ (r : (A × B) × List ℕ). Encoded (BothAre is_a is_b) (both_encoded s t) bytes r.0 r.1) same
      (record {
        value = (first.value, second.value);
        parts = first.parts ∙ (ap (λ (r : List ℕ). s p.0.0 ++ r) second.parts ∙ sym (append_assoc (s p.0.0) (t q.0.0) q.0.1));
      });
  again = λ x rest v.
      rw (append_assoc (s x.0) (t x.1) rest, la.again x.0 (t x.1 ++ rest) v.0, lb.again x.1 rest v.1) refl;
}

pub made_lawful : {A B : Type 0} {is_a : A → Type 0} {s : A → List ℕ} {read_a : List ℕ → Reading A} (make : A → B)
    (parts : B → A) →
    ((b : B) → make (parts b) ≡ b) → ((a : A) → parts (make a) ≡ a) → Lawful is_a s read_a →
    Lawful (λ b. is_a (parts b)) (λ b. s (parts b)) (made_at make read_a)
made_lawful {A} {B} {is_a} {s} {read_a} make parts mp pm la = record {
  takes = λ bytes x rest fit e.
      let p = bind_ok (read_a bytes) (λ a. Ok (make a.0, a.1)) (x, rest) e in
      let first = la.takes bytes p.0.0 p.0.1 fit p.1 in
      let same : (make p.0.0, p.0.1) ≡ (x, rest) = cc in
      subst (λ (r : B × List ℕ). Encoded (λ b. is_a (parts b)) (λ b. s (parts b)) bytes r.0 r.1) same
      (record { value = rw (pm p.0.0) first.value; parts = rw (pm p.0.0) first.parts });
  again = λ x rest v. rw (la.again (parts x) rest v, mp x) refl;
}

-- which way a test went
passed_test : {A : Type 0} (b : Bool) (y z : A) (refusal : Refusal) →
    ◌≡◌ {A = Result A Refusal} (cond b (Ok y) (Err refusal)) (Ok z) → (b ≡ true) × (y ≡ z)
passed_test true y z refusal e = (refl, cc)
passed_test false y z refusal e = absurd cc

pub tested_lawful : {T : Type 0} {is_value : T → Type 0} {encoding : T → List ℕ} {read : List ℕ → Reading T} (test : T →
    Bool) (refusal : Refusal) → Lawful is_value encoding read →
    Lawful (λ x. is_value x × IsTrue (test x)) encoding (tested_at test refusal read)
tested_lawful {T} {is_value} {encoding} {read} test refusal law = record {
  takes = λ bytes x rest fit e.
      let p = bind_ok (read bytes) (λ x. if test x.0 then Ok x else Err refusal) (x, rest) e in
      let q = passed_test (test p.0.0) p.0 (x, rest) refusal p.2 in
      let first = law.takes bytes p.0.0 p.0.1 fit p.1 in
      subst (λ (r : T × List ℕ). Encoded (λ x. is_value x × IsTrue (test x)) encoding bytes r.0 r.1) q.1
      (record { value = (first.value, q.0); parts = first.parts });
  again = λ x rest v. rw (law.again x rest v.0, v.1) refl;
}

pub truth_lawful : IsLawful truth
truth_lawful = record { takes = taken; again = again }
  where
    go : (b : ℕ) (bytes : List ℕ) (s t : Bool) (x : Bool) (rest : List ℕ) → (b == 0) ≡ s → (b == 1) ≡ t →
        cond {A = Reading Bool} s (Ok (false, bytes)) (cond {A = Reading Bool} t (Ok (true, bytes)) (Err invalid_bool))
        ≡ Ok (x, rest) →
        Encoded (λ b. ⊤) truth_encoding (b ∷ bytes) x rest
    go b bytes true t x rest h k e =
        let same : ◌≡◌ {A = Bool × List ℕ} (false, bytes) (x, rest) = cc in
        subst (λ (r : Bool × List ℕ). Encoded (λ b. ⊤) truth_encoding (b ∷ bytes) r.0 r.1) same
        (record { value = tt; parts = rw (eqb-true b 0 h) refl })
    go b bytes false true x rest h k e =
        let same : ◌≡◌ {A = Bool × List ℕ} (true, bytes) (x, rest) = cc in
        subst (λ (r : Bool × List ℕ). Encoded (λ b. ⊤) truth_encoding (b ∷ bytes) r.0 r.1) same
        (record { value = tt; parts = rw (eqb-true b 1 k) refl })
    go b bytes false false x rest h k e = absurd cc

    taken : (bytes : List ℕ) (x : Bool) (rest : List ℕ) → IsBytes bytes → truth_at bytes ≡ Ok (x, rest) →
        Encoded (λ b. ⊤) truth_encoding bytes x rest
    taken [] x rest fit e = absurd cc
    taken (b ∷ bytes) x rest fit e = go b bytes (b == 0) (b == 1) x rest refl refl e

    again : (x : Bool) (rest : List ℕ) → ⊤ → truth_at (truth_encoding x ++ rest) ≡ Ok (x, rest)
    again true rest v = refl
    again false rest v = refl

rest_none : {A : Type 0} (xs : List A) → (length xs == 0) ≡ true → xs ≡ []
rest_none [] e = refl
rest_none (x ∷ xs) e = absurd (omega (arith, eqb-true (length (x ∷ xs)) 0 e))

-- all of the bytes were read, where reading is lawful
pub all_of_takes : {T : Type 0} {fits : T → Type 0} {encoding : T → List ℕ} {read : List ℕ → Reading T} →
    Lawful fits encoding read →
    (bytes : List ℕ) (x : T) → IsBytes bytes → all_of read bytes ≡ Ok x → fits x × (bytes ≡ encoding x)
all_of_takes {T} {fits} {encoding} {read} law bytes x fit e =
    let p = bind_ok (read bytes) (λ x. if length x.1 == 0 then Ok x.0 else Err extra_data) x e in
    let q = passed (length p.0.1 == 0) p.0.0 x p.2 in
    let t = law.takes bytes p.0.0 p.0.1 fit p.1 in
    let none = rest_none p.0.1 q.0 in
    subst (λ (y : T). fits y × (bytes ≡ encoding y)) q.1 (t.value, t.parts ∙ rw none (append-nil _))
  where
    passed : (b : Bool) (v w : T) → cond b (Ok v) (Err extra_data) ≡ Ok w → (b ≡ true) × (v ≡ w)
    passed true v w e = (refl, cc)
    passed false v w e = absurd cc

pub all_of_again : {T : Type 0} {fits : T → Type 0} {encoding : T → List ℕ} {read : List ℕ → Reading T} →
    Lawful fits encoding read →
    (bytes : List ℕ) (x : T) → fits x → bytes ≡ encoding x → all_of read bytes ≡ Ok x
all_of_again {T} {fits} {encoding} {read} law bytes x v e =
    let h = rw (append-nil (encoding x)) at (law.again x [] v) in rw (e, h) refl

-- what a call that read all of the bytes returned
-- the encoding of what a call returned is a prefix of the input, and the rest of the input follows it
pub gave : {T : Type 0} {fits : T → Type 0} {encoding : T → List ℕ} {read : List ℕ → Reading T} (memory : Bool) →
    Lawful fits encoding read → (bytes rest : List ℕ) → IsBytes bytes → (r : Result T Error) →
    Gives memory r bytes rest (read bytes) →
    IfOk r (λ x. fits x × (bytes ≡ encoding x ++ rest))
gave memory law bytes rest fit (Ok x) h = let found = law.takes bytes x rest fit h in (found.value, found.parts)
gave memory law bytes rest fit (Err e) h = tt

pub gave_all : {T : Type 0} {fits : T → Type 0} {encoding : T → List ℕ} {read : List ℕ → Reading T} (memory : Bool) →
    Lawful fits encoding read → (bytes : List ℕ) → IsBytes bytes → (r : Result T Error) →
    GivesAll memory r (all_of read bytes) →
    IfOk r (λ x. fits x × (bytes ≡ encoding x))
gave_all memory law bytes fit (Ok x) h = all_of_takes law bytes x fit h
gave_all memory law bytes fit (Err e) h = tt

IsBytes-take : (n : ℕ) (bytes : List ℕ) → IsBytes bytes → IsBytes (take n bytes)
IsBytes-take n bytes h i =
    elim (cases_lt i n) [
      | inl lt ↦ rw (get_or-take n bytes i 0 lt) (h i)
      | inr le ↦ rw (get_or_past (take n bytes) i 0 (omega (arith, length-take n bytes))) (omega arith)
    ]

pub fixed_lawful : {T : Type 0} (size : ℕ) (bytes_of : T → List ℕ) (of_bytes : List ℕ → T) →
    ((bs : List ℕ) → IsFixed size bs → bytes_of (of_bytes bs) ≡ bs) →
    ((x : T) → IsFixed size (bytes_of x) → of_bytes (bytes_of x) ≡ x) →
    Lawful (λ x. IsFixed size (bytes_of x)) bytes_of (fixed_at size of_bytes)
fixed_lawful {T} size bytes_of of_bytes back forth = record {
  takes = λ bytes x rest fit e.
      let g = guarded (nat_lt (length bytes) size) (of_bytes (take size bytes)) (drop size bytes) x rest e in
      let long : size ≤ length bytes = ltb-false (length bytes) size g.0 in
      let fixed : IsFixed size (take size bytes) =
      record { len = omega (arith, length-take size bytes); fit = IsBytes-take size bytes fit } in
      let b = back (take size bytes) fixed in
      subst (λ (y : T × List ℕ). Encoded (λ x. IsFixed size (bytes_of x)) bytes_of bytes y.0 y.1) g.1
      (record { value = rw b fixed; parts = rw b (sym (take-append-drop size bytes)) });
  again = λ x rest v.
      let long : nat_lt (length (bytes_of x ++ rest)) size ≡ false =
      le-ltb _ _ (let l = v.len in omega (arith, length-append (bytes_of x) rest)) in
      rw (long, take_at (bytes_of x) rest size v.len, drop_at (bytes_of x) rest size v.len, forth x v) refl;
}
  where
    guarded : {T : Type 0} (b : Bool) (v : T) (r : List ℕ) (w : T) (s : List ℕ) →
        ◌≡◌ {A = Reading T} (cond b (Err end_of_buffer) (Ok (v, r))) (Ok (w, s)) →
        (b ≡ false) × (◌≡◌ {A = T × List ℕ} (v, r) (w, s))
    guarded true v r w s e = absurd cc
    guarded false v r w s e = (refl, cc)

-- no encoding is a prefix of another
pub one_encoding : {T : Type 0} {fits : T → Type 0} {encoding : T → List ℕ} {read : List ℕ → Reading T} →
    Lawful fits encoding read →
    (x y : T) (rest more : List ℕ) → fits x → fits y → encoding x ++ rest ≡ encoding y ++ more → (x ≡ y) × (rest ≡ more)
one_encoding {T} {fits} {encoding} {read} law x y rest more fx fy e =
    let p : ◌≡◌ {A = Reading T} (Ok (x, rest)) (Ok (y, more)) = sym (law.again x rest fx) ∙ (ap read e ∙ law.again y more fy) in
    let q : ◌≡◌ {A = T × List ℕ} (x, rest) (y, more) = cc in
    (ap (λ (r : T × List ℕ). r.0) q, ap (λ (r : T × List ℕ). r.1) q)
