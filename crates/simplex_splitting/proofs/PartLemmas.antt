-- Bytes that are appended to one part after the other.
use Rattle.std.proofs.Common.{◌≡◌, ◌≢◌, ◌<◌, ◌≤◌, ◌+◌, ℕ, zero, suc, inl, inr, List, [], ◌∷◌, ◌++◌, Option, Some, None, length, map, get_or, take, refl, sym, ap, subst, ◌∙◌, arith, append-nil}
use Rattle.std.specs.Prelude.{Vec}
use Rattle.std.specs.Global.{Global}
use Rattle.std.specs.Io.KnownBytes.{Appends, Keeps}
use Rattle.std.proofs.KnownBytes.{Appends-nil, Keeps-refl}
use Rattle.std.proofs.Math.Seq.{take-length}
use Rattle.std.proofs.lemmas.Bool.{cases_eq, cases_lt}
use Rattle.simplex_stream.specs.Text.{AppendsBeginning}
use Rattle.simplex_splitting.specs.Parts.{AppendEach, BeginEach, Contents}

-- bytes that were kept and then appended to
kept_then : (a b c : Option (List ℕ)) (bs : List ℕ) → Keeps a b → Appends b c bs → Appends a c bs
kept_then None b c bs p q = tt
kept_then (Some x) None c bs p q = absurd p
kept_then (Some x) (Some y) None bs p q = absurd q
kept_then (Some x) (Some y) (Some z) bs p q = q ∙ ap (λ (l : List ℕ). l ++ bs) p

-- bytes that were appended to and then kept
then_kept : (a b c : Option (List ℕ)) (bs : List ℕ) → Appends a b bs → Keeps b c → Appends a c bs
then_kept None b c bs p q = tt
then_kept (Some x) None c bs p q = absurd p
then_kept (Some x) (Some y) None bs p q = absurd q
then_kept (Some x) (Some y) (Some z) bs p q = q ∙ p

kept_twice : (a b c : Option (List ℕ)) → Keeps a b → Keeps b c → Keeps a c
kept_twice None b c p q = tt
kept_twice (Some x) None c p q = absurd p
kept_twice (Some x) (Some y) None p q = absurd q
kept_twice (Some x) (Some y) (Some z) p q = q ∙ p

-- nothing was appended to bytes that were kept
pub kept_nothing : (a b : Option (List ℕ)) → Keeps a b → Appends a b []
kept_nothing None b p = tt
kept_nothing (Some x) None p = absurd p
kept_nothing (Some x) (Some y) p = p ∙ sym (append-nil x)

-- all of some bytes is a prefix of them
pub whole_begins : (a b : Option (List ℕ)) (bs : List ℕ) → Appends a b bs → AppendsBeginning a b bs
whole_begins a b bs p = (length bs, subst (Appends a b) (sym (take-length bs)) p)

-- past the last place there are no bytes
pub none_past : (more : List (List ℕ)) (i : ℕ) → length more ≤ i → get_or more i [] ≡ []
none_past [] i past = refl
none_past (bytes ∷ more) zero past = absurd (omega (arith, past))
none_past (bytes ∷ more) (suc i) past = none_past more i (omega (arith, past))

-- the bytes of a vector at its place
pub bytes_there : (vs : List (Vec ℕ Global)) (i : ℕ) (v : Vec ℕ Global) → i < length vs → v ≡ get_or vs i v →
    get_or (map (λ part. part.items) vs) i [] ≡ v.items
bytes_there [] i v within is = absurd (omega (arith, within))
bytes_there (w ∷ vs) zero v within is = ap (λ (x : Vec ℕ Global). x.items) (sym is)
bytes_there (w ∷ vs) (suc i) v within is = bytes_there vs i v (omega (arith, within)) is

-- the parts before a place got their bytes, and the others are as they were
abbrev pub AreAppended : ℕ → Contents → Contents → List (List ℕ) → Type 0
AreAppended k old now more =
    (i : ℕ) → (i < k → Appends (old i) (now i) (get_or more i [])) × (k ≤ i → Keeps (old i) (now i))

module _ (old now : Contents) (more : List (List ℕ)) where
  -- no part got anything
  pub none_appended : (k : ℕ) → k ≡ 0 → AreAppended k old old more
  none_appended k none i = ((λ lt. absurd (omega (arith, none, lt))), (λ le. Keeps-refl (old i)))

  module _ (k : ℕ) (next : Contents) (appended : AreAppended k old now more)
      (others : (other : ℕ) → other ≢ k → Keeps (now other) (next other)) where
    -- one part more got its bytes
    pub one_appended : (bytes : List ℕ) → get_or more k [] ≡ bytes → Appends (now k) (next k) bytes →
        AreAppended (k + 1) old next more
    one_appended bytes is one i = (
      (λ lt. elim (cases_eq i k) [
        | inl same ↦
            subst (λ (j : ℕ). Appends (old j) (next j) (get_or more j [])) (sym same)
            (kept_then (old k) (now k) (next k) (get_or more k []) ((appended k).1 (omega arith))
            (subst (Appends (now k) (next k)) (sym is) one))
        | inr other ↦
            then_kept (old i) (now i) (next i) (get_or more i []) ((appended i).0 (omega (arith, lt, other))) (others i other)
      ]),
      (λ le. kept_twice (old i) (now i) (next i) ((appended i).1 (omega (arith, le)))
          (others i (λ same. omega (arith, le, same)))),
    )

    -- one part more got a prefix of its bytes
    pub begun : (bytes : List ℕ) → get_or more k [] ≡ bytes → AppendsBeginning (now k) (next k) bytes →
        BeginEach old next more
    begun bytes is (count, one) i = elim (cases_lt i k) [
      | inl lt ↦
          whole_begins (old i) (next i) (get_or more i []) (then_kept (old i) (now i) (next i) (get_or more i [])
          ((appended i).0 lt) (others i (λ same. omega (arith, lt, same))))
      | inr le ↦ elim (cases_eq i k) [
        | inl same ↦
            subst (λ (j : ℕ). AppendsBeginning (old j) (next j) (get_or more j [])) (sym same) (
              count,
              kept_then (old k) (now k) (next k) (take count (get_or more k [])) ((appended k).1 (omega arith))
                  (subst (λ (bs : List ℕ). Appends (now k) (next k) (take count bs)) (sym is) one),
            )
        | inr other ↦ (
          0,
          kept_nothing (old i) (next i) (kept_twice (old i) (now i) (next i) ((appended i).1 le) (others i other)),
        )
      ]
    ]

  -- a part that has nothing to get has it
  pub nothing_appended : (k : ℕ) → AreAppended k old now more → get_or more k [] ≡ [] → AreAppended (k + 1) old now more
  nothing_appended k appended none =
      one_appended k now appended (λ other apart. Keeps-refl (now other)) [] none (Appends-nil (now k))

  -- all parts got their bytes
  pub all_appended : (k : ℕ) → length more ≤ k → AreAppended k old now more → AppendEach old now more
  all_appended k all appended i = elim (cases_lt i k) [
    | inl lt ↦ (appended i).0 lt
    | inr le ↦
        subst (Appends (old i) (now i)) (sym (none_past more i (omega (arith, all, le))))
        (kept_nothing (old i) (now i) ((appended i).1 le))
  ]

-- what was appended whole was begun
pub each_begins : (old now : Contents) (more : List (List ℕ)) → AppendEach old now more → BeginEach old now more
each_begins old now more appended i = whole_begins (old i) (now i) (get_or more i []) (appended i)
