-- Reading a listed certificate gives the one whose encoding is a prefix of the input; and how long an encoding is.
-- They stand beside the definitions because ghost members of impls cite them, and those see no proofs.
use Rattle.std.proofs.Common.{◌≡◌, ◌==◌, ◌⊎◌, inl, inr, ℕ, zero, suc, ◌+◌, ◌*◌, ◌<◌, ◌≤◌, List, [], ◌∷◌, ◌++◌, length, Ok, Err, Bool, true, false, cond, nat_lt, nat_le, ◌||◌, refl, ap, sym, subst, ◌∙◌, append_assoc, arith, length-append}
use Rattle.std.specs.Prelude.{All, AllPairs, ◌≢◌}
use Rattle.std.specs.List.{flat_map}
use Rattle.std.proofs.lemmas.Bool.{ltb-false, leb-false, le-ltb, lt-leb, eqb-false}
use Rattle.std.proofs.lemmas.List.Elements.{All-cons, All-head, All-tail, All-nil}
use Rattle.std.proofs.lemmas.List.Kept.{AllPairs-cons}
use Rattle.std.proofs.Math.Dec.{eqb-suc-zero}
use Rattle.std.proofs.Math.Nat.{mul-le-mul_left, suc-mul}
use Rattle.simplex_base.specs.Finality.{IsFinal}
use Rattle.simplex_base.specs.FinalityLaws.{then_final, final_within, value_final, refusal_final, number_32_final}
use Rattle.simplex_base.specs.Format.{Format, IsLawful, Lawful, Encoded}
use Rattle.simplex_base.specs.FormatLaws.{bind_ok, IsBytes-after}
use Rattle.simplex_base.specs.Reading.{◌>>=◌, IsBytes}
use Rattle.simplex_base.specs.Varint.{number_32}
use Rattle.simplex_base.specs.VarintLaws.{number_32_lawful, groups_len_32}
use Rattle.simplex_scheme.specs.Attestation.{attestation_format}
use Rattle.simplex_scheme.specs.AttestationLaws.{attestation_lawful, attestation_final}
use Rattle.simplex_schemes.specs.Listed.{SignersAscend, ListedFits, listed_encoding, bad_count, bad_signer, attestation_at, attestations_at, listed_at}
use Rattle.simplex_scheme.specs.declared.scheme.Attestation.{Attestation}

-- which way a test went
chosen : {A : Type 0} (b : Bool) (x y z : A) → cond b x y ≡ z → ((b ≡ true) × (x ≡ z)) ⊎ ((b ≡ false) × (y ≡ z))
chosen true x y z e = inl (refl, e)
chosen false x y z e = inr (refl, e)

-- both tests failed
neither : (a b : Bool) → (a || b) ≡ false → (a ≡ false) × (b ≡ false)
neither true b e = absurd cc
neither false b e = (refl, e)

-- one part after the other
joined : (bytes front mid back rest : List ℕ) → bytes ≡ front ++ mid → mid ≡ back ++ rest → bytes ≡ (front ++ back) ++ rest
joined bytes front mid back rest first second =
    first ∙ (ap (λ (t : List ℕ). front ++ t) second ∙ sym (append_assoc front back rest))

-- an attestation that was read, its signer from least on and below the bound
pub record Taken {S P G : Type 0} (signature : Format G) (bound least : ℕ) (bytes : List ℕ) (a : Attestation S P G)
    (rest : List ℕ) : Type 0 where
  pub low : least ≤ a.signer
  pub high : a.signer < bound
  pub encoded : Encoded (attestation_format signature).is_value (attestation_format signature).encoding bytes a rest

pub attestation_takes : {S P G : Type 0} (signature : Format G) → IsLawful signature →
    (bound least : ℕ) (bytes : List ℕ) (a : Attestation S P G) (rest : List ℕ) → IsBytes bytes →
    attestation_at signature bound least bytes ≡ Ok (a, rest) → Taken signature bound least bytes a rest
attestation_takes {S} {P} {G} signature law bound least bytes a rest fit e =
    let p = bind_ok ((attestation_format {S = S} {P = P} signature).reading bytes)
    (λ read. cond (nat_lt read.0.signer least || nat_le bound read.0.signer) (Err bad_signer) (Ok read)) (a, rest) e in
    elim (chosen (nat_lt p.0.0.signer least || nat_le bound p.0.0.signer) (Err bad_signer) (Ok p.0) (Ok (a, rest)) p.2) [
      | inl q ↦ absurd (let h = q.1 in cc)
      | inr q ↦
          let t = neither (nat_lt p.0.0.signer least) (nat_le bound p.0.0.signer) q.0 in
          let low = ltb-false p.0.0.signer least t.0 in
          let high = leb-false bound p.0.0.signer t.1 in
          let s = (attestation_lawful signature law).takes bytes p.0.0 p.0.1 fit p.1 in
          let same : p.0 ≡ (a, rest) = let h = q.1 in cc in
          subst (λ (r : Attestation S P G × List ℕ). Taken signature bound least bytes r.0 r.1) same
          (record { low = low; high = high; encoded = s })
    ]

-- attestations that were read, their signers from least on and below the bound
pub record AllTaken {S P G : Type 0} (signature : Format G) (bound least count : ℕ) (bytes : List ℕ)
    (xs : List (Attestation S P G))
    (rest : List ℕ) : Type 0 where
  pub len : length xs ≡ count
  pub low : All (λ a. least ≤ a.signer) xs
  pub below : All (λ a. a.signer < bound) xs
  pub ascending : SignersAscend xs
  pub each : All (attestation_format signature).is_value xs
  pub parts : bytes ≡ flat_map (attestation_format signature).encoding xs ++ rest

pub attestations_take : {S P G : Type 0} (signature : Format G) → IsLawful signature →
    (bound least count : ℕ) (bytes : List ℕ) (xs : List (Attestation S P G)) (rest : List ℕ) → IsBytes bytes →
    attestations_at signature bound least count bytes ≡ Ok (xs, rest) → AllTaken signature bound least count bytes xs rest
unfolding attestations_at
attestations_take {S} {P} {G} signature law bound least zero bytes xs rest fit e =
    let same : ◌≡◌ {A = List (Attestation S P G) × List ℕ} ([], bytes) (xs, rest) = cc in
    subst (λ (r : List (Attestation S P G) × List ℕ). AllTaken signature bound least 0 bytes r.0 r.1) same
    (record {
      len = refl;
      low = All-nil _;
      below = All-nil _;
      ascending = λ i j d lt within. absurd (omega arith);
      each = All-nil _;
      parts = refl;
    })
attestations_take {S} {P} {G} signature law bound least (suc count) bytes xs rest fit e =
    let form = attestation_format {S = S} {P = P} signature in
    let p = bind_ok (attestation_at {S = S} {P = P} signature bound least bytes)
    (λ first.
    attestations_at signature bound (first.0.signer + 1) count first.1 >>= λ others. Ok (first.0 ∷ others.0, others.1))
    (xs, rest) e in
    let a = p.0.0 in
    let first = attestation_takes signature law bound least bytes a p.0.1 fit p.1 in
    let r = bind_ok (attestations_at signature bound (a.signer + 1) count p.0.1) (λ others. Ok (a ∷ others.0, others.1))
    (xs, rest) p.2 in
    let fit' = IsBytes-after (form.encoding a) p.0.1 (subst IsBytes first.encoded.parts fit) in
    let others = attestations_take signature law bound (a.signer + 1) count p.0.1 r.0.0 r.0.1 fit' r.1 in
    let low = first.low in
    let same : ◌≡◌ {A = List (Attestation S P G) × List ℕ} (a ∷ r.0.0, r.0.1) (xs, rest) = let h = r.2 in cc in
    subst (λ (y : List (Attestation S P G) × List ℕ). AllTaken signature bound least (suc count) bytes y.0 y.1)
    {x = (a ∷ r.0.0, r.0.1)} same
    (record {
      len = ap suc others.len;
      low = All-cons (λ b. least ≤ b.signer) a r.0.0 first.low (λ k d lt. let h = others.low k d lt in omega arith);
      below = All-cons (λ b. b.signer < bound) a r.0.0 first.high others.below;
      ascending = AllPairs-cons (λ b c. b.signer < c.signer) a r.0.0 (λ k d lt. let h = others.low k d lt in omega arith)
          others.ascending;
      each = All-cons form.is_value a r.0.0 first.encoded.value others.each;
      parts = joined bytes (form.encoding a) p.0.1 (flat_map form.encoding r.0.0) r.0.1 first.encoded.parts others.parts;
    })

pub attestations_again : {S P G : Type 0} (signature : Format G) → IsLawful signature →
    (bound least : ℕ) (xs : List (Attestation S P G)) (rest : List ℕ) → All (λ a. least ≤ a.signer) xs →
    All (λ a. a.signer < bound) xs →
    SignersAscend xs → All (attestation_format signature).is_value xs →
    attestations_at signature bound least (length xs) (flat_map (attestation_format signature).encoding xs ++ rest)
    ≡ Ok (xs, rest)
unfolding attestations_at
attestations_again signature law bound least [] rest low below ascending each = refl
attestations_again {S} {P} {G} signature law bound least (a ∷ xs) rest low below ascending each =
    let form = attestation_format {S = S} {P = P} signature in
    let first = le-ltb a.signer least (All-head (λ b. least ≤ b.signer) a xs low) in
    let under = All-head (λ b. b.signer < bound) a xs below in
    let last = lt-leb bound a.signer under in
    let above : All (λ b. a.signer + 1 ≤ b.signer) xs = λ k d lt.
    let h = ascending 0 (suc k) d (omega arith) (omega arith) in omega arith in
    let after : SignersAscend xs = λ i j d lt within. ascending (suc i) (suc j) d (omega arith) (omega arith) in
    rw (
      append_assoc (form.encoding a) (flat_map form.encoding xs) rest,
      (attestation_lawful signature law).again a
          (flat_map form.encoding xs ++ rest) (All-head form.is_value a xs each),
      first,
      last,
      attestations_again signature law bound
          (a.signer + 1) xs rest above (All-tail (λ b. b.signer < bound) a xs below) after (All-tail form.is_value a xs each),
    ) refl

listed_take : {S P G : Type 0} (signature : Format G) (bound : ℕ) → IsLawful signature →
    (bytes : List ℕ) (xs : List (Attestation S P G)) (rest : List ℕ) → IsBytes bytes →
    listed_at signature bound bytes ≡ Ok (xs, rest) →
    Encoded (ListedFits signature bound) (listed_encoding signature) bytes xs rest
listed_take {S} {P} {G} signature bound law bytes xs rest fit e =
    let form = attestation_format {S = S} {P = P} signature in
    let p = bind_ok (number_32.reading bytes) (λ count. cond (count.0 == 0 || nat_lt bound count.0) (Err bad_count)
    (attestations_at signature bound 0 count.0 count.1)) (xs, rest) e in
    let count = p.0 in
    elim (chosen (count.0 == 0 || nat_lt bound count.0) (Err bad_count) (attestations_at signature bound 0 count.0 count.1)
    (Ok (xs, rest)) p.2) [
      | inl q ↦ absurd (let h = q.1 in cc)
      | inr q ↦
          let t = neither (count.0 == 0) (nat_lt bound count.0) q.0 in
          let some = eqb-false count.0 0 t.0 in
          let within = ltb-false bound count.0 t.1 in
          let n = number_32_lawful.takes bytes count.0 count.1 fit p.1 in
          let value = n.value in
          let fit' = IsBytes-after (number_32.encoding count.0) count.1 (subst IsBytes n.parts fit) in
          let l = attestations_take signature law bound 0 count.0 count.1 xs rest fit' q.1 in
          let len = l.len in
          record {
            value = record {
              listed =
                  record { some = omega (arith, some); few = omega arith; ascending = l.ascending };
              count =
                  omega arith;
              below = l.below;
              each = l.each;
            };
            parts = rw len (joined bytes (number_32.encoding count.0) count.1 (flat_map form.encoding xs) rest n.parts l.parts);
          }
    ]

positive_not_zero : (n : ℕ) → 0 < n → (n == 0) ≡ false
positive_not_zero zero h = absurd (omega arith)
positive_not_zero (suc n) h = eqb-suc-zero n

listed_again : {S P G : Type 0} (signature : Format G) (bound : ℕ) → IsLawful signature →
    (xs : List (Attestation S P G)) (rest : List ℕ) →
    ListedFits signature bound xs → listed_at signature bound (listed_encoding signature xs ++ rest) ≡ Ok (xs, rest)
listed_again {S} {P} {G} signature bound law xs rest v =
    let form = attestation_format {S = S} {P = P} signature in
    let within = le-ltb bound (length xs) v.count in
    rw (
      append_assoc (number_32.encoding (length xs)) (flat_map form.encoding xs) rest,
      number_32_lawful.again (length xs)
          (flat_map form.encoding xs ++ rest) v.listed.few,
      positive_not_zero (length xs) v.listed.some,
      within,
    )
    (attestations_again signature law bound 0 xs rest (λ k d lt. omega arith) v.below v.listed.ascending v.each)

pub listed_lawful : {S P G : Type 0} (signature : Format G) (bound : ℕ) → IsLawful signature →
    Lawful (ListedFits {S = S} {P = P} signature bound) (listed_encoding signature) (listed_at signature bound)
listed_lawful signature bound law = record { takes = listed_take signature bound law; again = listed_again signature bound law }

-- no two have the same signer
pub ascending_distinct : {S P G : Type 0} (xs : List (Attestation S P G)) → SignersAscend xs →
    AllPairs (λ a b. a.signer ≢ b.signer) xs
ascending_distinct xs ascending i j d lt within e = let less = ascending i j d lt within in omega arith

-- ---- how long an encoding is

attestations_within : {S P G : Type 0} (signature : Format G) (size : ℕ) →
    ((g : G) → signature.is_value g → length (signature.encoding g) ≤ size) → (xs : List (Attestation S P G)) →
    All (attestation_format signature).is_value xs →
    length (flat_map (attestation_format signature).encoding xs) ≤ length xs * (5 + size)
attestations_within signature size small [] each = omega arith
attestations_within {S} {P} {G} signature size small (a ∷ xs) each =
    let form = attestation_format {S = S} {P = P} signature in
    let first = (All-head form.is_value a xs each).1 in
    let more = attestations_within signature size small xs (All-tail form.is_value a xs each) in
    omega (
      arith,
      length-append (form.encoding a) (flat_map form.encoding xs),
      length-append (number_32.encoding a.signer)
          (signature.encoding a.signature),
      groups_len_32 a.signer,
      small a.signature first,
      more,
    )

-- what fits a bound is no longer than that many attestations of the greatest size
pub listed_within : {S P G : Type 0} (signature : Format G) (size bound : ℕ) →
    ((g : G) → signature.is_value g → length (signature.encoding g) ≤ size) → (xs : List (Attestation S P G)) →
    ListedFits signature bound xs → length (listed_encoding signature xs) ≤ 5 + bound * (5 + size)
listed_within {S} {P} {G} signature size bound small xs v =
    let form = attestation_format {S = S} {P = P} signature in
    omega (
      arith,
      length-append (number_32.encoding (length xs)) (flat_map form.encoding xs),
      groups_len_32 (length xs),
      attestations_within
          signature size small xs v.each,
      mul-le-mul_left (5 + size) v.count,
    )

-- ---- which refusals are final, with a signature of at most `size` bytes

attestation_at_final : {S P G : Type 0} (signature : Format G) (bound least : ℕ) {size : ℕ} → IsFinal signature.reading size →
    IsFinal (attestation_at {S = S} {P = P} signature bound least) (5 + size)
attestation_at_final {S} {P} {G} signature bound least final =
    final_within (omega arith)
    (then_final (attestation_format {S = S} {P = P} signature).reading
    (λ a rest. cond (nat_lt a.signer least || nat_le bound a.signer) (Err bad_signer) (Ok (a, rest)))
    (attestation_final signature final) (λ a. tested (nat_lt a.signer least || nat_le bound a.signer) a))
  where
    tested : (b : Bool) (a : Attestation S P G) → IsFinal (λ rest. cond b (Err bad_signer) (Ok (a, rest))) 0
    tested true a = refusal_final bad_signer
    tested false a = value_final a

attestations_final : {S P G : Type 0} (signature : Format G) (bound least count : ℕ) {size : ℕ} →
    IsFinal signature.reading size →
    IsFinal (attestations_at {S = S} {P = P} signature bound least count) (count * (5 + size))
unfolding attestations_at
attestations_final signature bound least zero final = final_within (omega arith) (value_final [])
attestations_final {S} {P} {G} signature bound least (suc count) {size} final =
    final_within (omega (arith, suc-mul count (5 + size)))
    (then_final (attestation_at {S = S} {P = P} signature bound least)
    (λ a rest. attestations_at signature bound (a.signer + 1) count rest >>= λ others. Ok (a ∷ others.0, others.1))
    {n = count * (5 + size)} (attestation_at_final signature bound least final)
    (λ a. final_within (omega arith) (then_final (attestations_at signature bound (a.signer + 1) count)
    (λ others rest. Ok (a ∷ others, rest)) (attestations_final signature bound (a.signer + 1) count final)
    (λ others. value_final (a ∷ others)))))

pub listed_final : {S P G : Type 0} (signature : Format G) (bound : ℕ) {size : ℕ} → IsFinal signature.reading size →
    IsFinal (listed_at {S = S} {P = P} signature bound) (5 + bound * (5 + size))
listed_final {S} {P} {G} signature bound {size} final =
    then_final number_32.reading
    (λ count rest. cond (count == 0 || nat_lt bound count) (Err bad_count) (attestations_at signature bound 0 count rest))
    number_32_final (λ count. counted count (count == 0 || nat_lt bound count) refl)
  where
    counted : (count : ℕ) (b : Bool) → (count == 0 || nat_lt bound count) ≡ b →
        IsFinal (λ rest. cond b (Err bad_count) (attestations_at {S = S} {P = P} signature bound 0 count rest))
        (bound * (5 + size))
    counted count true h = final_within (omega arith) (refusal_final bad_count)
    counted count false h =
        let within : count ≤ bound = ltb-false bound count (neither (count == 0) (nat_lt bound count) h).1 in
        let shorter : count * (5 + size) ≤ bound * (5 + size) = omega (arith, mul-le-mul_left (5 + size) within) in
        final_within shorter (attestations_final signature bound 0 count final)
