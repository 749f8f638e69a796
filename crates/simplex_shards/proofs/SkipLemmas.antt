-- What is skipped would be read.
use Rattle.std.proofs.Common.{◌≡◌, ℕ, zero, suc, ◌+◌, ◌<◌, ◌≤◌, List, [], ◌∷◌, nat_lt, nat_le, ◌||◌, false, true, Ok, Err, Result, IfOk, refl, sym, subst, arith}
use Rattle.std.proofs.lemmas.Bool.{le-ltb, lt-leb, ne_eqb}
use Rattle.simplex_base.specs.Reading.{Reading, Refusal, ◌>>=◌}
use Rattle.simplex_base.specs.Format.{Format, both_at, made_at}
use Rattle.simplex_base.specs.Varint.{number_32}
use Rattle.simplex_scheme.specs.Attestation.{attestation_format}
use Rattle.simplex_scheme.specs.declared.scheme.Attestation.{Attestation}
use Rattle.simplex_schemes.specs.Listed.{attestations_at, listed_at}
use Rattle.simplex_shards.specs.Skips.{IsRefused, Skips, SkipsBy}

-- what is refused is refused whatever would follow
refused_then : {A B : Type 0} (read : Result A Refusal) (then : A → Result B Refusal) → IfOk read (λ _. ⊥) →
    IfOk (read >>= then) (λ _. ⊥)
refused_then (Ok x) then fails = absurd fails
refused_then (Err e) then fails = tt

-- a part that was read, and one that was skipped behind it
pub both_ok : {A B : Type 0} (first : List ℕ → Reading A) (second : List ℕ → Reading B) (bytes middle rest : List ℕ)
    (a : A) (b : B) → first bytes ≡ Ok (a, middle) → second middle ≡ Ok (b, rest) →
    both_at first second bytes ≡ Ok ((a, b), rest)
both_ok first second bytes middle rest a b read skipped = rw (read, skipped) refl

-- a value that is made of what was read
pub made_ok : {A B : Type 0} (make : A → B) (read : List ℕ → Reading A) (bytes rest : List ℕ) (a : A) →
    read bytes ≡ Ok (a, rest) → made_at make read bytes ≡ Ok (make a, rest)
made_ok make read bytes rest a e = rw e refl

pub skipped_both : {A B : Type 0} (first : List ℕ → Reading A) (second : List ℕ → Reading B) (bytes middle rest : List ℕ)
    (a : A) → first bytes ≡ Ok (a, middle) → Skips second middle rest → Skips (both_at first second) bytes rest
skipped_both first second bytes middle rest a read skipped =
    ((a, skipped.0), both_ok first second bytes middle rest a skipped.0 read skipped.1)

-- an attestation of this signer
pub skipped_attestation : {S P G : Type 0} (signature : Format G) (bytes middle rest : List ℕ) (signer : ℕ) →
    number_32.reading bytes ≡ Ok (signer, middle) → Skips signature.reading middle rest →
    SkipsBy {T = Attestation S P G} (λ a. a.signer ≡ signer) (attestation_format signature).reading bytes rest
skipped_attestation signature bytes middle rest signer read skipped =
    (record { signer = signer; signature = skipped.0 }, refl, rw (read, skipped.1) refl)

module _ (S P : Type 0) {G : Type 0} (signature : Format G) (bound count : ℕ) (bytes : List ℕ) where
  -- if so many further attestations can be read of the rest, all can be read of the bytes
  pub record Skipping (least left : ℕ) (rest : List ℕ) : Type 0 where
    pub finished : (xs : List (Attestation S P G)) (after : List ℕ) →
        attestations_at {S = S} {P = P} signature bound least left rest ≡ Ok (xs, after) →
        Skips (attestations_at {S = S} {P = P} signature bound 0 count) bytes after
    pub refused : IsRefused (attestations_at {S = S} {P = P} signature bound least left) rest →
        IsRefused (attestations_at {S = S} {P = P} signature bound 0 count) bytes

  pub skipping_start : Skipping 0 count bytes
  skipping_start = record { finished = λ xs after e. (xs, e); refused = λ fails. fails }

  -- one attestation more was skipped
  skipping_more : (least left : ℕ) (rest behind : List ℕ) (signer : ℕ) → Skipping least (suc left) rest →
      SkipsBy {T = Attestation S P G} (λ a. a.signer ≡ signer) (attestation_format signature).reading rest behind →
      least ≤ signer → signer < bound → Skipping (signer + 1) left behind
  unfolding attestations_at
  skipping_more least left rest behind signer so one low high = record {
    finished = λ xs after e.
        let a = one.0 in
        let same = one.1 in
        let first : nat_lt a.signer least ≡ false = le-ltb a.signer least (omega (arith, same, low)) in
        let last : nat_le bound a.signer ≡ false = lt-leb bound a.signer (omega (arith, same, high)) in
        let others = subst (λ (n : ℕ). attestations_at {S = S} {P = P} signature bound (n + 1) left behind ≡ Ok (xs, after))
        (sym same) e in
        so.finished (a ∷ xs) after (rw (one.2, first, last, others) refl);
    refused = λ fails.
        let a = one.0 in
        let same = one.1 in
        let first : nat_lt a.signer least ≡ false = le-ltb a.signer least (omega (arith, same, low)) in
        let last : nat_le bound a.signer ≡ false = lt-leb bound a.signer (omega (arith, same, high)) in
        let others = subst (λ (n : ℕ). IsRefused (attestations_at {S = S} {P = P} signature bound (n + 1) left) behind)
        (sym same) fails in
        so.refused (rw (one.2, first, last) (refused_then _ _ others));
  }

  pub skipping_next : (counter least left : ℕ) (rest behind : List ℕ) (signer : ℕ) → counter + left ≡ count →
      counter < count → Skipping least left rest →
      SkipsBy {T = Attestation S P G} (λ a. a.signer ≡ signer) (attestation_format signature).reading rest behind →
      least ≤ signer → signer < bound →
      (next : ℕ) × (counter + 1 + next ≡ count) × Skipping (signer + 1) next behind
  skipping_next counter least zero rest behind signer sum some so one low high = absurd (omega (arith, sum, some))
  skipping_next counter least (suc left) rest behind signer sum some so one low high =
      (left, omega (arith, sum), skipping_more least left rest behind signer so one low high)

  -- an attestation that is refused, or has a signer out of order or range
  pub no_attestation : (least left : ℕ) (rest : List ℕ) →
      IsRefused {T = Attestation S P G} (attestation_format signature).reading rest →
      IsRefused (attestations_at {S = S} {P = P} signature bound least (suc left)) rest
  unfolding attestations_at
  no_attestation least left rest fails = refused_then _ _ (refused_then _ _ fails)

  pub no_signer : (least left : ℕ) (rest behind : List ℕ) (signer : ℕ) →
      SkipsBy {T = Attestation S P G} (λ a. a.signer ≡ signer) (attestation_format signature).reading rest behind →
      (nat_lt signer least || nat_le bound signer) ≡ true →
      IsRefused (attestations_at {S = S} {P = P} signature bound least (suc left)) rest
  unfolding attestations_at
  no_signer least left rest behind signer one out =
      let bad = subst (λ (n : ℕ). (nat_lt n least || nat_le bound n) ≡ true) (sym one.1) out in
      rw (one.2, bad) tt

  -- the next attestation cannot be read
  pub skipping_refused : (counter least left : ℕ) (rest : List ℕ) → counter + left ≡ count → counter < count →
      Skipping least left rest →
      ((next : ℕ) → IsRefused (attestations_at {S = S} {P = P} signature bound least (suc next)) rest) →
      IsRefused (attestations_at {S = S} {P = P} signature bound 0 count) bytes
  skipping_refused counter least zero rest sum some so fails = absurd (omega (arith, sum, some))
  skipping_refused counter least (suc left) rest sum some so fails = so.refused (fails left)

  -- all were skipped
  pub skipping_end : (counter least left : ℕ) (rest : List ℕ) → counter + left ≡ count → count ≤ counter →
      Skipping least left rest → Skips (attestations_at {S = S} {P = P} signature bound 0 count) bytes rest
  unfolding attestations_at
  skipping_end counter least zero rest sum none so = so.finished [] rest refl
  skipping_end counter least (suc left) rest sum none so = absurd (omega (arith, sum, none))

-- a certificate whose count is within the bound
pub skipped_listed : (S P : Type 0) {G : Type 0} (signature : Format G) (bound count : ℕ) (bytes middle rest : List ℕ) →
    number_32.reading bytes ≡ Ok (count, middle) → (count ≡ 0 → ⊥) → count ≤ bound →
    Skips (attestations_at {S = S} {P = P} signature bound 0 count) middle rest →
    Skips (listed_at {S = S} {P = P} signature bound) bytes rest
skipped_listed S P signature bound count bytes middle rest read some few skipped =
    let first = ne_eqb count 0 some in
    let last = le-ltb bound count few in
    (skipped.0, rw (read, first, last) skipped.1)
