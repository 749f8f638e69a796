-- Attestations that are read one after another.
use Rattle.std.proofs.Common.{◌≡◌, ℕ, suc, ◌+◌, ◌<◌, ◌^◌, List, [], ◌∷◌, ◌++◌, Ok, Err, false, true, refl, ap, sym, ◌∙◌, append_assoc, append-nil, arith, eqb, get_or}
use Rattle.std.specs.Prelude.{AllPairs, IsPermutation, ◌≢◌}
use Rattle.std.proofs.lemmas.Bool.{eqb-false, ne_eqb}
use Rattle.std.proofs.lemmas.Bool.Decides.{nat_tests}
use Rattle.std.proofs.lemmas.Map.Keys.{IsDistinct-from_apart, apart_from_distinct, IsDistinct-IsPermutation}
use Rattle.std.specs.List.Sorted.{IsNonDecreasingBy}
use Rattle.simplex_base.specs.Format.{Format, IsLawful}
use Rattle.simplex_base.specs.Reading.{Reading, Refusal, ◌>>=◌, Fails, IsBytes, end_of_buffer, invalid_varint, invalid_bool, invalid, extra_data}
use Rattle.simplex_base.specs.declared.codec.error.Error.{Error}
use Rattle.simplex_base.specs.declared.codec.error.Error.TheVariants as errors
use Rattle.simplex_schemes.specs.Listed.{SignersAscend, AreListed, attestation_at, attestations_at}
use Rattle.simplex_schemes.specs.ListedLaws.{attestations_take}
use Rattle.simplex_scheme.specs.declared.scheme.Attestation.{Attestation}

-- what is read, with `front` before it
abbrev pub with_front : {X : Type 0} → List X → Reading (List X) → Reading (List X)
with_front front read = read >>= λ others. Ok (front ++ others.0, others.1)

-- `front` was read of the bytes, and `left` attestations are to be read of the rest
pub record SoFar {S P G : Type 0} (signature : Format G) (bound count : ℕ) (bytes : List ℕ) (front : List (Attestation S P G))
    (least left : ℕ) (rest : List ℕ) : Type 0 where
  pub is : attestations_at signature bound 0 count bytes ≡ with_front front (attestations_at signature bound least left rest)

with_front_none : {X : Type 0} (read : Reading (List X)) → read ≡ with_front [] read
with_front_none (Ok x) = refl
with_front_none (Err e) = refl

pub none_read : {S P G : Type 0} (signature : Format G) (bound count : ℕ) (bytes : List ℕ) →
    SoFar {S = S} {P = P} signature bound count bytes [] 0 count bytes
none_read signature bound count bytes = record { is = with_front_none (attestations_at signature bound 0 count bytes) }

with_front_more : {X : Type 0} (front : List X) (x : X) (read : Reading (List X)) →
    with_front front (with_front (x ∷ []) read) ≡ with_front (front ++ x ∷ []) read
with_front_more front x (Ok r) = ap (λ (xs : List _). Ok (xs, r.1)) (sym (append_assoc front (x ∷ []) r.0))
with_front_more front x (Err e) = refl

pub read_more : {S P G : Type 0} (signature : Format G) (bound count : ℕ) (bytes : List ℕ) (front : List (Attestation S P G))
    (least left : ℕ) (rest : List ℕ) (a : Attestation S P G) (more : List ℕ) →
    SoFar signature bound count bytes front least (suc left) rest → attestation_at signature bound least rest ≡ Ok (a, more) →
    SoFar signature bound count bytes (front ++ a ∷ []) (a.signer + 1) left more
unfolding attestations_at
read_more signature bound count bytes front least left rest a more so e = record {
  is = so.is ∙ rw e (with_front_more front a (attestations_at signature bound (a.signer + 1) left more));
}

read_refused : {S P G : Type 0} (signature : Format G) (bound count : ℕ) (bytes : List ℕ) (front : List (Attestation S P G))
    (least left : ℕ) (rest : List ℕ) (refusal : Refusal) → SoFar signature bound count bytes front least (suc left) rest →
    attestation_at {S = S} {P = P} signature bound least rest ≡ Err refusal →
    attestations_at {S = S} {P = P} signature bound 0 count bytes ≡ Err refusal
unfolding attestations_at
read_refused signature bound count bytes front least left rest refusal so e = so.is ∙ rw e refl

pub read_fails : {S P G : Type 0} (signature : Format G) (bound count : ℕ) (bytes : List ℕ) (front : List (Attestation S P G))
    (least left : ℕ) (rest : List ℕ) (error : Error) → SoFar signature bound count bytes front least (suc left) rest →
    Fails false error (attestation_at {S = S} {P = P} signature bound least rest) →
    Fails true error (attestations_at {S = S} {P = P} signature bound 0 count bytes)
read_fails signature bound count bytes front least left rest errors.EndOfBuffer so e =
    read_refused signature bound count bytes front least left rest end_of_buffer so e
read_fails signature bound count bytes front least left rest errors.InvalidVarint so e =
    read_refused signature bound count bytes front least left rest invalid_varint so e
read_fails signature bound count bytes front least left rest errors.InvalidBool so e =
    read_refused signature bound count bytes front least left rest invalid_bool so e
read_fails signature bound count bytes front least left rest (errors.Invalid subject reason) so e =
    read_refused signature bound count bytes front least left rest (invalid subject.now reason.now) so e
read_fails signature bound count bytes front least left rest errors.ExtraData so e =
    read_refused signature bound count bytes front least left rest extra_data so e
read_fails signature bound count bytes front least left rest errors.OutOfMemory so e = cc

pub all_read : {S P G : Type 0} (signature : Format G) (bound count : ℕ) (bytes : List ℕ) (front : List (Attestation S P G))
    (least : ℕ) (rest : List ℕ) → SoFar signature bound count bytes front least 0 rest →
    attestations_at signature bound 0 count bytes ≡ Ok (front, rest)
unfolding attestations_at
all_read signature bound count bytes front least rest so = so.is ∙ ap (λ (xs : List _). Ok (xs, rest)) (append-nil front)

pub read_is_listed : {S P G : Type 0} (signature : Format G) → IsLawful signature →
    (bound count : ℕ) (bytes : List ℕ) (xs : List (Attestation S P G)) (rest : List ℕ) → IsBytes bytes → 0 < count →
    count < 2 ^ 32 → attestations_at signature bound 0 count bytes ≡ Ok (xs, rest) → AreListed xs
read_is_listed signature law bound count bytes xs rest fit some few e =
    let t = attestations_take signature law bound 0 count bytes xs rest fit e in
    let len = t.len in
    record { some = omega arith; few = omega arith; ascending = t.ascending }

-- ---- attestations that are sorted in place

-- distinct signers that do not fall ascend
pub sorted_ascends : {S P G : Type 0} (xs : List (Attestation S P G)) → AllPairs (λ a b. a.signer ≢ b.signer) xs →
    IsNonDecreasingBy (λ a. a.signer) xs → SignersAscend xs
sorted_ascends xs distinct up i j d lt within =
    let le = up i j d (omega arith) within in
    let ne = distinct i j d lt within in
    omega arith

-- distinct signers stay distinct in another order
pub permuted_distinct : {S P G : Type 0} (xs ys : List (Attestation S P G)) → IsPermutation xs ys →
    AllPairs (λ a b. a.signer ≢ b.signer) xs → AllPairs (λ a b. a.signer ≢ b.signer) ys
permuted_distinct {S} {P} {G} xs ys moved distinct i j d lt within e =
    let same = λ (a b : Attestation S P G). eqb a.signer b.signer in
    let before = IsDistinct-from_apart same xs (λ k l f less inside. ne_eqb _ _ (distinct k l f less inside)) in
    let after = IsDistinct-IsPermutation same (λ a b. eqb_flips a.signer b.signer) xs ys moved before in
    eqb-false (get_or ys i d).signer (get_or ys j d).signer (apart_from_distinct same ys i j d after lt within) e
  where
    eqb_flips : (a b : ℕ) → eqb a b ≡ eqb b a
    eqb_flips a b = grind (arith, nat_tests)
