-- What certificates list, and what a sort by the signers makes.
use Rattle.std.proofs.Common.{◌≡◌, ℕ, ◌<◌, ◌≤◌, ◌^◌, Bool, true, false, ◌&&◌, List, [], ◌∷◌, length, get_or, take, sym, ap, ◌∙◌, arith, All, IsPermutation, nat_eq, nat_le}
use Rattle.std.specs.List.{IsDistinct, list_all}
use Rattle.std.specs.List.Sorted.{IsNonDecreasingBy, IsNonDecreasing}
use Rattle.std.proofs.lemmas.Bool.{eq-eqb, le-leb}
use Rattle.std.proofs.lemmas.Bool.Decides.{nat_tests}
use Rattle.std.proofs.lemmas.Cmp.{nat_eq_equiv}
use Rattle.std.proofs.lemmas.List.{get_or-map, length-map, take_all}
use Rattle.std.proofs.lemmas.List.Elements.{All-map}
use Rattle.std.proofs.lemmas.List.Sums.{list_all-from_AllPass}
use Rattle.std.proofs.lemmas.List.Sorted.{IsPermutation-map, length_permutation, All-permutation}
use Rattle.std.proofs.lemmas.Map.Keys.{IsDistinct-IsPermutation, IsDistinct-from_apart, IsStrictlyIncreasing-from_distinct, below_from_sorted, sorted_from_strictly_increasing}
use Rattle.std.proofs.lemmas.Map.Made.{distinct_count-from_IsDistinct}
use Rattle.std.proofs.lemmas.Map.Views.{length-le_from_below}
use Rattle.simplex_scheme.specs.Committee.{IsInOrder, is_quorum, quorum_of, signers_of}
use Rattle.simplex_base.specs.Format.{Format}
use Rattle.simplex_scheme.specs.Attestation.{attestation_format}
use Rattle.simplex_schemes.specs.Listed.{AreListed, ListedFits, SignersAscend}
use Rattle.simplex_scheme.specs.declared.scheme.Attestation.{Attestation}

-- a lower number is another one
apart : (m n : ℕ) → m < n → nat_eq m n ≡ false
apart m n less = grind (arith, nat_tests)

module _ {S P G : Type 0} (xs : List (Attestation S P G)) where
  -- the signer at a place
  signer_at : (i d : ℕ) (a : Attestation S P G) → i < length xs → get_or (signers_of xs) i d ≡ (get_or xs i a).signer
  signer_at i d a within = get_or-map (λ b. b.signer) xs i a d within

  -- distinct signers: the test of a quorum asks for enough attestations, and that each is valid
  pub quorum_of_distinct : (n : ℕ) (good : ℕ → G → Bool) → IsDistinct nat_eq (signers_of xs) →
      is_quorum n good xs ≡ (nat_le (quorum_of n) (length xs) && list_all (λ a. good a.signer a.signature) xs)
  quorum_of_distinct n good distinct =
      let whole = distinct_count-from_IsDistinct nat_eq_equiv (signers_of xs) distinct ∙ length-map xs (λ a. a.signer) in
      ap (λ b. b && (nat_le (quorum_of n) (length xs) && list_all (λ a. good a.signer a.signature) xs)) (eq-eqb _ _ whole)

-- signers that ascend are distinct
pub distinct_signers : {S P G : Type 0} (xs : List (Attestation S P G)) → SignersAscend xs → IsDistinct nat_eq (signers_of xs)
distinct_signers [] ascend = IsDistinct-from_apart nat_eq [] (λ i j d before within. absurd (omega arith))
distinct_signers (x ∷ xs) ascend =
    IsDistinct-from_apart nat_eq (signers_of (x ∷ xs)) (λ i j d before within.
    let inside : j < length (x ∷ xs) = omega (arith, length-map (x ∷ xs) (λ a. a.signer)) in
    rw (signer_at (x ∷ xs) i d x (omega arith), signer_at (x ∷ xs) j d x inside) (apart _ _ (ascend i j x before inside)))

-- the signers rise where no attestation has a lower one than those before it
rising : {S P G : Type 0} (xs : List (Attestation S P G)) → IsNonDecreasingBy (λ a. a.signer) xs →
    IsNonDecreasing (signers_of xs)
rising [] rises i j d before within = absurd (omega arith)
rising (x ∷ xs) rises i j d before within =
    let inside : j < length (x ∷ xs) = omega (arith, length-map (x ∷ xs) (λ a. a.signer)) in
    rw (signer_at (x ∷ xs) i d x (omega arith), signer_at (x ∷ xs) j d x inside) (rises i j x before inside)

-- `given`, whose signers are distinct, was sorted by them
pub sorted_in_order : {S P G : Type 0} (given sorted : List (Attestation S P G)) → IsPermutation given sorted →
    IsNonDecreasingBy (λ a. a.signer) sorted → IsDistinct nat_eq (signers_of given) → IsInOrder given sorted
sorted_in_order given sorted moved rises distinct =
    let still = IsDistinct-IsPermutation nat_eq nat_eq_equiv.symm (signers_of given) (signers_of sorted)
    (IsPermutation-map (λ a. a.signer) given sorted moved) distinct in
    record {
      same = moved;
      ascending = sorted_from_strictly_increasing (signers_of sorted)
          (IsStrictlyIncreasing-from_distinct (signers_of sorted) (rising sorted rises) still);
    }

module _ {S P G : Type 0} (given listed : List (Attestation S P G)) (order : IsInOrder given listed) where
  ascends_in_order : SignersAscend listed
  ascends_in_order i j d before within =
      let less = below_from_sorted (signers_of listed) i j d.signer order.ascending before
      (omega (arith, length-map listed (λ a. a.signer))) in
      rw (signer_at listed i d.signer d (omega arith), signer_at listed j d.signer d within) at less

  -- attestations of members, in order, are a certificate's
  pub listed_in_order : (n : ℕ) → 1 ≤ length given → n < 2 ^ 32 → All (λ a. a.signer < n) given → AreListed listed
  listed_in_order n some few members =
      let size = length_permutation given listed order.same in
      let each = All-map (λ signer. signer < n) (λ a. a.signer) listed
      (All-permutation (λ a. a.signer < n) given listed order.same members) in
      let upto = length-le_from_below n (signers_of listed) order.ascending each in
      record {
        some = omega arith;
        few = omega (arith, length-map listed (λ a. a.signer));
        ascending = ascends_in_order;
      }

  -- if each can be encoded they fit the bound of their committee
  pub fits_in_order : (n : ℕ) → 1 ≤ length given → n < 2 ^ 32 → All (λ a. a.signer < n) given → (signature : Format G) →
      All (attestation_format {S = S} {P = P} signature).is_value given → ListedFits signature n listed
  fits_in_order n some few members signature each =
      let below = All-permutation (λ a. a.signer < n) given listed order.same members in
      let upto = length-le_from_below n (signers_of listed) order.ascending
      (All-map (λ signer. signer < n) (λ a. a.signer) listed below) in
      record {
        listed = listed_in_order n some few members;
        count = omega (arith, length-map listed (λ a. a.signer));
        below = below;
        each = All-permutation (attestation_format {S = S} {P = P} signature).is_value given listed order.same each;
      }

  -- a quorum of valid attestations, in order, is a quorum
  pub quorum_in_order : (n : ℕ) (good : ℕ → G → Bool) → quorum_of n ≤ length given →
      All (λ a. good a.signer a.signature ≡ true) given → is_quorum n good listed ≡ true
  quorum_in_order n good enough each =
      let counted = le-leb (quorum_of n) (length listed) (omega (arith, length_permutation given listed order.same)) in
      let all = list_all-from_AllPass (λ a. good a.signer a.signature) listed
      (All-permutation (λ a. good a.signer a.signature ≡ true) given listed order.same each) in
      quorum_of_distinct listed n good (distinct_signers listed ascends_in_order)
      ∙ (ap (λ b. b && list_all (λ a. good a.signer a.signature) listed) counted ∙ all)

-- the certificate lists a quorum where its attestations are enough, and all that were seen are valid
pub quorum_of_seen : {S P G : Type 0} (listed seen : List (Attestation S P G)) (n i : ℕ) (good : ℕ → G → Bool) → seen ≡ listed →
    SignersAscend listed → quorum_of n ≤ length seen → length seen ≤ i →
    list_all (λ a. good a.signer a.signature) (take i seen) ≡ true → is_quorum n good listed ≡ true
quorum_of_seen listed seen n i good same ascend enough ended each =
    let counted = le-leb (quorum_of n) (length listed) (omega (arith, ap length same)) in
    let whole = ap (list_all (λ a. good a.signer a.signature)) (sym same ∙ sym (take_all i seen ended)) ∙ each in
    quorum_of_distinct listed n good (distinct_signers listed ascend)
    ∙ (ap (λ b. b && list_all (λ a. good a.signer a.signature) listed) counted ∙ whole)
