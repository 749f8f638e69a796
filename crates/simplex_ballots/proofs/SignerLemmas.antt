-- Which signers of a round have two votes that may contradict, and how many are accused.
use Rattle.simplex_rules.proofs.Prelude.{Bool, Conflicting_finalize, Conflicting_notarize, Contains, Contains-dedup_nat, Contains-permutation, IsPermutation, IsSorted, IsStrictlyIncreasing-dedup, EquivocationKind, List, None, Nullify_finalize, SignedVote, Some, VoteKind, [], ap, arith, cond-true, dedup, eqb, eqb-true, evidence_from, false≢true, flat_map, inl, inr, is_some, nat_cmp, refl, sorted_from_strictly_increasing, subst, sym, true, ℕ, ◌+◌, ◌<◌, ◌∙◌, ◌∷◌, ◌≡◌, or_cases, equivocation_of, same_kind, ◌||◌, Option, false, cond, count_by, range_with_len, suc, sum_by-cons, ◌-◌, ◌≤◌}
use Rattle.simplex_ballots.specs.Index.{is_second, placed_at, placed_key, places_in, second_signer}
use Rattle.simplex_ballots.specs.Rounds.{ListsSigners, slots, ballot_at, vote_at}
use Rattle.simplex_ballots.specs.declared.round_votes.RoundVotes.{RoundVotes}
use Rattle.std.specs.List.Sorted.{IsStrictlySortedBy}
use Rattle.simplex_rules.proofs.Lists.{Contains-first, Contains-flat_map, found}
use Rattle.simplex_ballots.proofs.IndexLemmas.{same_key}
use Rattle.simplex_scheme.specs.declared.kind.VoteKind.TheVariants as kinds
use Rattle.simplex_ballots.specs.Ballots.{vote_key, vote_of}
use Rattle.simplex_ballots.specs.declared.placed.Placed.{Placed}
use Rattle.std.specs.Int.{from_bool}

-- ---- the signers of a round

-- signers of an index that were collected, sorted and deduplicated
pub lists_signers : {S D P G : Type 0} (recorded : RoundVotes S D P G) (collected sorted signers : List ℕ) →
    collected ≡ flat_map second_signer (places_in recorded.index) →
    IsPermutation collected sorted → IsSorted nat_cmp sorted → signers ≡ dedup eqb sorted → ListsSigners recorded signers
lists_signers {S} {D} {P} {G} recorded collected sorted signers all moved ordered is = record {
  ascending = subst (IsStrictlySortedBy nat_cmp) (sym is)
      (sorted_from_strictly_increasing (dedup eqb sorted) (IsStrictlyIncreasing-dedup sorted ordered));
  complete = λ signer h.
      let slot = slots recorded signer in
      let vote = vote_at recorded signer in
      elim (or_cases (is_some (evidence_from slot Conflicting_notarize)) (is_some (evidence_from slot Conflicting_finalize)
      || is_some (evidence_from slot Nullify_finalize)) h) [
        | inl two ↦ second signer kinds.Notarize true
            (both_some Conflicting_notarize (vote kinds.Notarize false) (vote kinds.Notarize true) two).1 refl
        | inr rest ↦
            elim (or_cases (is_some (evidence_from slot Conflicting_finalize))
            (is_some (evidence_from slot Nullify_finalize)) rest) [
              | inl two ↦ second signer kinds.Finalize true
                  (both_some Conflicting_finalize (vote kinds.Finalize false) (vote kinds.Finalize true) two).1 refl
              | inr two ↦ second signer kinds.Nullify false
                  (both_some Nullify_finalize (vote kinds.Nullify false) (vote kinds.Finalize false) two).0 refl
            ]
      ];
}
  where
    -- evidence has both of its votes
    both_some : (kind : EquivocationKind) (v w : Option (SignedVote D G)) → is_some (equivocation_of kind v w) ≡ true →
        (is_some v ≡ true) × (is_some w ≡ true)
    both_some kind None w h = absurd (false≢true h)
    both_some kind (Some v) None h = absurd (false≢true h)
    both_some kind (Some v) (Some w) h = (refl, refl)

    stays : (s : ℕ) → Contains collected s → Contains signers s
    stays s h =
        subst (λ xs. Contains xs s) (sym is) (Contains-dedup_nat sorted s (Contains-permutation collected sorted s moved h))

    -- the signer of such a vote is listed
    second : (signer : ℕ) (kind : VoteKind) (is_other : Bool) → is_some (vote_at recorded signer kind is_other) ≡ true →
        (same_kind kind kinds.Nullify || is_other) ≡ true → Contains signers signer
    second signer kind is_other some flag = by (placed_at recorded.index signer kind is_other) refl
      where
        by : (o : Option Placed) → placed_at recorded.index signer kind is_other ≡ o → Contains signers signer
        by None at =
            absurd (false≢true (sym (ap (λ o. is_some (vote_of recorded.round signer kind (ballot_at recorded.ballots o))) at)
            ∙ some))
        by (Some placed) at =
            let one = found (λ p. eqb (placed_key p) (vote_key signer kind is_other)) (places_in recorded.index) placed at in
            let parts = same_key placed.signer signer placed.kind kind placed.is_other is_other (eqb-true _ _ one.1) in
            let listed = cond-true (is_second placed) (placed.signer ∷ []) []
            ((λ i. same_kind (parts.1.0 i) kinds.Nullify || parts.1.1 i) ∙ flag) in
            stays signer (subst (Contains collected) parts.0 (subst (λ xs. Contains xs placed.signer) (sym all)
            (Contains-flat_map second_signer (places_in recorded.index) placed placed.signer one.0
            (subst (λ xs. Contains xs placed.signer) (sym listed) (Contains-first placed.signer [])))))

-- ---- how many of the participants are accused

-- one participant more is looked at
pub counted_next : (test : ℕ → Bool) (number end count next all : ℕ) → number < end →
    next ≡ count + from_bool (test number) →
    count + count_by test (range_with_len number (end - number)) ≡ all →
    next + count_by test (range_with_len (number + 1) (end - (number + 1))) ≡ all
counted_next test number end count next all lt is so_far =
    let left : end - number ≡ suc (end - (number + 1)) = omega (arith, lt) in
    let more = range_with_len (number + 1) (end - (number + 1)) in
    let one = elim (test number) as (λ b. from_bool b ≡ cond b 1 0) [ true ↦ refl | false ↦ refl ] in
    omega (
      arith,
      is,
      so_far,
      one,
      ap (λ k. count_by test (range_with_len number k)) left,
      sum_by-cons (λ q. cond (test q) 1 0) number more,
    )

-- it counts at most one
pub at_most_one : (b : Bool) → from_bool b ≤ 1
at_most_one true = omega arith
at_most_one false = omega arith
