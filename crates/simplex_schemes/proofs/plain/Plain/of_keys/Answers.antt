use Rattle.std.proofs.Common.{◌≡◌, ℕ, ◌<◌, ◌≤◌, ◌^◌, ◌∙◌, List, length, Result, Ok, Err, refl, arith}
use Rattle.std.specs.Prelude.{IfErr, IsPermutation}
use Rattle.std.specs.List.{IsDistinct}
use Rattle.std.specs.Str.{bytes_eq}
use Rattle.std.proofs.lemmas.Bool.{false≢true}
use Rattle.std.proofs.lemmas.List.Sorted.{length_permutation}
use Rattle.std.proofs.lemmas.Map.Made.{AllPairs-from_IsDistinct, IsDistinct-from_AllPairs}
use Rattle.std.proofs.lemmas.Slice.Eq.{bytes_eq-Decides}
use Rattle.simplex_schemes.specs.PlainCommittee.{AreCommitteeKeys}
use Rattle.simplex_schemes.proofs.plain.Plain.of_keys.Goals as goal

-- as many keys in a set as were given
size_of : (keys set : List (List ℕ)) (count : ℕ) → count ≡ length keys → (1 ≤ count) × (count < 2 ^ 32) →
    IsPermutation keys set → (1 ≤ length set) × (length set < 2 ^ 32)
size_of keys set count is size same = let equal = length_permutation keys set same in (omega arith, omega arith)

-- these keys are a committee's where none is there twice
are_keys : (keys : List (List ℕ)) (count : ℕ) → count ≡ length keys → (1 ≤ count) × (count < 2 ^ 32) →
    IsDistinct bytes_eq keys → AreCommitteeKeys keys
are_keys keys count is size distinct = record {
  some = omega arith;
  few = omega arith;
  distinct = AllPairs-from_IsDistinct bytes_eq-Decides keys distinct;
}

-- what holds in any case holds of an error
if_err : {X E P : Type 0} (result : Result X E) → P → IfErr result (λ _. P)
if_err (Ok x) p = tt
if_err (Err e) p = p

pub verifier-requires-clause-some : goal.verifier-requires-clause-some
verifier-requires-clause-some c =
    (size_of c.args.keys.items c.in-Ok.participants c.len.result (c.len.ensures ∙ c.args.keys.ok.0)
    (c.if-not-is_committee_size.ensures.0 refl) c.in-Ok.ensures.same).0

pub verifier-requires-clause-few : goal.verifier-requires-clause-few
verifier-requires-clause-few c =
    (size_of c.args.keys.items c.in-Ok.participants c.len.result (c.len.ensures ∙ c.args.keys.ok.0)
    (c.if-not-is_committee_size.ensures.0 refl) c.in-Ok.ensures.same).1

pub returns-in_err-verifier-in-Ok-clause-none : goal.returns-in_err-verifier-in-Ok-clause-none
returns-in_err-verifier-in-Ok-clause-none c =
    let are = are_keys c.args.keys.items c.len.result (c.len.ensures ∙ c.args.keys.ok.0)
    (c.if-not-is_committee_size.ensures.0 refl) (c.in-Ok.ensures.distinct.0 refl) in
    (λ e _. false≢true (rw e at c.from_residual.ensures.0), λ no. absurd (no are))

pub returns-in_err-verifier-in-Ok-clause-memory : goal.returns-in_err-verifier-in-Ok-clause-memory
returns-in_err-verifier-in-Ok-clause-memory c =
    if_err c.from_residual.result
    (are_keys c.args.keys.items c.len.result (c.len.ensures ∙ c.args.keys.ok.0) (c.if-not-is_committee_size.ensures.0 refl)
    (c.in-Ok.ensures.distinct.0 refl))

pub returns-in_ok-verifier-in-Ok-clause-committee :
    goal.returns-in_ok-verifier-in-Ok-clause-committee
returns-in_ok-verifier-in-Ok-clause-committee c =
    rw c.in_ok-verifier-in-Ok.ensures (record {
      are_keys = are_keys c.args.keys.items c.len.result (c.len.ensures ∙ c.args.keys.ok.0)
          (c.if-not-is_committee_size.ensures.0 refl) (c.in-Ok.ensures.distinct.0 refl);
      same = c.in-Ok.ensures.same;
      ascending = c.in-Ok.ensures.ascending;
      names_are = refl;
      verifies = refl;
    })

pub returns-in_ok-verifier-in-Ok-clause-none : goal.returns-in_ok-verifier-in-Ok-clause-none
returns-in_ok-verifier-in-Ok-clause-none c =
    let are = are_keys c.args.keys.items c.len.result (c.len.ensures ∙ c.args.keys.ok.0)
    (c.if-not-is_committee_size.ensures.0 refl) (c.in-Ok.ensures.distinct.0 refl) in
    (λ e. cc, λ no. absurd (no are))

pub returns-in-Err-clause-none : goal.returns-in-Err-clause-none
returns-in-Err-clause-none c =
    (λ e are. false≢true (c.in-Err.ensures.distinct.1 (IsDistinct-from_AllPairs bytes_eq-Decides _ are.distinct)), λ no. refl)
