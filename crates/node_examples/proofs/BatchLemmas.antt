-- What holds of the votes that a batcher records.
use Rattle.std.proofs.Common.{◌≡◌, ℕ, ◌≤◌, Bool, true, false, List, [], ◌∷◌, ◌++◌, length, cond, Result, Ok, Err, MatchResult, ◌⊎◌, inr, sym, ap, subst, ◌∙◌, arith}
use Rattle.std.specs.Prelude.{All}
use Rattle.std.specs.List.{filter}
use Rattle.std.specs.List.Sorted.{IsPermutation}
use Rattle.std.proofs.lemmas.List.{append-nil}
use Rattle.std.proofs.lemmas.List.Elements.{All-cons, All-head, filter-append}
use Rattle.std.proofs.lemmas.List.Sorted.{All-permutation}
use Rattle.simplex_scheme.specs.declared.proposal.Proposal.{Proposal}
use Rattle.simplex_scheme.specs.Subject.{SubjectValue, Notarizes}
use Rattle.simplex_votes.specs.Assembly.{StandInOrder}
use Rattle.simplex_votes.specs.declared.types.notarize.Notarize.{Notarize}
use Rattle.simplex_evidence.specs.VoteMap.{IsBySigner, AreParticipants}
use Rattle.node_examples.specs.Batch.{AreForProposal, signer_of}

-- all of some votes are for at most one proposal
pub one_proposal : {S D P G : Type 0} (votes : List (Notarize S D P G)) (p q : Proposal D) → 1 ≤ length votes →
    All (λ v. v.proposal ≡ p) votes → All (λ v. v.proposal ≡ q) votes → p ≡ q
one_proposal [] p q some one other = absurd (omega arith)
one_proposal (v ∷ vs) p q some one other =
    sym (All-head (λ w. w.proposal ≡ p) v vs one) ∙ All-head (λ w. w.proposal ≡ q) v vs other

module _ {S D P G : Type 0} (good : SubjectValue D → ℕ → G → Bool) (proposal : Proposal D) where
  -- from the recorded votes, in the order of their signers, a notarization can be assembled
  pub in_order : (n : ℕ) (votes : List (Notarize S D P G)) → 1 ≤ length votes → AreForProposal good proposal votes →
      IsBySigner signer_of votes → AreParticipants signer_of n votes →
      StandInOrder (λ v. v.proposal) (λ v. v.attestation) n votes
  in_order n votes some stands ordered within = record {
    some = some;
    same = λ i j d before lt. stands.same i d (omega arith) ∙ sym (stands.same j d lt);
    ordered = ordered;
    members = within;
  }

  -- after an insert of a valid vote for the proposal, all votes are still valid and for the proposal
  pub stands_after : {E : Type 0} (old new : List (Notarize S D P G)) (vote : Notarize S D P G) (result : Result Bool E)
      (added : Bool) → result ≡ Ok added → AreForProposal good proposal old → vote.proposal ≡ proposal →
      good (Notarizes vote.proposal) vote.attestation.signer vote.attestation.signature ≡ true →
      (result ≡ Ok true → IsPermutation (vote ∷ old) new) → (result ≡ Ok false → new ≡ old) → AreForProposal good proposal new
  stands_after old new vote result true is stands same valid more kept = record {
    same = All-permutation (λ v. v.proposal ≡ proposal) (vote ∷ old) new (more is)
        (All-cons (λ v. v.proposal ≡ proposal) vote old same stands.same);
    each_valid =
        All-permutation (λ v. good (Notarizes v.proposal) v.attestation.signer v.attestation.signature ≡ true) (vote ∷ old) new
        (more is) (All-cons (λ v. good (Notarizes v.proposal) v.attestation.signer v.attestation.signature ≡ true) vote old
        valid stands.each_valid);
  }
  stands_after old new vote result false is stands same valid more kept =
      subst (AreForProposal good proposal) (sym (kept is)) stands

-- one more that passes a test
pub one_more_passes : {X : Type 0} (p : X → Bool) (xs : List X) (x : X) → p x ≡ true →
    filter p (xs ++ x ∷ []) ≡ filter p xs ++ x ∷ []
one_more_passes p xs x so = filter-append p xs (x ∷ []) ∙ ap (λ b. filter p xs ++ cond b (x ∷ []) []) so

-- one more that does not
pub one_more_fails : {X : Type 0} (p : X → Bool) (xs : List X) (x : X) → p x ≡ false → filter p (xs ++ x ∷ []) ≡ filter p xs
one_more_fails p xs x so =
    filter-append p xs (x ∷ []) ∙ ap (λ b. filter p xs ++ cond b (x ∷ []) []) so ∙ append-nil (filter p xs)

-- what holds however a call ended
pub either_way : {A E : Type 0} (result : Result A E) (Before After : Type 0) → After →
    MatchResult result (λ _. After) (λ _. Before ⊎ After)
either_way (Ok a) Before After after = after
either_way (Err e) Before After after = inr after

-- what a call returned, and what holds of it
pub answered : {A E : Type 0} (P : A → Type 0) (Q : E → Type 0) (result : Result A E) (a : A) → result ≡ Ok a →
    MatchResult result P Q → P a
answered P Q result a is h = subst (λ r. MatchResult r P Q) is h
