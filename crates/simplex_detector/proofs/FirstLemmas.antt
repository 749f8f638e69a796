-- What the first message of a round leaves of a detector.
use Rattle.simplex_rules.proofs.Prelude.{Activity, All, Bool, IsEquivalence, List, None, Round, Schedule, Scheme, Some, VoteKind, [], activity_round, ap, committee_of, cond, is_key, length, nothing_certified, round_cmp, sym, votes_in, ℕ, ◌++◌, ◌∙◌, ◌∷◌, ◌≡◌}
use Rattle.simplex_evidence.specs.Activity.{contents_of}
use Rattle.simplex_rules.proofs.MessageLemmas.{IsHere}
use Rattle.simplex_ballots.specs.Rounds.{IsSized, no_slot, round_count, slots}
use Rattle.simplex_ballots.specs.declared.apart.Apart.{Apart}
use Rattle.simplex_detector.specs.Detector.{Recalls, RecallsMore, RecallsRound, TakesContents}
use Rattle.simplex_detector.specs.Gathered.{GathersContents, RecordsFirst}
use Rattle.simplex_detector.specs.RoundMap.{get}
use Rattle.simplex_detector.specs.declared.detector.Detector.{Detector}
use Rattle.simplex_detector.specs.declared.round_state.RoundState.{RoundState}
use Rattle.simplex_detector.proofs.DetectorLemmas.{judges, news_taken, recalls_changed, recalls_fresh, recalls_still_none, recalls_taken}
use Rattle.simplex_detector.proofs.GatherLemmas.{gathered_taken}

-- a message is taken into the empty state of its round, of which nothing is recorded
module _ {S D C P G : Type 0} (scheme : Scheme S D C P G) (l : IsEquivalence scheme.eq) (s : S) (m : Activity S D C P G)
    (here : All (IsHere (activity_round m)) (votes_in scheme.listed m)) (news : Bool)
    (rounds : List (Round × RoundState S D P G)) (round : Round) (at : round ≡ activity_round m)
    (none : get round_cmp rounds round ≡ None) (fresh after : RoundState S D P G)
    (sized : IsSized (length (scheme.keys s)) fresh.votes) (round_is : fresh.votes.round ≡ round)
    (empty : (signer : ℕ) (kind : VoteKind) → slots fresh.votes signer kind ≡ no_slot) (no_votes : round_count fresh.votes ≡ 0)
    (nothing : fresh.certified ≡ nothing_certified) (apart gathered : Apart S D C P G)
    (takes : TakesContents (judges scheme) s scheme.listed (contents_of m) news fresh after)
    (gathers : GathersContents (judges scheme) s (contents_of m) fresh apart gathered) where
  -- a detector with the states of some rounds
  abbrev with_rounds : List (Round × RoundState S D P G) → Detector S D P G
  with_rounds states = record { rounds = states }

  -- before it the state is that of any messages whose detector this is
  before : (schedule : Schedule S) → committee_of schedule (activity_round m).epoch ≡ Some s →
      (messages : List (Activity S D C P G)) → Recalls (judges scheme schedule) messages (with_rounds rounds) →
      RecallsRound (judges scheme schedule) messages (activity_round m) fresh
  before schedule is messages holds =
      recalls_fresh scheme schedule m s is l rounds fresh (sym none ∙ ap (get round_cmp rounds) at) sized (round_is ∙ at) empty
      no_votes nothing messages holds

  -- and after it that of these and the message
  behind : (schedule : Schedule S) → committee_of schedule (activity_round m).epoch ≡ Some s →
      (messages : List (Activity S D C P G)) → Recalls (judges scheme schedule) messages (with_rounds rounds) →
      RecallsRound (judges scheme schedule) (messages ++ m ∷ []) (activity_round m) after
  behind schedule is messages holds =
      recalls_taken scheme schedule messages m s is news fresh after takes (before schedule is messages holds)

  first : (new : List (Round × RoundState S D P G)) →
      ((schedule : Schedule S) → committee_of schedule (activity_round m).epoch ≡ Some s →
      RecallsMore (judges scheme schedule) (m ∷ []) (with_rounds rounds) (with_rounds new)) →
      RecordsFirst (judges scheme) s m news (with_rounds rounds) (with_rounds new) apart gathered
  first new records = record {
    records = records;
    tells = λ schedule is messages holds.
        news_taken scheme schedule messages m s is news fresh after takes (before schedule is messages holds);
    gathers = λ schedule is messages holds.
        gathered_taken scheme schedule messages m s is fresh apart gathered gathers (before schedule is messages holds);
  }

  -- the state is inserted
  pub first_is_inserted : (new : List (Round × RoundState S D P G)) →
      ((q : Round) → get round_cmp new q ≡ cond (is_key (round_cmp round) q) (Some after) (get round_cmp rounds q)) →
      RecordsFirst (judges scheme) s m news (with_rounds rounds) (with_rounds new) apart gathered
  first_is_inserted new updates = first new (λ schedule is messages holds.
      recalls_changed (judges scheme schedule) l messages m here round at (Some after) rounds new updates
      (behind schedule is messages holds) holds)

  -- it is left out, since it is empty still
  pub first_is_left_out : ((signer : ℕ) (kind : VoteKind) → slots after.votes signer kind ≡ no_slot) →
      after.certified ≡ nothing_certified →
      RecordsFirst (judges scheme) s m news (with_rounds rounds) (with_rounds rounds) apart gathered
  first_is_left_out no_vote no_subject = first rounds (λ schedule is messages holds.
      recalls_still_none (judges scheme schedule) l messages m here round at after rounds none no_vote no_subject
      (behind schedule is messages holds) holds)
