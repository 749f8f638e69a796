-- The state of every round so far.
use Rattle.std.specs.Prelude.{◌≡◌, ℕ, ◌-◌, ◌^◌, All, Bool, true, ◌||◌, List, [], ◌++◌, filter, min, Option, Some, None, if◌then◌else◌}
use Rattle.std.specs.Option.{is_some, option_to_list}
use Rattle.simplex_base.specs.Positions.{Round}
use Rattle.simplex_scheme.specs.declared.kind.VoteKind.{VoteKind}
use Rattle.simplex_scheme.specs.Subject.{SubjectValue}
use Rattle.simplex_scheme.specs.declared.scheme.Attestation.{Attestation}
use Rattle.simplex_votes.specs.Votes.{SignedVote}
use Rattle.simplex_evidence.specs.Contents.{ContentsValue, contents_round, contents_votes, contents_certificate}
use Rattle.simplex_evidence.specs.Contradiction.{Equivocation}
use Rattle.simplex_evidence.specs.declared.types.activity.Activity.{Activity}
use Rattle.simplex_scheme.specs.Committees.{Schedule, committee_of}
use Rattle.simplex_rules.specs.Evidence.{IsEvidence}
use Rattle.simplex_rules.specs.FirstCertified.{certified_subjects, first_certified, nothing_certified, RecordsFirsts}
use Rattle.simplex_rules.specs.News.{have_news, message_is_news, subject_is_news}
use Rattle.simplex_rules.specs.Recorded.{slot_of, votes_recorded}
use Rattle.simplex_rules.specs.Accusation.{round_cmp}
use Rattle.simplex_detector.specs.RoundMap.{get}
use Rattle.simplex_ballots.specs.Rounds.{no_slot, HoldsRound}
use Rattle.simplex_rules.specs.Rules.{Rules, HaveCommittees, is_valid, valid_votes}
use Rattle.simplex_rules.specs.Splits.{if_certified, is_split, split_of, AreSplits}
use Rattle.simplex_rules.specs.declared.judging.Judging.{Judging}
use Rattle.simplex_rules.specs.declared.split.Split.{Split}
use Rattle.simplex_detector.specs.declared.round_state.RoundState.{RoundState}
use Rattle.simplex_detector.specs.declared.detector.Detector.{Detector}

module _ {S D C P G : Type 0} (rules : Rules S D C P G) (messages : List (Activity S D C P G)) where
  -- the state of a round is that of the messages' valid votes and certified subjects
  pub record RecallsRound (round : Round) (round_state : RoundState S D P G) : Type 0 where
    pub votes : HoldsRound rules.eq (rules.size round.epoch) (valid_votes rules messages) round round_state.votes
    pub subjects : RecordsFirsts rules.eq (certified_subjects rules messages) round round_state.certified

  -- nothing is to be recorded of a round
  pub record RecallsNothing (round : Round) : Type 0 where
    pub votes : (signer : ℕ) (kind : VoteKind) → no_slot ≡ slot_of rules.eq (valid_votes rules messages) kind round signer
    pub subjects : RecordsFirsts rules.eq (certified_subjects rules messages) round nothing_certified

  -- the state of a round, if it has one
  abbrev pub RecallsAt : Round → Option (RoundState S D P G) → Type 0
  RecallsAt round None = RecallsNothing round
  RecallsAt round (Some round_state) = RecallsRound round round_state

  -- the detector's state is that of the messages, round by round
  abbrev pub Recalls : Detector S D P G → Type 0
  Recalls detector = (round : Round) → RecallsAt round (get round_cmp detector.rounds round)

-- ---- what each call does, for every way to judge and every schedule

module _ {S D C P G : Type 0} (rules : Judging → Schedule S → Rules S D C P G) where
  -- no message was seen
  abbrev pub RecallsNone : Detector S D P G → Type 0
  RecallsNone detector = (judging : Judging) (schedule : Schedule S) → Recalls (rules judging schedule) [] detector

  -- the evidence in the valid votes of any messages whose state this is
  abbrev pub GivesEvidence : Detector S D P G → List (Equivocation D G) → Type 0
  GivesEvidence detector es = (judging : Judging) (schedule : Schedule S) (messages : List (Activity S D C P G)) →
      Recalls (rules judging schedule) messages detector →
      IsEvidence (rules judging schedule).eq (valid_votes (rules judging schedule) messages) es

  -- the number of the recorded votes of those messages, up to 2^64 - 1
  abbrev pub CountsVotes : Detector S D P G → ℕ → Type 0
  CountsVotes detector count = (judging : Judging) (schedule : Schedule S) (messages : List (Activity S D C P G)) →
      Recalls (rules judging schedule) messages detector →
      count ≡ min (votes_recorded (rules judging schedule).eq (valid_votes (rules judging schedule) messages)) (2 ^ 64 - 1)

  -- the splits of those messages, under a schedule
  abbrev pub GivesSplits : Schedule S → Detector S D P G → List Split → Type 0
  GivesSplits schedule detector splits = (judging : Judging) (messages : List (Activity S D C P G)) →
      HaveCommittees (rules judging schedule) → Recalls (rules judging schedule) messages detector →
      AreSplits (rules judging schedule) messages splits

  -- the split of a round in those messages, if it is split
  abbrev pub GivesSplit : Schedule S → Round → RoundState S D P G → Option Split → Type 0
  GivesSplit schedule round round_state split = (judging : Judging) (messages : List (Activity S D C P G)) →
      HaveCommittees (rules judging schedule) → RecallsRound (rules judging schedule) messages round round_state →
      split ≡ split_of (rules judging schedule) messages round

  -- the split of a round in those messages, if they split it
  abbrev pub GivesSplitOf : Schedule S → Round → Detector S D P G → Option Split → Type 0
  GivesSplitOf schedule round detector split = (judging : Judging) (messages : List (Activity S D C P G)) →
      HaveCommittees (rules judging schedule) → Recalls (rules judging schedule) messages detector →
      split ≡ split_of (rules judging schedule) messages round

  -- Whether one of those messages certifies a subject of a kind in a round, if they do not split the round.
  abbrev pub TellsCertified : Round → VoteKind → Detector S D P G → Option Bool → Type 0
  TellsCertified round kind detector told =
      (judging : Judging) (schedule : Schedule S) (messages : List (Activity S D C P G)) →
      Recalls (rules judging schedule) messages detector →
      told ≡ (if is_split (rules judging schedule) messages round then None
      else Some (is_some (first_certified (certified_subjects (rules judging schedule) messages) round kind)))

-- the state of some messages becomes the state of these and more messages
abbrev pub RecallsMore : {S D C P G : Type 0} → Rules S D C P G → List (Activity S D C P G) → Detector S D P G →
    Detector S D P G → Type 0
RecallsMore {S} {D} {C} {P} {G} rules more old new =
    (messages : List (Activity S D C P G)) → Recalls rules messages old → Recalls rules (messages ++ more) new

-- `news` tells whether one more message is news after any messages whose state this is
abbrev pub TellsNews : {S D C P G : Type 0} → Rules S D C P G → Activity S D C P G → Detector S D P G → Bool → Type 0
TellsNews {S} {D} {C} {P} {G} rules message old news =
    (messages : List (Activity S D C P G)) → Recalls rules messages old → news ≡ message_is_news rules messages message

-- ---- one message more

module _ {S D C P G : Type 0} (rules : Schedule S → Rules S D C P G) (committee : S) where
  -- Some votes of a round and a certificate, if there is one, are taken in. The committee of the round's epoch judges them,
  -- for any earlier valid votes and certified subjects and any other committees. `news` tells whether a valid one of the votes
  -- is news, or the certified subject.
  pub record TakesIn (round : Round) (votes : List (SignedVote D G)) (certificate : Option (SubjectValue D × C))
      (news : Bool) (old new : RoundState S D P G) : Type 0 where
    pub cast : (schedule : Schedule S) → committee_of schedule round.epoch ≡ Some committee → (vs : List (SignedVote D G)) →
        All (λ v. is_valid (rules schedule) v ≡ true) vs →
        HoldsRound (rules schedule).eq ((rules schedule).size round.epoch) vs round old.votes →
        HoldsRound (rules schedule).eq ((rules schedule).size round.epoch) (vs ++ filter (is_valid (rules schedule)) votes)
        round new.votes
    pub certified : (schedule : Schedule S) → committee_of schedule round.epoch ≡ Some committee →
        (vs : List (SignedVote D G)) (xs : List (SubjectValue D)) → All (λ v. is_valid (rules schedule) v ≡ true) vs →
        HoldsRound (rules schedule).eq ((rules schedule).size round.epoch) vs round old.votes →
        RecordsFirsts (rules schedule).eq xs round old.certified →
        RecordsFirsts (rules schedule).eq (xs ++ option_to_list (if_certified (rules schedule) certificate)) round new.certified
    pub tells : (schedule : Schedule S) → committee_of schedule round.epoch ≡ Some committee → (vs : List (SignedVote D G))
        (xs : List (SubjectValue D)) → All (λ v. is_valid (rules schedule) v ≡ true) vs →
        HoldsRound (rules schedule).eq ((rules schedule).size round.epoch) vs round old.votes →
        RecordsFirsts (rules schedule).eq xs round old.certified →
        news ≡ (have_news (rules schedule).eq vs (filter (is_valid (rules schedule)) votes)
        || subject_is_news (rules schedule).eq xs (if_certified (rules schedule) certificate))

  -- what a message holds is taken in: its votes, and its certificate if it has one
  abbrev pub TakesContents : (C → List (Attestation S P G)) → ContentsValue D C G → Bool → RoundState S D P G →
      RoundState S D P G → Type 0
  TakesContents listed held news old new =
      TakesIn (contents_round held) (contents_votes listed held) (contents_certificate held) news old new
