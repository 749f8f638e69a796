-- What a detector tells of a message that it observes, and which of its votes are gathered.
use Rattle.std.specs.Prelude.{◌≡◌, Bool, All, true, not, ◌&&◌, List, [], ◌∷◌, ◌++◌, filter, map, if◌then◌else◌, Some}
use Rattle.std.specs.Option.{is_some}
use Rattle.simplex_scheme.specs.Committees.{Schedule, committee_of}
use Rattle.simplex_scheme.specs.Subject.{SubjectValue}
use Rattle.simplex_votes.specs.Votes.{SignedVote}
use Rattle.simplex_evidence.specs.Activity.{activity_round, contents_of}
use Rattle.simplex_evidence.specs.Contents.{ContentsValue, contents_certificate, contents_round, contents_votes}
use Rattle.simplex_evidence.specs.declared.types.activity.Activity.{Activity}
use Rattle.simplex_detector.specs.Detector.{Recalls, RecallsMore, TellsNews}
use Rattle.simplex_rules.specs.FirstCertified.{RecordsFirsts, certified_subjects}
use Rattle.simplex_rules.specs.News.{kept_of, subject_is_news, vote_message}
use Rattle.simplex_rules.specs.Recorded.{news_after}
use Rattle.simplex_ballots.specs.Rounds.{HoldsRound}
use Rattle.simplex_rules.specs.Rules.{Rules, is_valid, valid_votes}
use Rattle.simplex_rules.specs.Splits.{if_certified}
use Rattle.simplex_ballots.specs.declared.apart.Apart.{Apart}
use Rattle.simplex_detector.specs.declared.detector.Detector.{Detector}
use Rattle.simplex_ballots.specs.declared.kept.Kept.{Kept}
use Rattle.simplex_detector.specs.declared.round_state.RoundState.{RoundState}
use Rattle.simplex_ballots.specs.Kept.{kept_by}

-- `told` tells what is kept of a message behind any messages whose state this is
abbrev pub TellsKept : {S D C P G : Type 0} → Rules S D C P G → Activity S D C P G → Detector S D P G → Kept S D C P G → Type 0
TellsKept {S} {D} {C} {P} {G} rules m old told =
    (messages : List (Activity S D C P G)) → Recalls rules messages old → kept_by m told ≡ kept_of rules messages m

-- the votes of what a message holds that are gathered behind others: those of a certificate whose subject is no news
abbrev pub votes_apart : {S D C P G : Type 0} → Rules S D C P G → ContentsValue D C G → List (SignedVote D G) →
    List (SubjectValue D) → List (Activity S D C P G)
votes_apart rules held vs xs =
    if is_some (contents_certificate held) && not (subject_is_news rules.eq xs (if_certified rules (contents_certificate held)))
    then map vote_message (news_after rules.eq vs (filter (is_valid rules) (contents_votes rules.listed held))) else []

-- they are gathered of what a message of a round holds, for any earlier valid votes and certified subjects and any other
-- committees
pub record GathersContents {S D C P G : Type 0} (rules : Schedule S → Rules S D C P G) (committee : S)
    (held : ContentsValue D C G) (old : RoundState S D P G) (before after : Apart S D C P G) : Type 0 where
  pub wanted : after.wanted ≡ before.wanted
  pub gathered : (schedule : Schedule S) → committee_of schedule (contents_round held).epoch ≡ Some committee →
      (vs : List (SignedVote D G)) (xs : List (SubjectValue D)) → All (λ v. is_valid (rules schedule) v ≡ true) vs →
      HoldsRound (rules schedule).eq ((rules schedule).size (contents_round held).epoch) vs (contents_round held) old.votes →
      RecordsFirsts (rules schedule).eq xs (contents_round held) old.certified →
      after.votes.items ≡ before.votes.items
      ++ (if before.wanted then votes_apart (rules schedule) held vs xs else [])

-- they are gathered of a message, behind any messages whose state this is
abbrev pub GathersMessage : {S D C P G : Type 0} → Rules S D C P G → Activity S D C P G → Detector S D P G →
    Apart S D C P G → Apart S D C P G → Type 0
GathersMessage {S} {D} {C} {P} {G} rules m old before after =
    (messages : List (Activity S D C P G)) → Recalls rules messages old →
    after.votes.items ≡ before.votes.items
    ++ (if before.wanted
    then votes_apart rules (contents_of m) (valid_votes rules messages) (certified_subjects rules messages) else [])

-- The first message of a round is recorded. The committee of the round's epoch judges it, whatever the other committees are.
pub record RecordsFirst {S D C P G : Type 0} (rules : Schedule S → Rules S D C P G) (committee : S) (m : Activity S D C P G)
    (news : Bool) (old new : Detector S D P G) (before after : Apart S D C P G) : Type 0 where
  pub records : (schedule : Schedule S) → committee_of schedule (activity_round m).epoch ≡ Some committee →
      RecallsMore (rules schedule) (m ∷ []) old new
  pub tells : (schedule : Schedule S) → committee_of schedule (activity_round m).epoch ≡ Some committee →
      TellsNews (rules schedule) m old news
  pub gathers : (schedule : Schedule S) → committee_of schedule (activity_round m).epoch ≡ Some committee →
      GathersMessage (rules schedule) m old before after
