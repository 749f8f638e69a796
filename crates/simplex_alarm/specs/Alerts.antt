-- Evidence as it arises, and what was told of it.
use Rattle.std.specs.Prelude.{◌≡◌, ℕ, Bool, true, List, [], ◌∷◌, ◌++◌, map, filter, length, All, Contains, Some}
use Rattle.std.specs.BTreeSet.{contains}
use Rattle.std.specs.Int.{from_bool}
use Rattle.std.specs.Option.{is_some}
use Rattle.std.specs.Ordering.{is_eq}
use Rattle.simplex_base.specs.Positions.{Round}
use Rattle.simplex_scheme.specs.Committees.{Schedule}
use Rattle.simplex_votes.specs.Votes.{SignedVote}
use Rattle.simplex_evidence.specs.Contradiction.{Equivocation}
use Rattle.simplex_evidence.specs.declared.types.activity.Activity.{Activity}
use Rattle.simplex_rules.specs.Accusation.{Accusation, accused_by, accused_cmp, key_cmp, key_of}
use Rattle.simplex_detector.specs.Detector.{Recalls}
use Rattle.simplex_rules.specs.Evidence.{evidence_of}
use Rattle.simplex_rules.specs.Independence.{evidence_within, in_rounds, is_from}
use Rattle.simplex_rules.specs.Rules.{Rules, valid_votes}
use Rattle.simplex_rules.specs.Values.{evidence_value}
use Rattle.simplex_alarm.specs.declared.alerts.Alerts.{Alerts}
use Rattle.simplex_detector.specs.declared.detector.Detector.{Detector}
use Rattle.simplex_rules.specs.declared.judging.Judging.{Judging}

-- ---- what was told

-- how many of some evidence make an accusation
abbrev pub times_accused : {D G : Type 0} → List (Equivocation D G) → Accusation → ℕ
times_accused es n = length (filter (λ e. is_eq (accused_cmp (accused_by e) n)) es)

-- some evidence is exactly that of votes, each once, in any order
pub record IsEachOnce {D G : Type 0} (eq : D → D → Bool) (vs : List (SignedVote D G)) (es : List (Equivocation D G)) :
    Type 0 where
  pub sound : All (λ e. evidence_of eq vs (accused_by e) ≡ Some e) es
  pub once : (n : Accusation) → times_accused es n ≡ from_bool (is_some (evidence_of eq vs n))

-- the evidence that was not told yet
abbrev pub untold : {S D P G : Type 0} → Alerts S D P G → List (Equivocation D G)
untold alerts = map evidence_value alerts.untold.items

-- whether evidence of an accusation arose, told or not
abbrev pub has_arisen : {S D P G : Type 0} → Alerts S D P G → Accusation → Bool
has_arisen alerts n = contains key_cmp alerts.accused (key_of n)

-- what was told of some votes, and what was not, are the evidence of these votes, each once
pub record Tells {S D P G : Type 0} (eq : D → D → Bool) (vs : List (SignedVote D G)) (told : List (Equivocation D G))
    (alerts : Alerts S D P G) : Type 0 where
  pub arisen : (n : Accusation) → has_arisen alerts n ≡ is_some (evidence_of eq vs n)
  pub all : IsEachOnce eq vs (told ++ untold alerts)

-- ---- what each call does, for every way to judge and every schedule

module _ {S D C P G : Type 0} (rules : Judging → Schedule S → Rules S D C P G) where
  -- no message was seen, and nothing told
  abbrev pub TellsNone : Alerts S D P G → Type 0
  TellsNone alerts = (judging : Judging) (schedule : Schedule S) → Tells (rules judging schedule).eq
      (valid_votes (rules judging schedule) []) [] alerts

-- the untold evidence is told, and none is left
pub record TellsUntold {S D P G : Type 0} (taken : List (Equivocation D G)) (old new : Alerts S D P G) : Type 0 where
  pub taken_is : taken ≡ untold old
  pub none_left : untold new ≡ []
  pub tells : (eq : D → D → Bool) (vs : List (SignedVote D G)) (told : List (Equivocation D G)) → Tells eq vs told old →
      Tells eq vs (told ++ taken) new

-- what is below a floor is given up
abbrev pub TellsFrom : {S D C P G : Type 0} → Rules S D C P G → Round → Alerts S D P G → Alerts S D P G → Type 0
TellsFrom {S} {D} {C} {P} {G} rules floor old new =
    (messages : List (Activity S D C P G)) (told : List (Equivocation D G)) →
    Tells rules.eq (valid_votes rules messages) told old →
    Tells rules.eq (valid_votes (in_rounds (is_from floor) rules) messages) (evidence_within (is_from floor) told) new

-- ---- inside

-- what was told, and what was not, is evidence of the votes, each once, and no other arose
pub record TellsSome {S D P G : Type 0} (eq : D → D → Bool) (vs : List (SignedVote D G)) (told : List (Equivocation D G))
    (alerts : Alerts S D P G) : Type 0 where
  pub arisen : (n : Accusation) → has_arisen alerts n ≡ true → is_some (evidence_of eq vs n) ≡ true
  pub sound : All (λ e. evidence_of eq vs (accused_by e) ≡ Some e) (told ++ untold alerts)
  pub once : (n : Accusation) → times_accused (told ++ untold alerts) n ≡ from_bool (has_arisen alerts n)

-- some evidence is noted, where it has not arisen before
pub record NotesAll {S D P G : Type 0} (es : List (Equivocation D G)) (old new : Alerts S D P G) : Type 0 where
  pub added : (eq : D → D → Bool) (vs : List (SignedVote D G)) (told : List (Equivocation D G)) →
      All (λ e. evidence_of eq vs (accused_by e) ≡ Some e) es → TellsSome eq vs told old → TellsSome eq vs told new
  pub stay : (n : Accusation) → has_arisen old n ≡ true → has_arisen new n ≡ true
  pub noted : (e : Equivocation D G) → Contains es e → has_arisen new (accused_by e) ≡ true

-- one message more, which the detector has observed, for every way to judge and every schedule
abbrev pub NotesMessage : {S D C P G : Type 0} → (Judging → Schedule S → Rules S D C P G) → Detector S D P G →
    Activity S D C P G → Alerts S D P G → Alerts S D P G → Type 0
NotesMessage {S} {D} {C} {P} {G} rules detector message old new =
    (judging : Judging) (schedule : Schedule S) (messages : List (Activity S D C P G))
    (told : List (Equivocation D G)) → Recalls (rules judging schedule) (messages ++ message ∷ []) detector →
    Tells (rules judging schedule).eq (valid_votes (rules judging schedule) messages) told old →
    Tells (rules judging schedule).eq (valid_votes (rules judging schedule) (messages ++ message ∷ [])) told new
