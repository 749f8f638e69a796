-- Which certified subjects are recorded: the first certified subject of each round and kind, and which rounds
-- are split.
use Rattle.std.specs.Prelude.{◌≡◌, Bool, false, not, ◌&&◌, ◌||◌, List, Option, Some, None, option_map, if◌then◌else◌}
use Rattle.std.specs.List.{find, filter_map, list_any}
use Rattle.std.specs.Option.{is_none, option_or}
use Rattle.simplex_base.specs.Positions.{Round, same_round}
use Rattle.simplex_scheme.specs.declared.kind.VoteKind.{VoteKind}
use Rattle.simplex_scheme.specs.declared.kind.VoteKind.TheVariants as kinds
use Rattle.simplex_scheme.specs.Kind.{kind_of, same_kind}
use Rattle.simplex_scheme.specs.Subject.{SubjectValue, Notarizes, Nullifies, Finalizes, round_of}
use Rattle.simplex_evidence.specs.declared.types.activity.Activity.{Activity}
use Rattle.simplex_evidence.specs.Contradiction.{excludes}
use Rattle.simplex_rules.specs.Certificates.{subjects_contradict}
use Rattle.simplex_rules.specs.Rules.{Rules}
use Rattle.simplex_rules.specs.Splits.{certified_in}
use Rattle.simplex_rules.specs.declared.certified_subjects.CertifiedSubjects.{CertifiedSubjects}

-- what the messages certify, in their order
abbrev pub certified_subjects : {S D C P G : Type 0} → Rules S D C P G → List (Activity S D C P G) → List (SubjectValue D)
certified_subjects rules messages = filter_map (certified_in rules) messages

-- whether two of the subjects, of this round, contradict
abbrev pub are_split : {D : Type 0} → (D → D → Bool) → List (SubjectValue D) → Round → Bool
are_split eq subjects round =
    list_any (λ x. same_round (round_of x) round && list_any (subjects_contradict eq x) subjects) subjects

-- the first of the subjects of this round and kind
abbrev pub first_certified : {D : Type 0} → List (SubjectValue D) → Round → VoteKind → Option (SubjectValue D)
first_certified subjects round kind = find (λ x. same_kind (kind_of x) kind && same_round (round_of x) round) subjects

-- whether a subject excludes an earlier one, if there is one
abbrev pub excludes_first : {D : Type 0} → (D → D → Bool) → Option (SubjectValue D) → SubjectValue D → Bool
excludes_first eq None y = false
excludes_first eq (Some x) y = excludes eq x y

-- whether a subject excludes the first of some kind
abbrev pub excludes_some : {D : Type 0} → (D → D → Bool) → (VoteKind → Option (SubjectValue D)) → SubjectValue D → Bool
excludes_some eq first y =
    excludes_first eq (first kinds.Notarize) y
    || (excludes_first eq (first kinds.Nullify) y || excludes_first eq (first kinds.Finalize) y)

-- nothing is certified
abbrev pub nothing_certified : {D : Type 0} → CertifiedSubjects D
nothing_certified = record { notarized = None; nullified = None; finalized = None; split = false }

-- the recorded first certified subject of each kind
abbrev pub firsts_of : {D : Type 0} → CertifiedSubjects D → VoteKind → Option (SubjectValue D)
firsts_of recorded kinds.Notarize = option_map Notarizes recorded.notarized
firsts_of recorded kinds.Nullify = option_map Nullifies recorded.nullified
firsts_of recorded kinds.Finalize = option_map Finalizes recorded.finalized

-- the record of a round is determined by the subjects certified so far: whether they split it, and until they do, the first
-- of each kind
pub record RecordsFirsts {D : Type 0} (eq : D → D → Bool) (subjects : List (SubjectValue D)) (round : Round)
    (recorded : CertifiedSubjects D) : Type 0 where
  pub split : recorded.split ≡ are_split eq subjects round
  pub firsts : recorded.split ≡ false → (kind : VoteKind) → firsts_of recorded kind ≡ first_certified subjects round kind

-- the first of a kind, after one more subject
abbrev pub first_with : {D : Type 0} → SubjectValue D → VoteKind → Option (SubjectValue D) → Option (SubjectValue D)
first_with y kind first = if same_kind (kind_of y) kind then option_or first (Some y) else first

-- whether one more certified subject changes what is recorded of its round: the round is not split, and the subject is the
-- first of its kind or splits it
abbrev pub changes_firsts : {D : Type 0} → (D → D → Bool) → (VoteKind → Option (SubjectValue D)) → Bool → SubjectValue D → Bool
changes_firsts eq first split y = not split && (is_none (first (kind_of y)) || excludes_some eq first y)
