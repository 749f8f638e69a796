-- Which certificates and messages contradict.
use Rattle.std.specs.Prelude.{Bool, false, ◌&&◌, Option, Some}
use Rattle.simplex_base.specs.Positions.{same_round}
use Rattle.simplex_scheme.specs.Subject.{SubjectValue, round_of}
use Rattle.simplex_evidence.specs.Activity.{subject_and_certificate}
use Rattle.simplex_evidence.specs.Contradiction.{excludes}
use Rattle.simplex_evidence.specs.declared.types.activity.Activity.{Activity}

-- whether two subjects contradict: they are of one round, and exclude each other
abbrev pub subjects_contradict : {D : Type 0} → (D → D → Bool) → SubjectValue D → SubjectValue D → Bool
subjects_contradict eq x y = same_round (round_of x) (round_of y) && excludes eq x y

-- whether the subjects of two certificates contradict
abbrev pub certificates_contradict : {D C : Type 0} → (D → D → Bool) → Option (SubjectValue D × C) →
    Option (SubjectValue D × C) → Bool
certificates_contradict eq (Some a) (Some b) = subjects_contradict eq a.0 b.0
certificates_contradict _ _ _ = false

-- whether two messages contradict: both have certificates, whose subjects contradict
abbrev pub messages_contradict : {S D C P G : Type 0} → (D → D → Bool) → Activity S D C P G → Activity S D C P G → Bool
messages_contradict eq m k = certificates_contradict eq (subject_and_certificate m) (subject_and_certificate k)
