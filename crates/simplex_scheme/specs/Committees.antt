-- Which committee judges the messages of an epoch.
use Rattle.std.specs.Prelude.{⊤, ℕ, ◌<◌, ◌==◌, ◌≢◌, Bool, false, List, [], ◌∷◌, length, max, Option, Some, None, option_map, true}
use Rattle.std.specs.List.{AllPairs, find}
use Rattle.simplex_scheme.specs.Subject.{SubjectValue}
use Rattle.simplex_scheme.specs.declared.committees.Entries.{Entries}
use Rattle.simplex_scheme.specs.declared.committees.Entries.TheVariants as entries
use Rattle.simplex_scheme.specs.declared.committees.CommitteesError.{CommitteesError}
use Rattle.simplex_scheme.specs.declared.committees.CommitteesError.TheVariants.{Empty, Unordered}

-- one committee for every epoch, or one for each listed epoch
pub data Schedule (S : Type 0) : Type 0 where
  Every : S → Schedule S
  Listed : List (ℕ × S) → Schedule S

-- the epochs rise strictly
abbrev pub AreRising : {S : Type 0} → List (ℕ × S) → Type 0
AreRising pairs = AllPairs (λ p q. p.0 < q.0) pairs

-- some epoch is listed, and the epochs rise strictly
abbrev pub IsSchedule : {S : Type 0} → Schedule S → Type 0
IsSchedule (Every committee) = ⊤
IsSchedule (Listed pairs) = (pairs ≢ []) × AreRising pairs

-- the committee of an epoch, if it has one
abbrev pub committee_of : {S : Type 0} → Schedule S → ℕ → Option S
committee_of (Every committee) epoch = Some committee
committee_of (Listed pairs) epoch = option_map (λ p. p.1) (find (λ p. p.0 == epoch) pairs)

-- the size of a committee, 0 where there is none
abbrev pub size_by : {S P : Type 0} → (S → List P) → Option S → ℕ
size_by keys None = 0
size_by keys (Some committee) = length (keys committee)

-- the greatest size of the committees
abbrev pub greatest : {S P : Type 0} → (S → List P) → List (ℕ × S) → ℕ
greatest keys [] = 0
greatest keys (p ∷ pairs) = max (length (keys p.1)) (greatest keys pairs)

abbrev pub bound_of : {S P : Type 0} → (S → List P) → Schedule S → ℕ
bound_of keys (Every committee) = length (keys committee)
bound_of keys (Listed pairs) = greatest keys pairs

-- whether a signature is valid under a committee. Without a committee none is
abbrev pub valid_by : {S D G : Type 0} → (S → SubjectValue D → ℕ → G → Bool) → Option S → SubjectValue D → ℕ → G → Bool
valid_by good None x signer signature = false
valid_by good (Some committee) x signer signature = good committee x signer signature

-- whether a certificate certifies under a committee. Without a committee none does
abbrev pub certified_by : {S D C : Type 0} → (S → SubjectValue D → C → Bool) → Option S → SubjectValue D → C → Bool
certified_by certified None x certificate = false
certified_by certified (Some committee) x certificate = certified committee x certificate

abbrev pub schedule_of : {S : Type 0} → Entries S → Schedule S
schedule_of (entries.Every committee) = Every committee
schedule_of (entries.Listed pairs) = Listed pairs.items

abbrev pub same_refusal : CommitteesError → CommitteesError → Bool
same_refusal Empty Empty = true
same_refusal Unordered Unordered = true
same_refusal _ _ = false
