-- The committee of some keys, by the plain scheme.
use Rattle.std.specs.Cmp.Lexicographic.{slice_cmp}
use Rattle.std.specs.List.Sorted.{IsStrictlySortedBy}
use Rattle.std.specs.Ordering.{nat_cmp}
use Rattle.std.specs.Prelude.{◌≡◌, ◌≢◌, ℕ, ◌<◌, ◌≤◌, ◌^◌, List, length, None, AllPairs, IsPermutation}
use Rattle.simplex_scheme.specs.Namespace.{names_of}
use Rattle.simplex_schemes.specs.Plain.{PlainScheme}

-- The keys are those of a committee: at least one, fewer than 2^32, and none twice.
pub record AreCommitteeKeys (keys : List (List ℕ)) : Type 0 where
  pub some : 1 ≤ length keys
  pub few : length keys < 2 ^ 32
  pub distinct : AllPairs (λ a b. a ≢ b) keys

-- The committee of these keys: a participant's number is the place of its key among them in ascending order, and votes are
-- signed under the namespaces of this base.
pub record IsPlainCommittee (namespace : List ℕ) (keys : List (List ℕ)) (committee : PlainScheme) : Type 0 where
  pub are_keys : AreCommitteeKeys keys
  pub same : IsPermutation keys committee.keys
  pub ascending : IsStrictlySortedBy (slice_cmp nat_cmp) committee.keys
  pub names_are : committee.names ≡ names_of namespace
  pub verifies : committee.me ≡ None
