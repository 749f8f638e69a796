use Rattle.std.proofs.Common.{arith, refl}
use Rattle.simplex_scheme.proofs.SetLemmas.{kept_ascends, kept_permutes, given_distinct, given_repeats}
use Rattle.simplex_scheme.proofs.set.Set.try_from_vec.Goals as goal

-- fewer keys are left than were given
pub returns-then-len-given-clause-distinct : goal.returns-then-len-given-clause-distinct
returns-then-len-given-clause-distinct g c = (
  λ never. absurd (cc),
  λ apart. absurd (given_repeats g.met.K.Ord.total g.met.K.Ord.matches_eq _ _ _ c.sort_unstable.ensures.permutation
      c.dedup.ensures.filtered (omega arith) apart),
)

-- as many keys are left as were given
pub invariant_of-result : goal.invariant_of-result
invariant_of-result g c =
    kept_ascends g.met.K.Ord.total g.met.K.Ord.matches_eq _ _ _ c.sort_unstable.ensures.permutation c.dedup.ensures.filtered
    c.sort_unstable.ensures.sorted

pub returns-clause-same : goal.returns-clause-same
returns-clause-same g c =
    kept_permutes g.met.K.Ord.total g.met.K.Ord.matches_eq _ _ _ c.sort_unstable.ensures.permutation c.dedup.ensures.filtered
    (omega arith)

pub returns-clause-ascending : goal.returns-clause-ascending
returns-clause-ascending g c =
    kept_ascends g.met.K.Ord.total g.met.K.Ord.matches_eq _ _ _ c.sort_unstable.ensures.permutation c.dedup.ensures.filtered
    c.sort_unstable.ensures.sorted

pub returns-clause-distinct : goal.returns-clause-distinct
returns-clause-distinct g c = (
  λ _. given_distinct g.met.K.Ord.total g.met.K.Ord.matches_eq _ _ _ c.sort_unstable.ensures.permutation
      c.dedup.ensures.filtered c.sort_unstable.ensures.sorted (omega arith),
  λ _. refl,
)
