-- Which two votes no honest participant casts both, and the evidence of them.
use Rattle.std.specs.Prelude.{Bool, true, false, not, ◌&&◌}
use Rattle.simplex_scheme.specs.declared.kind.VoteKind.{VoteKind}
use Rattle.simplex_scheme.specs.declared.kind.VoteKind.TheVariants as kinds
use Rattle.simplex_scheme.specs.Kind.{kind_of, same_kind}
use Rattle.simplex_scheme.specs.Subject.{SubjectValue, Notarizes, Nullifies, Finalizes, round_of}
use Rattle.simplex_votes.specs.Votes.{SignedVote, is_of, same_proposal}

-- whether two subjects of one round exclude each other: two proposals to notarize or two to finalize that differ, or
-- to nullify the round and to finalize a proposal. `eq` compares payloads
abbrev pub excludes : {D : Type 0} → (D → D → Bool) → SubjectValue D → SubjectValue D → Bool
excludes eq (Notarizes p) (Notarizes q) = not (same_proposal eq p q)
excludes eq (Finalizes p) (Finalizes q) = not (same_proposal eq p q)
excludes eq (Nullifies r) (Finalizes q) = true
excludes eq (Finalizes p) (Nullifies r) = true
excludes _ _ _ = false

-- the three kinds of equivocation
pub data EquivocationKind : Type 0 where
  Conflicting_notarize : EquivocationKind
  Conflicting_finalize : EquivocationKind
  Nullify_finalize : EquivocationKind

-- the kind of the first of two votes of such evidence
abbrev pub first_kind : EquivocationKind → VoteKind
first_kind Conflicting_notarize = kinds.Notarize
first_kind Conflicting_finalize = kinds.Finalize
first_kind Nullify_finalize = kinds.Nullify

-- the kind of the second
abbrev pub second_kind : EquivocationKind → VoteKind
second_kind Conflicting_notarize = kinds.Notarize
second_kind Conflicting_finalize = kinds.Finalize
second_kind Nullify_finalize = kinds.Finalize

-- whether subjects of one round clash in that way, in this order: they are of its kinds, and exclude each other
abbrev pub clash : {D : Type 0} → (D → D → Bool) → EquivocationKind → SubjectValue D → SubjectValue D → Bool
clash eq way x y = same_kind (kind_of x) (first_kind way) && (same_kind (kind_of y) (second_kind way) && excludes eq x y)

-- whether two votes contradict with that kind: one round, one signer, and subjects that clash
abbrev pub contradicts : {D G : Type 0} → (D → D → Bool) → EquivocationKind → SignedVote D G → SignedVote D G → Bool
contradicts eq kind v w = is_of (round_of v.subject) v.signer w && clash eq kind v.subject w.subject

-- two votes, and the kind of their contradiction
pub record Equivocation (D G : Type 0) : Type 0 where
  pub kind : EquivocationKind
  pub first : SignedVote D G
  pub second : SignedVote D G
