-- The kinds of votes.
use Rattle.std.specs.Prelude.{ℕ, Bool, true, false, List, codes}
use Rattle.simplex_scheme.specs.Subject.{SubjectValue, Notarizes, Nullifies, Finalizes}
use Rattle.simplex_scheme.specs.declared.kind.VoteKind.{VoteKind}
use Rattle.simplex_scheme.specs.declared.kind.VoteKind.TheVariants as kinds

-- the kind of the votes on a subject
abbrev pub kind_of : {D : Type 0} → SubjectValue D → VoteKind
kind_of (Notarizes p) = kinds.Notarize
kind_of (Nullifies r) = kinds.Nullify
kind_of (Finalizes p) = kinds.Finalize

-- whether two kinds are one
abbrev pub same_kind : VoteKind → VoteKind → Bool
same_kind kinds.Notarize kinds.Notarize = true
same_kind kinds.Nullify kinds.Nullify = true
same_kind kinds.Finalize kinds.Finalize = true
same_kind _ _ = false

-- the word for a kind
abbrev pub kind_word : VoteKind → List ℕ
kind_word kinds.Notarize = codes "notarize"
kind_word kinds.Nullify = codes "nullify"
kind_word kinds.Finalize = codes "finalize"
