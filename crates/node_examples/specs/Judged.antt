-- A scheme by verdicts: the caller found elsewhere which signatures are valid.
use Rattle.std.specs.Prelude.{ℕ, ◌==◌, ◌&&◌, Bool, List, length, nat_lt, Option, None}
use Rattle.std.specs.List.{list_any}
use Rattle.std.specs.Str.{bytes_eq}
use Rattle.simplex_base.specs.Format.{Format}
use Rattle.simplex_scheme.specs.Kind.{kind_of, same_kind}
use Rattle.simplex_scheme.specs.Subject.{SubjectValue, message_of}
use Rattle.node_examples.specs.declared.judged.Verdict.{Verdict}

-- the keys of a committee, and the signatures that were found valid
pub record JudgedScheme : Type 0 where
  pub keys : List (List ℕ)
  pub verdicts : List Verdict

-- who signs here
abbrev pub nobody : Option ℕ
nobody = None

-- whether a verdict is on this signature of this signer for the subject
abbrev pub is_on : {D : Type 0} → Format D → SubjectValue D → ℕ → List ℕ → Verdict → Bool
is_on payload subject signer signature v =
    same_kind v.vote (kind_of subject)
    && ((v.signer == signer) && (bytes_eq v.signature signature && bytes_eq v.message.items (message_of payload subject)))

-- the signer is in the committee, and there is a verdict
abbrev pub judged_good : {D : Type 0} → Format D → JudgedScheme → SubjectValue D → ℕ → List ℕ → Bool
judged_good payload scheme subject signer signature =
    nat_lt signer (length scheme.keys) && list_any (is_on payload subject signer signature) scheme.verdicts
