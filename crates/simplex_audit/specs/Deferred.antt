-- The basis of each reading of a deferred audit, and what its report depends on.
use Rattle.std.specs.Prelude.{ℕ, Bool, List}
use Rattle.simplex_base.specs.Format.{Readable, format_under}
use Rattle.simplex_scheme.specs.Subject.{SubjectValue}
use Rattle.simplex_evidence.specs.declared.types.activity.Activity.{Activity}
use Rattle.simplex_scheme.specs.Committees.{Schedule, bound_of}
use Rattle.simplex_rules.specs.Judging.{rules_under}
use Rattle.simplex_rules.specs.Scheme.{Scheme}
use Rattle.simplex_rules.specs.Suspects.{judged_by, JudgeAlike}
use Rattle.simplex_rules.specs.declared.judging.Judging.{Judging}
use Rattle.simplex_audit.specs.Basis.{Basis}
use Rattle.simplex_audit.specs.Guarantees.{OfMessages}
use Rattle.simplex_audit.specs.Report.{IsReport}
use Rattle.simplex_audit.specs.declared.audit.Report.{Report}

-- messages are read as in `basis_of`, and votes and certificates are judged as strictly as a `Judging` says
abbrev pub basis_under : {S D C P G : Type 0} → Readable ℕ (Activity S D C P G) → Scheme S D C P G → Judging → Schedule S →
    Basis S D C P G
basis_under message scheme judging committees = record {
  bound = bound_of scheme.keys committees;
  format = format_under message (bound_of scheme.keys committees);
  rules = rules_under scheme judging committees;
}

-- The report depends on no vote of a signer who is not suspect in its round, and on no certificate of a round in which nobody
-- is: it is the same, no matter which of these are valid.
abbrev pub NeedsSuspectsAlone : {S D C P G : Type 0} → Basis S D C P G → List ℕ → Report S D P G → Type 0
NeedsSuspectsAlone {S} {D} {C} {P} {G} basis stream report =
    OfMessages basis stream (λ messages. (good : SubjectValue D → ℕ → G → Bool) (certified : SubjectValue D → C → Bool) →
    JudgeAlike basis.rules messages good certified →
    IsReport (record basis { rules = judged_by basis.rules good certified }) stream report)
