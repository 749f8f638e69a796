use Rattle.std.proofs.Common.{sym, subst}
use Rattle.std.specs.Prelude.{All}
use Rattle.simplex_rules.specs.Evidence.{IsEquivocation, IsEvidence}
use Rattle.simplex_rules.specs.Laws.{AccusesExactly, EvidenceIsUnique}
use Rattle.simplex_audit.proofs.laws.message_laws.Goals as goal

pub returns : goal.returns
returns g c rules same = record {
  any_order = c.accused_stay.ensures.any_order rules;
  later = c.accused_stay.ensures.later rules;
  names = λ vs es. subst (λ eq. IsEvidence eq vs es → AccusesExactly eq vs es) (sym same)
      (c.evidence_is_determined.ensures.names vs es);
  sound = λ vs es. subst (λ eq. IsEvidence eq vs es → All (IsEquivocation eq vs) es) (sym same)
      (c.evidence_is_determined.ensures.sound vs es);
  only = λ vs es. subst (λ eq. IsEvidence eq vs es → EvidenceIsUnique eq vs es) (sym same)
      (c.evidence_is_determined.ensures.only vs es);
  again = c.evidence_is_determined.ensures.again rules;
  enough = c.certificates_are_accountable.ensures.enough rules;
  signers = c.certificates_are_accountable.ensures.signers rules;
  only_splits = c.splits_are_determined.ensures.only rules;
  split_accused = c.splits_are_determined.ensures.names rules;
}
