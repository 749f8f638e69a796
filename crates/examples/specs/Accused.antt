-- Whom a stream accuses under one committee.
use Rattle.std.specs.Prelude.{◌≡◌, ℕ, List, map}
use Rattle.simplex_base.specs.Positions.{Round}
use Rattle.simplex_schemes.specs.Plain.{PlainScheme}
use Rattle.simplex_schemes.specs.PlainCommittee.{IsPlainCommittee}
use Rattle.simplex_scheme.specs.Subject.{round_of}
use Rattle.simplex_scheme.specs.Committees.{Schedule, Every}
use Rattle.simplex_rules.specs.Values.{evidence_value}
use Rattle.simplex_rules.specs.declared.evidence.Evidence.{Evidence}
use Rattle.simplex_audit.specs.Basis.{Basis}
use Rattle.simplex_audit.specs.Report.{IsReport}
use Rattle.simplex_audit.specs.declared.audit.Report.{Report}

-- the round and the signer of both votes of an evidence
abbrev pub round_and_signer : {S D P G : Type 0} → Evidence S D P G → Round × ℕ
round_and_signer evidence = (round_of (evidence_value evidence).first.subject, (evidence_value evidence).first.signer)

-- `accused` are the rounds and the signers of the evidence of the stream's report, in its order, where the committee of the
-- keys judges every epoch. `basis` gives how messages are read and judged under committees.
pub record AreAccused {C : Type 0} (basis : Schedule PlainScheme → Basis PlainScheme (List ℕ) C (List ℕ) (List ℕ))
    (namespace : List ℕ) (keys : List (List ℕ)) (stream : List ℕ) (accused : List (Round × ℕ)) : Type 0 where
  pub committee : PlainScheme
  pub report : Report PlainScheme (List ℕ) (List ℕ) (List ℕ)
  pub committee_is : IsPlainCommittee namespace keys committee
  pub report_is : IsReport (basis (Every committee)) stream report
  pub accused_are : accused ≡ map round_and_signer report.evidence.items
