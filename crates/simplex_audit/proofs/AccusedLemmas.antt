-- What a report states of the messages of its stream.
use Rattle.std.proofs.Common.{ℕ, List, ◌++◌, subst, sym, Result, Ok, Err, IfOk}
use Rattle.std.specs.Prelude.{All, IsTrue}
use Rattle.simplex_base.specs.Format.{Format, IsLawful}
use Rattle.simplex_evidence.specs.declared.types.activity.Activity.{Activity}
use Rattle.simplex_rules.specs.Evidence.{IsEvidence}
use Rattle.simplex_rules.specs.Accusation.{Accusation, is_accused}
use Rattle.simplex_rules.specs.Rules.{Rules, AreLawful, valid_votes}
use Rattle.simplex_rules.specs.Splits.{AreSplits}
use Rattle.simplex_audit.specs.Basis.{Basis}
use Rattle.simplex_audit.specs.Guarantees.{IsAudit}
use Rattle.simplex_audit.specs.MessageLaws.{MessageLaws}
use Rattle.simplex_stream.specs.Messages.{AreMessages}
use Rattle.simplex_audit.specs.Report.{IsReport, as_messages, evidence_in}
use Rattle.simplex_audit.specs.declared.audit.Report.{Report}
use Rattle.simplex_stream.specs.StreamLaws.{IsNeverEmpty, are_joined, messages_once, messages_continue}

-- what follows from a result
pub if_ok : {X E : Type 0} (Given Wanted : X → Type 0) → ((x : X) → Given x → Wanted x) → (r : Result X E) → IfOk r Given →
    IfOk r Wanted
if_ok Given Wanted f (Ok x) h = f x h
if_ok Given Wanted f (Err e) h = tt

-- what follows from two clauses on a result
pub if_both : {X E : Type 0} (Given Also Wanted : X → Type 0) → ((x : X) → Given x → Also x → Wanted x) → (r : Result X E) →
    IfOk r Given → IfOk r Also → IfOk r Wanted
if_both Given Also Wanted f (Ok x) h k = f x h k
if_both Given Also Wanted f (Err e) h k = tt

-- the evidence of a report is that of any list of the stream's messages
pub report_evidence : {S D C P G : Type 0} (basis : Basis S D C P G) → IsLawful basis.format →
    (stream : List ℕ) (report : Report S D P G) → IsReport basis stream report →
    (messages : List (Activity S D C P G)) (rest : List ℕ) → AreMessages basis.format stream messages rest →
    IsEvidence basis.rules.eq (valid_votes basis.rules messages) (evidence_in report)
report_evidence basis law stream report is messages rest are =
    subst (λ ms. IsEvidence basis.rules.eq (valid_votes basis.rules ms) (evidence_in report))
    (messages_once basis.format law stream is.rest rest is.messages messages is.are_messages are).0 is.evidence_is

-- and so are the splits
pub report_splits : {S D C P G : Type 0} (basis : Basis S D C P G) → IsLawful basis.format →
    (stream : List ℕ) (report : Report S D P G) → IsReport basis stream report →
    (messages : List (Activity S D C P G)) (rest : List ℕ) → AreMessages basis.format stream messages rest →
    AreSplits basis.rules messages report.splits.items
report_splits basis law stream report is messages rest are =
    subst (λ ms. AreSplits basis.rules ms report.splits.items)
    (messages_once basis.format law stream is.rest rest is.messages messages is.are_messages are).0 is.splits_are

-- an accused signer stays accused in the stream with anything appended
pub accused_stay : {S D C P G : Type 0} (format : Format (Activity S D C P G)) (rules : Rules S D C P G) → IsLawful format →
    MessageLaws rules → (stream more rest left : List ℕ) (messages later : List (Activity S D C P G)) →
    AreMessages format stream messages rest → AreMessages format (stream ++ more) later left →
    (n : Accusation) → IsTrue (is_accused rules.eq (valid_votes rules messages) n) →
    IsTrue (is_accused rules.eq (valid_votes rules later) n)
accused_stay format rules law laws stream more rest left messages later are are' n h =
    let c = messages_continue format law stream more rest left messages later are are' in
    subst (λ ms. IsTrue (is_accused rules.eq (valid_votes rules ms) n)) (sym c.same) (laws.later messages c.further n h)

-- the report of a stream, whose evidence can be encoded, is that of an audit
pub audited : {S D C P G : Type 0} (basis : Basis S D C P G) → IsLawful basis.format → IsNeverEmpty basis.format →
    AreLawful basis.rules → MessageLaws basis.rules →
    (stream : List ℕ) (report : Report S D P G) → IsReport basis stream report →
    All basis.format.is_value (as_messages report) → IsAudit basis stream report
audited basis law some lawful laws stream report is each =
    let of_evidence = report_evidence basis law stream report is in
    let of_splits = report_splits basis law stream report is in
    record {
      report_is = is;
      single = λ messages others rest left are are'. messages_once basis.format law stream rest left messages others are are';
      names = λ messages rest are.
          laws.names (valid_votes basis.rules messages) (evidence_in report) (of_evidence messages rest are);
      sound = λ messages rest are.
          laws.sound (valid_votes basis.rules messages) (evidence_in report) (of_evidence messages rest are);
      only = λ messages rest are.
          laws.only (valid_votes basis.rules messages) (evidence_in report) (of_evidence messages rest are);
      any_order = laws.any_order;
      stays = λ more n messages rest are later left are'.
          accused_stay basis.format basis.rules law laws stream more rest left messages later are are' n;
      enough = λ messages rest are. laws.enough messages lawful;
      splits = record {
        are_splits = of_splits;
        only = λ messages rest are. laws.only_splits messages report.splits.items (of_splits messages rest are);
        enough = laws.split_accused is.messages report.splits.items lawful is.splits_are;
      };
      accountable = λ messages rest are. laws.signers messages lawful;
      again = record {
        stream = are_joined basis.format some (as_messages report) each;
        evidence = laws.again is.messages report.evidence.items lawful is.evidence_is;
      };
    }
