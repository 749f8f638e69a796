-- What an auditor stands for from a floor on, and what its report has of the report of the whole stream.
use Rattle.std.proofs.Common.{◌≡◌, ℕ, Bool, List, length, sym, ap, subst, ◌∙◌}
use Rattle.std.specs.Ordering.{ord_max}
use Rattle.simplex_base.specs.Format.{IsLawful}
use Rattle.simplex_base.specs.Positions.{Round}
use Rattle.simplex_evidence.specs.declared.types.activity.Activity.{Activity}
use Rattle.simplex_rules.specs.Accusation.{round_cmp}
use Rattle.simplex_scheme.specs.Committees.{Schedule}
use Rattle.simplex_detector.specs.Detector.{Recalls}
use Rattle.simplex_rules.specs.Independence.{FloorsRise, RoundsAreIndependent, evidence_within, first_round, in_rounds, is_from, splits_within}
use Rattle.simplex_rules.specs.Rules.{Rules, valid_votes}
use Rattle.simplex_detector.specs.declared.detector.Detector.{Detector}
use Rattle.simplex_stream.specs.StreamLaws.{messages_once}
use Rattle.simplex_audit.specs.Auditor.{StandsFrom}
use Rattle.simplex_audit.specs.Basis.{Basis, basis_from}
use Rattle.simplex_audit.specs.MessageLaws.{MessageLaws}
use Rattle.simplex_audit.specs.Report.{IsPartFrom, IsReport, evidence_in}
use Rattle.simplex_audit.specs.declared.audit.Report.{Report}
use Rattle.simplex_audit.specs.declared.auditor.Auditor.{Auditor}
use Rattle.simplex_audit.proofs.AccusedLemmas.{report_evidence, report_splits}

-- from the first round on all is judged
pub from_first : {S D C P G : Type 0} (basis : Basis S D C P G) → FloorsRise basis.rules → basis_from first_round basis ≡ basis
from_first basis floors = λ i. record { bound = basis.bound; format = basis.format; rules = floors.first i }

-- a report from a floor on is the report of the whole stream, less what is below the floor
pub part_of_whole : {S D C P G : Type 0} (basis : Basis S D C P G) (floor : Round) (stream : List ℕ)
    (report whole : Report S D P G) → IsLawful basis.format → MessageLaws (basis_from floor basis).rules →
    ((rules : Rules S D C P G) (messages : List (Activity S D C P G)) (part : Round → Bool) →
    RoundsAreIndependent rules messages part) →
    IsReport (basis_from floor basis) stream report → IsReport basis stream whole → IsPartFrom floor whole report
part_of_whole basis floor stream report whole law laws independent is all =
    let judged = (basis_from floor basis).rules in
    let ms = is.messages in
    let are = is.are_messages in
    let parts = independent basis.rules ms (is_from floor) in
    record {
      read = is.read_is ∙ sym (all.read_is ∙ ap length
          (messages_once basis.format law stream all.rest is.rest all.messages ms all.are_messages are).0);
      evidence = laws.only (valid_votes judged ms) (evidence_in report) is.evidence_is
          (evidence_within (is_from floor) (evidence_in whole))
          (parts.evidence (evidence_in whole) (report_evidence basis law stream whole all ms is.rest are));
      splits = laws.only_splits ms report.splits.items is.splits_are
          (splits_within (is_from floor) whole.splits.items)
          (parts.splits whole.splits.items (report_splits basis law stream whole all ms is.rest are));
    }

-- an auditor that gives up what is below a floor stands for the same stream from the higher floor on
pub stands_pruned : {S D C P G : Type 0} (basis : Schedule S → Basis S D C P G) (old : Auditor S D P G)
    (floor highest : Round) (detector : Detector S D P G) → highest ≡ ord_max round_cmp old.floor floor →
    ((rules : Rules S D C P G) → FloorsRise rules) →
    ((rules : Rules S D C P G) (messages : List (Activity S D C P G)) → Recalls rules messages old.detector →
    Recalls (in_rounds (is_from floor) rules) messages detector) →
    (low : Round) (committees : Schedule S) (stream : List ℕ) → StandsFrom low basis committees old stream →
    StandsFrom (ord_max round_cmp low floor) basis committees (record old { floor = highest; detector = detector }) stream
stands_pruned basis old floor highest detector top rise prunes low committees stream h =
    let rules = (basis committees).rules in
    record {
      floor_is = top ∙ ap (λ f. ord_max round_cmp f floor) h.floor_is;
      committees_are = h.committees_are;
      bound_is = h.bound_is;
      readable = h.readable;
      lawful = h.lawful;
      messages = h.messages;
      decoded = h.decoded;
      recorded = subst (λ r. Recalls r h.messages detector) ((rise rules).higher low floor)
          (prunes (in_rounds (is_from low) rules) h.messages h.recorded);
    }
