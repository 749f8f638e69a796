-- Reports of one stream by rules that judge it alike.
use Rattle.std.proofs.Common.{◌≡◌, ℕ, List, [], ◌∷◌, length, map, refl, sym, ap, subst, arith}
use Rattle.simplex_base.specs.Format.{Format, IsLawful}
use Rattle.simplex_evidence.specs.Contradiction.{Equivocation}
use Rattle.simplex_evidence.specs.declared.types.activity.Activity.{Activity}
use Rattle.simplex_rules.specs.Evidence.{IsEvidence}
use Rattle.simplex_rules.specs.Rules.{Rules, valid_votes}
use Rattle.simplex_rules.specs.Splits.{AreSplits}
use Rattle.simplex_rules.specs.Suspects.{JudgeAlike, SuspectsSuffice}
use Rattle.simplex_rules.specs.Values.{evidence_value}
use Rattle.simplex_rules.specs.declared.split.Split.{Split}
use Rattle.simplex_audit.specs.Basis.{Basis}
use Rattle.simplex_audit.specs.Deferred.{NeedsSuspectsAlone}
use Rattle.simplex_audit.specs.Report.{IsReport, evidence_in}
use Rattle.simplex_audit.specs.declared.audit.Report.{Report}
use Rattle.simplex_audit.proofs.AccusedLemmas.{report_evidence}
use Rattle.simplex_stream.specs.StreamLaws.{messages_once}

no_items : {X : Type 0} (xs : List X) → length xs ≡ 0 → xs ≡ []
no_items [] h = refl
no_items (x ∷ xs) h = absurd (omega (arith, h))

module _ {S D C P G : Type 0} (bound : ℕ) (format : Format (Activity S D C P G)) where
  -- the basis of an audit with some rules
  abbrev pub by : Rules S D C P G → Basis S D C P G
  by rules = record { bound = bound; format = format; rules = rules }

  -- where there is no claimed evidence, the report of the claims is that of the stream
  pub nobody_reported : (rules claims : Rules S D C P G) (stream : List ℕ) (report : Report S D P G) →
      length report.evidence.items ≡ 0 →
      ((messages : List (Activity S D C P G)) (splits : List Split) → IsEvidence claims.eq (valid_votes claims messages) [] →
      AreSplits claims messages splits →
      IsEvidence rules.eq (valid_votes rules messages) [] × AreSplits rules messages splits) →
      IsReport (by claims) stream report → IsReport (by rules) stream report
  nobody_reported rules claims stream report none alike is =
      let empty : evidence_in report ≡ [] = ap (map evidence_value) (no_items report.evidence.items none) in
      let both = alike is.messages report.splits.items
      (subst (IsEvidence claims.eq (valid_votes claims is.messages)) empty is.evidence_is) is.splits_are in
      record {
        messages = is.messages;
        rest = is.rest;
        are_messages = is.are_messages;
        read_is = is.read_is;
        fault_is = is.fault_is;
        evidence_is = subst (IsEvidence rules.eq (valid_votes rules is.messages)) (sym empty) both.0;
        splits_are = both.1;
      }

  -- the report of suspects is that of the stream
  pub suspects_reported : IsLawful format → (rules claims others : Rules S D C P G) (stream : List ℕ)
      (claim report : Report S D P G) → IsReport (by claims) stream claim →
      ((messages : List (Activity S D C P G)) (es : List (Equivocation D G)) (splits : List Split) → IsEvidence claims.eq
      (valid_votes claims messages) (evidence_in claim) → IsEvidence others.eq (valid_votes others messages) es → AreSplits
      others messages splits → IsEvidence rules.eq (valid_votes rules messages) es × AreSplits rules messages splits) →
      IsReport (by others) stream report → IsReport (by rules) stream report
  suspects_reported law rules claims others stream claim report first alike is =
      let both = alike is.messages (evidence_in report) report.splits.items
      (report_evidence (by claims) law stream claim first is.messages is.rest is.are_messages) is.evidence_is is.splits_are in
      record {
        messages = is.messages;
        rest = is.rest;
        are_messages = is.are_messages;
        read_is = is.read_is;
        fault_is = is.fault_is;
        evidence_is = both.0;
        splits_are = both.1;
      }

-- a report depends on the votes of suspects and the certificates of suspect rounds alone
pub needs_suspects : {S D C P G : Type 0} (basis : Basis S D C P G) → IsLawful basis.format →
    ((messages : List (Activity S D C P G)) → SuspectsSuffice basis.rules messages) →
    (stream : List ℕ) (report : Report S D P G) → IsReport basis stream report → NeedsSuspectsAlone basis stream report
needs_suspects basis law suffice stream report is messages rest are good certified alike =
    let once = (messages_once basis.format law stream rest is.rest messages is.messages are is.are_messages).0 in
    let same = subst (λ ms. JudgeAlike basis.rules ms good certified) once alike in
    record {
      messages = is.messages;
      rest = is.rest;
      are_messages = is.are_messages;
      read_is = is.read_is;
      fault_is = is.fault_is;
      evidence_is = (suffice is.messages).evidence good certified same (evidence_in report) is.evidence_is;
      splits_are = (suffice is.messages).splits good certified same report.splits.items is.splits_are;
    }
