use Rattle.simplex_rules.proofs.Prelude.{All, IsEncoded, evidence_value, fixed, map}
use Rattle.simplex_detector.proofs.ReportLemmas.{Walked}
use Rattle.simplex_detector.proofs.detector.Detector.evidence.Given as goal

abbrev pub invariant-rounds : goal.invariant-rounds
invariant-rounds g l = record {
  walked : Walked g.D.PartialEq.eq l.self.rounds l.round_state-iterator (map evidence_value l.found.items);
  encoded : All (IsEncoded g.D.PartialEq.eq (fixed g.D.Fixed.SIZE g.D.Fixed.bytes_of g.D.Fixed.of_bytes)
      (fixed g.S.Signature.Fixed.SIZE g.S.Signature.Fixed.bytes_of g.S.Signature.Fixed.of_bytes)) l.found.items;
}
