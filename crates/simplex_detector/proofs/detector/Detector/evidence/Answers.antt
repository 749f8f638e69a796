use Rattle.simplex_rules.proofs.Prelude.{All, All-nil, IsEncoded, [], ap, arith, evidence_value, fixed, map, round_cmp, rules as std_rules, rules_under, subst, sym, scheme_of}
use Rattle.simplex_detector.specs.RoundMap.{IsOrdered}
use Rattle.simplex_detector.proofs.ReportLemmas.{Walked, walked_next, report_of_walk}
use Rattle.simplex_detector.proofs.detector.Detector.evidence.Goals as goal

pub rounds-init : goal.rounds-init
rounds-init g c =
    let P = IsEncoded g.D.PartialEq.eq (fixed g.D.Fixed.SIZE g.D.Fixed.bytes_of g.D.Fixed.of_bytes)
    (fixed g.S.Signature.Fixed.SIZE g.S.Signature.Fixed.bytes_of g.S.Signature.Fixed.of_bytes) in
    record {
      walked = record {
        steps = [];
        over = c.into_iter-round_state-iterator.ensures.into_iter_gives.0;
        listed = λ k d lt. absurd (omega (arith, lt));
        is = ap (map evidence_value) c.new-found.ensures.items;
      };
      encoded = subst (All P) (sym c.new-found.ensures.items) (All-nil P);
    }

pub rounds-preserved : goal.rounds-preserved
rounds-preserved g c =
    let (signers, lists, is) = c.in_ok-report_to.ensures.appended in
    record {
      walked = walked_next g.D.PartialEq.eq c.args.self.now.rounds c.rounds.round_state-iterator c.next.new.self
          c.in-Some.field-0-0.now c.in-Some.round_state.now signers (map evidence_value c.rounds.found.items)
          (map evidence_value c.report_to.new.found.items) c.in-Some.ensures.steps lists is c.rounds.invariant.walked;
      encoded = c.in_ok-report_to.ensures.encoded c.rounds.invariant.encoded;
    }

pub returns-clause-evidence : goal.returns-clause-evidence
returns-clause-evidence g c = λ judging schedule messages.
    let ordered : IsOrdered round_cmp c.args.self.now.rounds = search std_rules in
    report_of_walk (rules_under (scheme_of g.D.PartialEq.eq g.S.CertificateScheme.keys g.S.Scheme.good
    g.S.CertificateVerifier.certified g.S.Listing.listed) judging schedule) g.met.D.Eq.laws c.args.self.now ordered
    (map evidence_value c.rounds.found.items)
    (subst (λ rest. Walked g.D.PartialEq.eq c.args.self.now.rounds rest (map evidence_value c.rounds.found.items))
    c.in-None.ensures.steps.0 c.rounds.invariant.walked) messages
