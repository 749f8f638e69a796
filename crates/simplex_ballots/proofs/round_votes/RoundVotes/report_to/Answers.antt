use Rattle.simplex_ballots.specs.Rounds.{ListsSigners, found_at, slots}
use Rattle.simplex_rules.proofs.Prelude.{ap, evidence_value, flat_map, map, subst, sym, take_all, ◌++◌, ◌∙◌}
use Rattle.simplex_ballots.proofs.IndexLemmas.{appended_next}
use Rattle.simplex_ballots.proofs.round_votes.RoundVotes.report_to.Goals as goal

pub signers-preserved : goal.signers-preserved
signers-preserved g c = record {
  appended = appended_next (λ signer. found_at g.D.PartialEq.eq (slots c.args.self.now signer))
      (map evidence_value c.args.found.now.items)
      (map evidence_value c.signers.found.items) (map evidence_value c.report_signer.new.found.items)
      c.deref-signer-items.result.now c.signers.signer-index c.new.result 0 c.signers-test.true c.new.ensures
      c.signers.invariant.appended c.in_ok-report_signer.ensures.appended;
  encoded = λ old. c.in_ok-report_signer.ensures.encoded (c.signers.invariant.encoded old);
}

pub returns-clause-appended : goal.returns-clause-appended
returns-clause-appended g c = (
  c.deref-signer-items.result.now,
  subst (ListsSigners c.args.self.now) (sym c.deref-signer-items.ensures.value) c.in_ok-signers.ensures,
  c.signers.invariant.appended ∙ ap (λ signers. map evidence_value c.args.found.now.items
      ++ flat_map (λ signer. found_at g.D.PartialEq.eq (slots c.args.self.now signer)) signers)
      (take_all c.signers.signer-index c.deref-signer-items.result.now c.signers-test.false),
)
