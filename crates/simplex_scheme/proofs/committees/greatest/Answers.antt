use Rattle.simplex_scheme.specs.Committees.{greatest}
use Rattle.std.proofs.lemmas.List.{drop_all, take_all, take_more}
use Rattle.std.proofs.Common.{arith, ap, length, sym, ◌∙◌, ◌≤◌}
use Rattle.std.proofs.lemmas.List.Elements.{All-push}
use Rattle.simplex_scheme.proofs.CommitteeLemmas.{greatest_next}
use Rattle.simplex_scheme.proofs.committees.greatest.Goals as goal

pub pairs-preserved : goal.pairs-preserved
pairs-preserved g c = record {
  most = greatest_next g.S.CertificateScheme.keys c.args.pairs.now c.pairs.pair-index c.pairs.most c.len.result
      c.max-most.result c.pair-item.result c.pairs-test.true c.pair-item.is
      (c.len.ensures ∙ ap length c.participants.ensures.keys) c.max-most.ensures ∙ c.pairs.invariant.most;
  some = rw (take_more c.args.pairs.now c.pairs.pair-index c.pair-item.result c.pairs-test.true, sym c.pair-item.is)
      (All-push (λ p. 1 ≤ length (g.S.CertificateScheme.keys p.1)) _ c.pair-item.result c.pairs.invariant.some
      c.participants.ensures.some);
}

pub returns-clause-value : goal.returns-clause-value
returns-clause-value g c =
    let none = ap (greatest g.S.CertificateScheme.keys) (drop_all c.pairs.pair-index c.args.pairs.now c.pairs-test.false) in
    omega (arith, none, c.pairs.invariant.most)

pub returns-clause-some : goal.returns-clause-some
returns-clause-some g c = rw (take_all c.pairs.pair-index c.args.pairs.now c.pairs-test.false) at c.pairs.invariant.some
