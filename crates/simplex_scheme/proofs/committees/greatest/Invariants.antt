use Rattle.std.proofs.Common.{All, drop, length, max, take, ◌≡◌, ◌≤◌}
use Rattle.simplex_scheme.specs.Committees.{greatest}
use Rattle.simplex_scheme.proofs.committees.greatest.Given as goal

abbrev pub invariant-pairs : goal.invariant-pairs
invariant-pairs g l = record {
  most : max l.most (greatest g.S.CertificateScheme.keys (drop l.pair-index l.fn.pairs))
      ≡ greatest g.S.CertificateScheme.keys l.fn.pairs;
  some : All (λ p. 1 ≤ length (g.S.CertificateScheme.keys p.1)) (take l.pair-index l.fn.pairs);
}
