use Rattle.simplex_rules.proofs.Prelude.{scheme_of}
use Rattle.simplex_laws.proofs.IndependenceLemmas.{floors_rise, judged_from}
use Rattle.simplex_laws.proofs.laws.floors_rise.Goals as goal

pub returns-clause-judged : goal.returns-clause-judged
returns-clause-judged g c schedule floor =
    judged_from (scheme_of g.D.PartialEq.eq g.S.CertificateScheme.keys g.S.Scheme.good
    g.S.CertificateVerifier.certified g.S.Listing.listed) schedule floor

pub returns-clause-rise : goal.returns-clause-rise
returns-clause-rise g c rules = floors_rise rules
