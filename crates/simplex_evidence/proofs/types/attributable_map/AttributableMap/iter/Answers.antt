use Rattle.simplex_evidence.proofs.FirstsLemmas.{single}
use Rattle.simplex_evidence.proofs.types.attributable_map.AttributableMap.iter.Goals as goal

pub returns-clause-single : goal.returns-clause-single
returns-clause-single g c inserted others mine theirs = single g.T.Attributable.signer_of _ inserted _ others mine theirs
