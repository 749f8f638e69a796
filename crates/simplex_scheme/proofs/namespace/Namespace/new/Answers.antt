use Rattle.simplex_scheme.proofs.NamespaceLemmas.{names_apart, names_determine_bases}
use Rattle.simplex_scheme.proofs.namespace.Namespace.new.Goals as goal

pub returns-clause-apart : goal.returns-clause-apart
returns-clause-apart c = names_apart c.args.base.now

pub returns-clause-one : goal.returns-clause-one
returns-clause-one c = names_determine_bases c.args.base.now
