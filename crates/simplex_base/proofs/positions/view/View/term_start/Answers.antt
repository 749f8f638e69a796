use Rattle.std.proofs.Common.{◌≡◌, ◌∙◌, arith}
use Rattle.simplex_base.specs.Terms.{term_start}
use Rattle.simplex_base.specs.TermLaws.{term_start-one, term_facts}
use Rattle.simplex_base.proofs.positions.view.View.term_start.Goals as goal

pub returns-clause-first : goal.returns-clause-first
returns-clause-first c term holds =
    let is : c.new.result ≡ term_start c.args.length c.args.self = grind (arith, term_facts) in
    is ∙ term_start-one _ _ _ c.get-views.ensures.some holds
