use Rattle.simplex_rules.proofs.Prelude.{ap, is_accused, valid_votes, Contains-append_left, ◌∙◌}
use Rattle.simplex_rules.proofs.EvidenceLemmas.{accused_by_more, accused_in_any_order, valid_votes-append}
use Rattle.simplex_laws.proofs.laws.accused_stay.Goals as goal

pub returns-clause-any_order : goal.returns-clause-any_order
returns-clause-any_order g c rules messages = accused_in_any_order rules messages

pub returns-clause-later : goal.returns-clause-later
returns-clause-later g c rules messages more n h =
    ap (λ vs. is_accused rules.eq vs n) (valid_votes-append rules messages more) ∙ accused_by_more rules.eq _
    (valid_votes rules messages) (Contains-append_left (valid_votes rules messages) (valid_votes rules more)) n h
