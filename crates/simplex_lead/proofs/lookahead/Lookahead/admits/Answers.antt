use Rattle.simplex_lead.proofs.WindowLemmas.{admitted_small, admitted_number, leads_admitted, admitted_led}
use Rattle.simplex_lead.proofs.lookahead.Lookahead.admits.Goals as goal

pub returns-clause-number : goal.returns-clause-number
returns-clause-number c = admitted_number _ _ _ c.get-2.ensures.some

pub returns-clause-views : goal.returns-clause-views
returns-clause-views c q = admitted_small _ _ _ q c.get-2.ensures.some c.requires

pub returns-clause-lead : goal.returns-clause-lead
returns-clause-lead c p leads = c.is_admitted.ensures.1 (leads_admitted _ _ _ p _ c.get-2.ensures.some leads)

pub returns-clause-led : goal.returns-clause-led
returns-clause-led c taken above within = admitted_led _ _ _ _ c.get-2.ensures.some above within (c.is_admitted.ensures.0 taken)
