use Rattle.simplex_laws.proofs.IndependenceLemmas.{committees_in_rounds, floor_parts, independent, lawful_in_rounds, others_stay, parts_add_up}
use Rattle.simplex_evidence.specs.Activity.{contents_of}
use Rattle.simplex_rules.proofs.MessageLemmas.{votes_here}
use Rattle.simplex_laws.proofs.ArisingLemmas.{arising_part}
use Rattle.simplex_laws.proofs.StateLemmas.{state_in_part, state_of_rounds}
use Rattle.simplex_laws.proofs.laws.rounds_are_independent.Goals as goal

pub returns-clause-part : goal.returns-clause-part
returns-clause-part g c rules messages part = independent rules part messages

pub returns-clause-parts : goal.returns-clause-parts
returns-clause-parts g c rules messages class = parts_add_up rules messages class

pub returns-clause-floor : goal.returns-clause-floor
returns-clause-floor g c rules messages floor = floor_parts rules messages floor

pub returns-clause-others : goal.returns-clause-others
returns-clause-others g c rules part messages more = others_stay rules part messages more

pub returns-clause-lawful : goal.returns-clause-lawful
returns-clause-lawful g c rules part l = lawful_in_rounds rules part l

pub returns-clause-committees : goal.returns-clause-committees
returns-clause-committees g c rules part l = committees_in_rounds rules part l

pub returns-clause-arising : goal.returns-clause-arising
returns-clause-arising g c rules part before messages = arising_part rules part before messages

pub returns-clause-state : goal.returns-clause-state
returns-clause-state g c rules part messages others same = state_in_part rules part messages others same

pub returns-clause-alone : goal.returns-clause-alone
returns-clause-alone g c rules part messages one = state_of_rounds rules part messages one

pub returns-clause-whole : goal.returns-clause-whole
returns-clause-whole g c rules message conflict = votes_here rules.eq rules.listed (contents_of message) conflict
