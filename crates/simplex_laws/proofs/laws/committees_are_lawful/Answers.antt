use Rattle.simplex_rules.proofs.CommitteeLemmas.{rules_lawful, rules_committees, members_under}
use Rattle.simplex_laws.proofs.laws.committees_are_lawful.Goals as goal

pub returns-clause-lawful : goal.returns-clause-lawful
returns-clause-lawful g c schedule some =
    rules_lawful _ schedule g.met.S.Scheme.members some g.met.D.Eq.laws g.met.S.Listing.lists_quorums

pub returns-clause-committees : goal.returns-clause-committees
returns-clause-committees g c judging schedule some =
    rules_committees _ schedule
    (members_under g.S.CertificateScheme.keys g.S.Scheme.good g.met.S.Scheme.members judging) some
