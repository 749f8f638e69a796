use Rattle.simplex_evidence.specs.ActivityLaws.{activity_lawful}
use Rattle.simplex_audit.proofs.reading.reading_bound.Goals as goal

pub returns-clause-readable : goal.returns-clause-readable
returns-clause-readable g c =
    activity_lawful g.D.PartialEq.eq _ _ _ g.met.D.Fixed.lawful (g.met.S.Certificate.Read.lawful _)
    g.met.S.Signature.Fixed.lawful

pub returns-clause-lawful : goal.returns-clause-lawful
returns-clause-lawful g c = c.committees_are_lawful.ensures.lawful c.args.committees.now c.bound.ensures.some

pub returns-clause-committees_under : goal.returns-clause-committees_under
returns-clause-committees_under g c judging =
    c.committees_are_lawful.ensures.committees judging c.args.committees.now c.bound.ensures.some
