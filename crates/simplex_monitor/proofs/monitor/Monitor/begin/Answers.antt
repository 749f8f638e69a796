use Rattle.std.proofs.Common.{◌≤◌, refl, rules, subst}
use Rattle.simplex_evidence.specs.ActivityLaws.{activity_lawful}
use Rattle.simplex_rules.specs.declared.judging.Judging.TheVariants.{Verified}
use Rattle.simplex_scheme.specs.Committees.{bound_of, committee_of, size_by}
use Rattle.simplex_monitor.proofs.MonitorLemmas.{listens_to_nothing, size_at_most}
use Rattle.simplex_monitor.proofs.monitor.Monitor.begin.Goals as goal

pub returns-clause-listens : goal.returns-clause-listens
returns-clause-listens g c =
    listens_to_nothing _ _ _ _ c.args.committees.now c.requires refl c.bound.ensures.value
    (activity_lawful g.D.PartialEq.eq _ _ _ g.met.D.Fixed.lawful (g.met.S.Certificate.Read.lawful _)
    g.met.S.Signature.Fixed.lawful)
    (c.committees_are_lawful.ensures.committees Verified c.args.committees.now c.bound.ensures.some)
    (λ epoch. subst (λ n. size_by g.S.CertificateScheme.keys (committee_of c.args.committees.now epoch) ≤ n)
    c.bound.ensures.value (size_at_most g.S.CertificateScheme.keys c.bound.result
    (committee_of c.args.committees.now epoch) (c.bound.ensures.most epoch)))
    (search rules)
    (c.new.ensures.decoded (bound_of g.S.CertificateScheme.keys c.args.committees.now))
    (c.new-2.ensures.watches c.args.committees.now) refl
