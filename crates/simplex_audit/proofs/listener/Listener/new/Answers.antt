use Rattle.std.proofs.Common.{[], sym, subst, arith}
use Rattle.simplex_alarm.specs.Alarm.{Sounds, nothing_told}
use Rattle.simplex_rules.specs.Independence.{first_round}
use Rattle.simplex_rules.specs.Scheme.{rules_of, scheme_of}
use Rattle.simplex_rules.specs.declared.judging.Judging.TheVariants.{Verified}
use Rattle.simplex_audit.proofs.ListenerLemmas.{hears_nothing}
use Rattle.simplex_audit.proofs.listener.Listener.new.Goals as goal

pub returns-clause-hears : goal.returns-clause-hears
returns-clause-hears g c =
    let rules = rules_of (scheme_of g.D.PartialEq.eq g.S.CertificateScheme.keys g.S.Scheme.good
    g.S.CertificateVerifier.certified g.S.Listing.listed) c.args.committees.now in
    hears_nothing _ _ first_round c.args.committees.now (λ m. omega arith) c.new.ensures.stands
    (subst (λ judged. Sounds judged [] nothing_told c.new-2.result) (sym (c.floors_rise.ensures.rise rules).first)
    (c.new-2.ensures Verified c.args.committees.now))
