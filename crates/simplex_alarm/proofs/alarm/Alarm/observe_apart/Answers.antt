use Rattle.simplex_rules.proofs.Prelude.{rules_under, scheme_of, sym, ◌∙◌}
use Rattle.simplex_alarm.proofs.AlarmLemmas.{sounds_same}
use Rattle.simplex_alarm.proofs.alarm.Alarm.observe_apart.Goals as goal

-- the message is no news
pub returns-then-not-is_kept-clause-sounds : goal.returns-then-not-is_kept-clause-sounds
returns-then-not-is_kept-clause-sounds g c messages told l holds =
    let scheme = scheme_of g.D.PartialEq.eq g.S.CertificateScheme.keys g.S.Scheme.good g.S.CertificateVerifier.certified
    g.S.Listing.listed in
    let old = sym c.is_kept.ensures ∙ c.if-not-is_kept.true in
    sounds_same (rules_under scheme c.args.judging.now c.args.committees.now) messages c.args.message.now
    g.met.D.Eq.laws (sym (c.in_ok-kept.ensures.news messages holds) ∙ old) told c.args.self.now

-- it is news
pub returns-clause-sounds : goal.returns-clause-sounds
returns-clause-sounds g c messages told l holds =
    c.in_ok-note.ensures c.args.judging.now messages told l (c.in_ok-kept.ensures.records messages holds)
