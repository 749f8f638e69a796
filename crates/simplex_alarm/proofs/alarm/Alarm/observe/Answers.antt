use Rattle.simplex_rules.proofs.Prelude.{rules_under, scheme_of, sym, ◌∙◌}
use Rattle.simplex_alarm.proofs.AlarmLemmas.{sounds_same}
use Rattle.simplex_alarm.proofs.alarm.Alarm.observe.Goals as goal

-- the message is no news
pub returns-then-not-branch : goal.returns-then-not-branch
returns-then-not-branch g c =
    let scheme = scheme_of g.D.PartialEq.eq g.S.CertificateScheme.keys g.S.Scheme.good g.S.CertificateVerifier.certified
    g.S.Listing.listed in
    let old = c.if-not-branch.true in
    record {
      records = c.in_ok-observe.ensures.records;
      news = λ messages holds. sym old ∙ c.in_ok-observe.ensures.news messages holds;
      sounds = λ messages told l holds.
          sounds_same (rules_under scheme c.args.judging.now c.args.committees.now) messages c.args.message.now
          g.met.D.Eq.laws (sym (c.in_ok-observe.ensures.news messages holds) ∙ old) told c.args.self.now;
    }

-- it is news
pub returns-clause-sounds : goal.returns-clause-sounds
returns-clause-sounds g c messages told l holds =
    c.in_ok-note.ensures c.args.judging.now messages told l (c.in_ok-observe.ensures.records messages holds)
