use Rattle.std.proofs.Common.{ℕ, refl, subst}
use Rattle.simplex_base.specs.Format.{Format, fixed}
use Rattle.simplex_evidence.specs.Activity.{activity_format}
use Rattle.simplex_evidence.specs.declared.types.activity.Activity.{Activity}
use Rattle.simplex_rules.specs.Rules.{Rules}
use Rattle.simplex_audit.proofs.ListenerLemmas.{RecordsAndSounds, hears_on}
use Rattle.simplex_audit.proofs.listener.Listener.feed.Given as given
use Rattle.simplex_audit.proofs.listener.Listener.feed.Goals as goal

-- the format of messages under a bound
abbrev format : (g : given.Over) → ℕ → Format (Activity g.row.S.Denot g.row.D.Denot g.row.S-Certificate.Denot
    g.row.S-PublicKey.Denot g.row.S-Signature.Denot)
format g bound =
    activity_format g.D.PartialEq.eq (fixed g.D.Fixed.SIZE g.D.Fixed.bytes_of g.D.Fixed.of_bytes)
    (record {
      is_value = g.S.Certificate.Read.fits bound;
      encoding = g.S.Certificate.Encoding.encoding;
      reading = g.S.Certificate.Read.reading bound;
    }) (fixed g.S.Signature.Fixed.SIZE g.S.Signature.Fixed.bytes_of g.S.Signature.Fixed.of_bytes)

pub returns-clause-hears : goal.returns-clause-hears
returns-clause-hears g c =
    let old = c.args.self in
    let auditor = old.auditor in
    let next = c.feed.new.visitor in
    hears_on _ (format g) old c.feed.new.self next.recorder.detector next.alarm c.args.piece.now (λ s. refl)
    c.rounds_are_independent.ensures.lawful (λ stream messages before.
    let (more, decoded, watched) = c.in_ok-feed.ensures.decoded stream messages before in (
      more,
      decoded,
      subst (λ (rules : Rules g.row.S.Denot g.row.D.Denot g.row.S-Certificate.Denot g.row.S-PublicKey.Denot
          g.row.S-Signature.Denot). RecordsAndSounds rules auditor.detector next.recorder.detector old.alarm next.alarm more)
          (c.floors_rise.ensures.judged auditor.committees.now auditor.floor) (watched.records.recalls, watched.sounds),
    ))
