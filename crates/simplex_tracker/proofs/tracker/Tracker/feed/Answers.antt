use Rattle.std.proofs.Common.{ℕ, refl, subst}
use Rattle.simplex_base.specs.Format.{Format, fixed}
use Rattle.simplex_evidence.specs.Activity.{activity_format}
use Rattle.simplex_evidence.specs.declared.types.activity.Activity.{Activity}
use Rattle.simplex_alarm.specs.Alarm.{SoundsMore}
use Rattle.simplex_detector.specs.Detector.{RecallsMore}
use Rattle.simplex_rules.specs.Rules.{Rules}
use Rattle.simplex_tracker.proofs.TrackingLemmas.{tracks_on}
use Rattle.simplex_tracker.proofs.tracker.Tracker.feed.Given as given
use Rattle.simplex_tracker.proofs.tracker.Tracker.feed.Goals as goal

-- the format of messages under a bound
abbrev format : (g : given.Over) → ℕ → Format (Activity g.row.S.Denot g.row.D.Denot g.row.S-Certificate.Denot
    g.row.S-PublicKey.Denot g.row.S-Signature.Denot)
format g bound =
    activity_format g.D.PartialEq.eq (fixed g.D.Fixed.SIZE g.D.Fixed.bytes_of g.D.Fixed.of_bytes)
    (record {
      is_value = g.S.Certificate.Read.fits bound;
      encoding = g.S.Certificate.Encoding.encoding;
      reading = g.S.Certificate.Read.reading bound;
    }) (fixed g.S.Signature.Fixed.SIZE g.S.Signature.Fixed.bytes_of g.S.Signature.Fixed.of_bytes)

pub returns-clause-tracks : goal.returns-clause-tracks
returns-clause-tracks g c =
    let old = c.args.self in
    let sight = c.feed.new.visitor in
    let judged = c.floors_rise.ensures.judged c.args.committees.now old.sight.floor in
    tracks_on _ (format g) old c.feed.new.self sight c.args.piece.now refl
    (λ part. c.rounds_are_independent.ensures.committees _ part)
    (λ stream messages before.
    let (more, decoded, seen) = c.in_ok-feed.ensures.decoded stream messages before in (
      more,
      decoded,
      record {
        floor = seen.floor;
        recalls = subst (λ (r : Rules g.row.S.Denot g.row.D.Denot g.row.S-Certificate.Denot g.row.S-PublicKey.Denot
            g.row.S-Signature.Denot). RecallsMore r more old.sight.detector sight.detector) judged seen.recalls;
        sounds = subst (λ (r : Rules g.row.S.Denot g.row.D.Denot g.row.S-Certificate.Denot g.row.S-PublicKey.Denot
            g.row.S-Signature.Denot). SoundsMore r more old.sight.detector old.sight.alarm sight.alarm) judged seen.sounds;
      },
    ))
