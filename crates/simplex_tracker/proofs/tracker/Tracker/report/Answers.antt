use Rattle.std.proofs.Common.{ℕ, List, subst}
use Rattle.simplex_base.specs.Format.{Format, fixed}
use Rattle.simplex_evidence.specs.Activity.{activity_format}
use Rattle.simplex_evidence.specs.declared.types.activity.Activity.{Activity}
use Rattle.simplex_scheme.specs.Committees.{bound_of}
use Rattle.simplex_rules.specs.declared.judging.Judging.TheVariants.{From}
use Rattle.simplex_stream.specs.Messages.{IsStop, IsStuck}
use Rattle.simplex_tracker.proofs.TrackingLemmas.{tracks_reported}
use Rattle.simplex_tracker.proofs.tracker.Tracker.report.Given as given
use Rattle.simplex_tracker.proofs.tracker.Tracker.report.Goals as goal

-- the format of messages under a bound
abbrev format : (g : given.Over) → ℕ → Format (Activity g.row.S.Denot g.row.D.Denot g.row.S-Certificate.Denot
    g.row.S-PublicKey.Denot g.row.S-Signature.Denot)
format g bound =
    activity_format g.D.PartialEq.eq (fixed g.D.Fixed.SIZE g.D.Fixed.bytes_of g.D.Fixed.of_bytes)
    (record {
      is_value = g.S.Certificate.Read.fits bound;
      encoding = g.S.Certificate.Encoding.encoding;
      reading = g.S.Certificate.Read.reading bound;
    }) (fixed g.S.Signature.Fixed.SIZE g.S.Signature.Fixed.bytes_of g.S.Signature.Fixed.of_bytes)

pub returns : goal.returns
returns g c =
    let committees = c.args.committees.now in
    let here = format g (bound_of g.S.CertificateScheme.keys committees) in
    let stop = c.in_ok-stop.stop in
    tracks_reported _ _ c.args.self.now _ c.place-place.result stop (c.floors_rise.ensures.judged committees)
    (λ part. c.rounds_are_independent.ensures.committees _ part) c.place-place.ensures c.read.ensures c.fault_at.ensures
    (λ same. subst (λ (xs : List ℕ). IsStuck here xs → IsStop here.reading xs stop) c.rest.ensures
    (subst (λ (n : ℕ). IsStuck (format g n) c.rest.result.now → IsStop (format g n).reading c.rest.result.now stop) same
    c.in_ok-stop.ensures))
    (λ f messages. c.in_ok-evidence.ensures.evidence (From f) committees messages)
    (λ f messages. c.in_ok-splits.ensures (From f) messages)
