use Rattle.std.proofs.Common.{ℕ, refl, subst}
use Rattle.simplex_base.specs.Format.{Format, fixed}
use Rattle.simplex_evidence.specs.Activity.{activity_format}
use Rattle.simplex_evidence.specs.declared.types.activity.Activity.{Activity}
use Rattle.simplex_detector.specs.Detector.{RecallsMore}
use Rattle.simplex_rules.specs.Rules.{Rules}
use Rattle.simplex_audit.proofs.AuditorLemmas.{stands_on}
use Rattle.simplex_audit.proofs.auditor.Auditor.feed.Given as given
use Rattle.simplex_audit.proofs.auditor.Auditor.feed.Goals as goal

-- the format of messages under a bound
abbrev format : (g : given.Over) → ℕ → Format (Activity g.row.S.Denot g.row.D.Denot g.row.S-Certificate.Denot
    g.row.S-PublicKey.Denot g.row.S-Signature.Denot)
format g bound =
    activity_format g.D.PartialEq.eq (fixed g.D.Fixed.SIZE g.D.Fixed.bytes_of g.D.Fixed.of_bytes)
    (record {
      is_value = g.S.Certificate.Read.fits bound;
      encoding = g.S.Certificate.Encoding.encoding;
      reading = g.S.Certificate.Read.reading bound;
    }) (fixed g.S.Signature.Fixed.SIZE g.S.Signature.Fixed.bytes_of g.S.Signature.Fixed.of_bytes)

pub returns-clause-stands : goal.returns-clause-stands
returns-clause-stands g c =
    let auditor = c.args.self in
    let next = c.feed.new.visitor in
    stands_on _ (format g) auditor c.feed.new.self next.detector c.args.piece.now (λ s. refl) (λ stream messages before.
    let (more, decoded, recorded) = c.in_ok-feed.ensures.decoded stream messages before in (
      more,
      decoded,
      subst (λ (rules : Rules g.row.S.Denot g.row.D.Denot g.row.S-Certificate.Denot g.row.S-PublicKey.Denot
          g.row.S-Signature.Denot). RecallsMore rules more auditor.detector next.detector)
          (c.floors_rise.ensures.judged auditor.committees.now auditor.floor) recorded.recalls,
    ))
