use Rattle.std.proofs.Common.{ℕ, subst}
use Rattle.simplex_base.specs.Format.{Format, fixed}
use Rattle.simplex_stream.specs.Progress.{IsProgress}
use Rattle.simplex_evidence.specs.Activity.{activity_format}
use Rattle.simplex_evidence.specs.declared.types.activity.Activity.{Activity}
use Rattle.simplex_scheme.specs.Committees.{Schedule}
use Rattle.simplex_rules.specs.Judging.{rules_under}
use Rattle.simplex_rules.specs.Rules.{Rules}
use Rattle.simplex_rules.specs.declared.judging.Judging.{Judging}
use Rattle.simplex_detector.specs.Detector.{RecallsMore}
use Rattle.simplex_rules.specs.Scheme.{scheme_of}
use Rattle.simplex_audit.proofs.AuditorLemmas.{recorded_recalls}
use Rattle.simplex_audit.proofs.reading.read_messages.Given as given
use Rattle.simplex_audit.proofs.reading.read_messages.Goals as goal

-- the messages of a scheme
abbrev Message : given.Over → Type 0
Message g =
    Activity g.row.S.Denot g.row.D.Denot g.row.S-Certificate.Denot g.row.S-PublicKey.Denot g.row.S-Signature.Denot

-- the format of messages under a bound
abbrev format : (g : given.Over) → ℕ → Format (Message g)
format g bound =
    activity_format g.D.PartialEq.eq (fixed g.D.Fixed.SIZE g.D.Fixed.bytes_of g.D.Fixed.of_bytes)
    (record {
      is_value = g.S.Certificate.Read.fits bound;
      encoding = g.S.Certificate.Encoding.encoding;
      reading = g.S.Certificate.Read.reading bound;
    }) (fixed g.S.Signature.Fixed.SIZE g.S.Signature.Fixed.bytes_of g.S.Signature.Fixed.of_bytes)

-- the rules by which messages are judged
abbrev rules : (g : given.Over) → Schedule g.row.S.Denot → Judging → Rules g.row.S.Denot g.row.D.Denot
    g.row.S-Certificate.Denot g.row.S-PublicKey.Denot g.row.S-Signature.Denot
rules g schedule judging = rules_under (scheme_of g.D.PartialEq.eq g.S.CertificateScheme.keys g.S.Scheme.good
    g.S.CertificateVerifier.certified g.S.Listing.listed) judging schedule

pub returns-clause-progress : goal.returns-clause-progress
returns-clause-progress g c = λ same.
    let p = c.in_ok-progress.progress in
    let next = c.for_each_message.new.visitor in
    subst (λ (bound : ℕ). IsProgress (format g bound)
    (λ messages. RecallsMore (rules g c.args.committees.now c.args.judging) messages c.args.detector next.detector)
    c.args.bytes.now p.rest.now p.read p.stop) same
    (recorded_recalls (format g c.args.bound) (rules g c.args.committees.now) _ next c.args.bytes.now p.rest.now p.read
    p.stop c.in_ok-progress.ensures.progress)
