use Rattle.std.proofs.Common.{ℕ, List, refl, subst, arith}
use Rattle.simplex_base.specs.Format.{Format, fixed}
use Rattle.simplex_evidence.specs.Activity.{activity_format}
use Rattle.simplex_evidence.specs.declared.types.activity.Activity.{Activity}
use Rattle.simplex_scheme.specs.Committees.{bound_of}
use Rattle.simplex_rules.specs.declared.judging.Judging.TheVariants.{From}
use Rattle.simplex_stream.specs.Messages.{IsStuck, IsStop}
use Rattle.simplex_audit.proofs.AuditorLemmas.{makes_same, stands_reported, answers_audited}
use Rattle.simplex_audit.proofs.AccusedLemmas.{if_both}
use Rattle.simplex_audit.proofs.auditor.Auditor.report_from.Given as given
use Rattle.simplex_audit.proofs.auditor.Auditor.report_from.Goals as goal

-- the format of messages under a bound
abbrev format : (g : given.Over) → ℕ → Format (Activity g.row.S.Denot g.row.D.Denot g.row.S-Certificate.Denot
    g.row.S-PublicKey.Denot g.row.S-Signature.Denot)
format g bound =
    activity_format g.D.PartialEq.eq (fixed g.D.Fixed.SIZE g.D.Fixed.bytes_of g.D.Fixed.of_bytes)
    (record {
      is_value = g.S.Certificate.Read.fits bound;
      encoding = g.S.Certificate.Encoding.encoding;
      reading = g.S.Certificate.Read.reading bound;
    }) (fixed g.S.Signature.Fixed.SIZE g.S.Signature.Fixed.bytes_of g.S.Signature.Fixed.of_bytes)

pub returns : goal.returns
returns g c =
    let auditor = c.args.self.now in
    let here = format g (bound_of g.S.CertificateScheme.keys auditor.committees.now) in
    if_both _ _ _ (λ report is each. answers_audited _ auditor report (λ committees m. omega arith)
    (λ floor committees. c.message_laws.ensures _ refl) c.rounds_are_independent.ensures.lawful
    (stands_reported _ auditor c.place-place.result c.read.result c.in_ok-stop.stop report c.place-place.ensures c.read.ensures
    (λ same. subst (λ (xs : List ℕ). IsStuck here xs → IsStop here.reading xs c.in_ok-stop.stop) c.rest.ensures
    (subst (λ (n : ℕ). IsStuck (format g n) c.rest.result.now →
    IsStop (format g n).reading c.rest.result.now c.in_ok-stop.stop) same c.in_ok-stop.ensures))
    (makes_same _ _ _ _ auditor.detector c.place-place.result c.read.result c.in_ok-stop.stop report
    (c.floors_rise.ensures.judged auditor.committees.now auditor.floor) (is (From auditor.floor)))) each)
    c.make_report.result c.make_report.ensures.report c.make_report.ensures.encoded
