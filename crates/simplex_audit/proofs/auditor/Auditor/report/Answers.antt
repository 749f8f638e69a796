use Rattle.std.proofs.Common.{refl, subst}
use Rattle.simplex_base.specs.Format.{fixed}
use Rattle.simplex_evidence.specs.Activity.{activity_format}
use Rattle.simplex_scheme.specs.Committees.{Schedule, bound_of}
use Rattle.simplex_rules.specs.Independence.{first_round}
use Rattle.simplex_rules.specs.Scheme.{rules_of, scheme_of}
use Rattle.simplex_audit.specs.Basis.{Basis}
use Rattle.simplex_audit.specs.Guarantees.{IsAudit}
use Rattle.simplex_audit.proofs.AccusedLemmas.{if_ok}
use Rattle.simplex_audit.proofs.AuditorLemmas.{stands_answers}
use Rattle.simplex_audit.proofs.FloorLemmas.{from_first, part_of_whole}
use Rattle.simplex_stream.specs.StreamLaws.{messages_once}
use Rattle.simplex_audit.proofs.auditor.Auditor.report.Given as given
use Rattle.simplex_audit.proofs.auditor.Auditor.report.Goals as goal

-- the basis of an audit
abbrev basis : (g : given.Over) → Schedule g.row.S.Denot →
    Basis g.row.S.Denot g.row.D.Denot g.row.S-Certificate.Denot g.row.S-PublicKey.Denot g.row.S-Signature.Denot
basis g schedule = record {
  bound = bound_of g.S.CertificateScheme.keys schedule;
  format = activity_format g.D.PartialEq.eq (fixed g.D.Fixed.SIZE g.D.Fixed.bytes_of g.D.Fixed.of_bytes) (record {
    is_value = g.S.Certificate.Read.fits (bound_of g.S.CertificateScheme.keys schedule);
    encoding = g.S.Certificate.Encoding.encoding;
    reading = g.S.Certificate.Read.reading (bound_of g.S.CertificateScheme.keys schedule);
  }) (fixed g.S.Signature.Fixed.SIZE g.S.Signature.Fixed.bytes_of g.S.Signature.Fixed.of_bytes);
  rules = rules_of (scheme_of g.D.PartialEq.eq g.S.CertificateScheme.keys g.S.Scheme.good
      g.S.CertificateVerifier.certified g.S.Listing.listed) schedule;
}

pub returns-clause-from_floor : goal.returns-clause-from_floor
returns-clause-from_floor g c =
    if_ok _ _ (λ report audit floor committees stream stands.
    audit floor committees stream (stands_answers _ c.args.self.now floor committees stream stands))
    c.report_from.result c.report_from.ensures

pub returns-clause-part : goal.returns-clause-part
returns-clause-part g c =
    if_ok _ _ (λ report audit floor committees stream stands whole is.
    part_of_whole (basis g committees) floor stream report whole stands.readable (c.message_laws.ensures _ refl)
    c.rounds_are_independent.ensures.part
    (audit floor committees stream (stands_answers _ c.args.self.now floor committees stream stands)).report_is is)
    c.report_from.result c.report_from.ensures

pub returns-clause-answers_from : goal.returns-clause-answers_from
returns-clause-answers_from g c = c.report_from.ensures

pub returns-clause-answers : goal.returns-clause-answers
returns-clause-answers g c =
    if_ok _ _ (λ report audit committees stream answers.
    subst (λ (b : Basis g.row.S.Denot g.row.D.Denot g.row.S-Certificate.Denot g.row.S-PublicKey.Denot
    g.row.S-Signature.Denot). IsAudit b stream report)
    (from_first (basis g committees) (c.floors_rise.ensures.rise (basis g committees).rules))
    (audit first_round committees stream answers))
    c.report_from.result c.report_from.ensures

pub returns-clause-audit : goal.returns-clause-audit
returns-clause-audit g c =
    if_ok _ _ (λ report audit committees stream stands.
    audit committees stream (stands_answers _ c.args.self.now first_round committees stream stands))
    c.report_from.result (returns-clause-answers g c)

pub returns-clause-single : goal.returns-clause-single
returns-clause-single g c floor committees stream other stands = λ messages others rest left are are'.
    messages_once _ stands.readable other rest left messages others are are'

pub returns-clause-determined : goal.returns-clause-determined
returns-clause-determined g c committees =
    let laws = c.message_laws.ensures (basis g committees).rules refl in record {
      names = λ messages. laws.names _;
      sound = λ messages. laws.sound _;
      only = λ messages. laws.only _;
    }
