use Rattle.std.proofs.lemmas.Result.{IfOk-weaker}
use Rattle.simplex_base.specs.Format.{fixed}
use Rattle.simplex_evidence.specs.Activity.{activity_format}
use Rattle.simplex_scheme.specs.Committees.{Schedule, bound_of}
use Rattle.simplex_rules.specs.Scheme.{rules_of, scheme_of}
use Rattle.simplex_audit.specs.Basis.{Basis}
use Rattle.simplex_shards.specs.Cut.{class_under}
use Rattle.simplex_shards.specs.Part.{is_class}
use Rattle.simplex_shards.proofs.PartLemmas.{part_of_whole}
use Rattle.simplex_shards.proofs.part.audit_part.Given as given
use Rattle.simplex_shards.proofs.part.audit_part.Goals as goal

-- the basis of an audit
abbrev basis : (g : given.Over) → Schedule g.row.S.Denot →
    Basis g.row.S.Denot g.row.D.Denot g.row.S-Certificate.Denot g.row.S-PublicKey.Denot g.row.S-Signature.Denot
basis g schedule = record {
  bound = bound_of g.S.CertificateScheme.keys schedule;
  format = activity_format g.D.PartialEq.eq (fixed g.D.Fixed.SIZE g.D.Fixed.bytes_of g.D.Fixed.of_bytes) (record {
    is_value = g.S.Certificate.Read.fits (bound_of g.S.CertificateScheme.keys schedule);
    encoding = g.S.Certificate.Encoding.encoding;
    reading = g.S.Certificate.Read.reading (bound_of g.S.CertificateScheme.keys schedule);
  }) (fixed g.S.Signature.Fixed.SIZE g.S.Signature.Fixed.bytes_of g.S.Signature.Fixed.of_bytes);
  rules = rules_of (scheme_of g.D.PartialEq.eq g.S.CertificateScheme.keys g.S.Scheme.good
      g.S.CertificateVerifier.certified g.S.Listing.listed) schedule;
}

pub returns-clause-whole : goal.returns-clause-whole
returns-clause-whole g c =
    let part = is_class (class_under c.args.cut.now) c.args.class in
    let here = basis g c.args.committees.now in
    IfOk-weaker c.record_part.result _ _ (λ report is whole all.
    part_of_whole here part c.args.stream.now report whole (c.format_laws.ensures.readable c.args.committees.now)
    c.evidence_is_determined.ensures.only c.splits_are_determined.ensures.only
    (λ ms. c.rounds_are_independent.ensures.part here.rules ms part) is all) c.record_part.ensures
