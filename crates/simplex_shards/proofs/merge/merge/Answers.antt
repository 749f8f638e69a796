use Rattle.std.proofs.Common.{Option, arith, length, refl, subst, sym}
use Rattle.std.specs.List.{flat_map}
use Rattle.simplex_base.specs.Format.{fixed}
use Rattle.simplex_stream.specs.Fault.{IsFault}
use Rattle.simplex_stream.specs.declared.fault.Fault.{Fault}
use Rattle.simplex_evidence.specs.Activity.{activity_format}
use Rattle.simplex_scheme.specs.Committees.{Schedule, bound_of}
use Rattle.simplex_rules.specs.Scheme.{rules_of, scheme_of}
use Rattle.simplex_audit.specs.Basis.{Basis}
use Rattle.simplex_shards.proofs.MergeLemmas.{merges, merges_shards}
use Rattle.simplex_shards.proofs.merge.merge.Given as given
use Rattle.simplex_shards.proofs.merge.merge.Goals as goal

-- the basis of an audit
abbrev basis : (g : given.Over) → Schedule g.row.S.Denot →
    Basis g.row.S.Denot g.row.D.Denot g.row.S-Certificate.Denot g.row.S-PublicKey.Denot g.row.S-Signature.Denot
basis g schedule = record {
  bound = bound_of g.S.CertificateScheme.keys schedule;
  format = activity_format g.D.PartialEq.eq (fixed g.D.Fixed.SIZE g.D.Fixed.bytes_of g.D.Fixed.of_bytes) (record {
    is_value = g.S.Certificate.Read.fits (bound_of g.S.CertificateScheme.keys schedule);
    encoding = g.S.Certificate.Encoding.encoding;
    reading = g.S.Certificate.Read.reading (bound_of g.S.CertificateScheme.keys schedule);
  }) (fixed g.S.Signature.Fixed.SIZE g.S.Signature.Fixed.bytes_of g.S.Signature.Fixed.of_bytes);
  rules = rules_of (scheme_of g.D.PartialEq.eq g.S.CertificateScheme.keys g.S.Scheme.good
      g.S.CertificateVerifier.certified g.S.Listing.listed) schedule;
}

pub returns-clause-parts : goal.returns-clause-parts
returns-clause-parts g c committees class stream rest messages short within are each fault =
    let here = basis g committees in
    merges here (c.format_laws.ensures.readable committees) (c.format_laws.ensures.one_round committees) class messages
    c.args.parts.items each c.evidence_is_determined.ensures.sound stream rest c.args.fault c.in_ok-gathered.gathered _
    (λ m. omega arith) (c.rounds_are_independent.ensures.parts here.rules messages class) short within are fault
    c.in_ok-gathered.ensures c.sort_evidence.ensures.moved c.in_ok-sort_evidence.ensures.sorted c.sort_splits.ensures.moved
    c.in_ok-sort_splits.ensures.sorted refl refl

pub returns-clause-shards : goal.returns-clause-shards
returns-clause-shards g c committees class stream shards short within cut reports same =
    let here = basis g committees in
    let law = c.format_laws.ensures.readable committees in
    let one_round = c.format_laws.ensures.one_round committees in
    merges here law one_round class cut.messages c.args.parts.items
    (merges_shards here law one_round class _ stream shards c.args.parts.items refl cut reports)
    c.evidence_is_determined.ensures.sound stream cut.rest c.args.fault c.in_ok-gathered.gathered _ (λ m. omega arith)
    (c.rounds_are_independent.ensures.parts here.rules cut.messages class) short within cut.are_messages
    (subst (λ (f : Option Fault). IsFault here.format.reading (length (flat_map here.format.encoding cut.messages)) cut.rest f)
    (sym same) cut.fault_is)
    c.in_ok-gathered.ensures c.sort_evidence.ensures.moved c.in_ok-sort_evidence.ensures.sorted c.sort_splits.ensures.moved
    c.in_ok-sort_splits.ensures.sorted refl refl
