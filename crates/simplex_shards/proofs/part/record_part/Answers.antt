use Rattle.std.proofs.Common.{◌-◌, ℕ, arith, length, refl, subst}
use Rattle.simplex_base.specs.Format.{fixed}
use Rattle.simplex_evidence.specs.Activity.{activity_format}
use Rattle.simplex_scheme.specs.Committees.{Schedule, bound_of}
use Rattle.simplex_stream.specs.Progress.{IsProgress}
use Rattle.simplex_stream.specs.StreamLaws.{fault_is}
use Rattle.simplex_rules.specs.Scheme.{rules_of, scheme_of}
use Rattle.simplex_rules.specs.declared.judging.Judging.TheVariants.{Verified}
use Rattle.simplex_audit.specs.Basis.{Basis}
use Rattle.simplex_shards.specs.Cut.{class_under}
use Rattle.simplex_shards.specs.Part.{RecordsPart, is_class}
use Rattle.simplex_shards.specs.declared.part.PartRecorder.{PartRecorder}
use Rattle.simplex_shards.proofs.PartLemmas.{part_audit}
use Rattle.simplex_shards.proofs.part.record_part.Given as given
use Rattle.simplex_shards.proofs.part.record_part.Goals as goal

-- the basis of an audit under a bound
abbrev basis : (g : given.Over) → Schedule g.row.S.Denot → ℕ →
    Basis g.row.S.Denot g.row.D.Denot g.row.S-Certificate.Denot g.row.S-PublicKey.Denot g.row.S-Signature.Denot
basis g schedule bound = record {
  bound = bound;
  format = activity_format g.D.PartialEq.eq (fixed g.D.Fixed.SIZE g.D.Fixed.bytes_of g.D.Fixed.of_bytes) (record {
    is_value = g.S.Certificate.Read.fits bound;
    encoding = g.S.Certificate.Encoding.encoding;
    reading = g.S.Certificate.Read.reading bound;
  }) (fixed g.S.Signature.Fixed.SIZE g.S.Signature.Fixed.bytes_of g.S.Signature.Fixed.of_bytes);
  rules = rules_of (scheme_of g.D.PartialEq.eq g.S.CertificateScheme.keys g.S.Scheme.good
      g.S.CertificateVerifier.certified g.S.Listing.listed) schedule;
}

pub returns : goal.returns
returns g c =
    let schedule = c.args.committees.now in
    let stream = c.args.stream.now in
    let p = c.in_ok-progress.progress in
    let new = c.for_each_message.new.visitor in
    let bound = bound_of g.S.CertificateScheme.keys schedule in
    let here = basis g schedule bound in
    let old : PartRecorder g.row.S.Denot g.row.D.Denot g.row.S-PublicKey.Denot g.row.S-Signature.Denot =
    record { cut = c.args.cut.now; class = c.args.class; read = 0; detector = c.new-detector.result } in
    let progress : IsProgress here.format (λ ms. RecordsPart here.rules ms old new) stream p.rest.now p.read p.stop =
    subst (λ (n : ℕ). IsProgress (basis g schedule n).format
    (λ ms. RecordsPart (basis g schedule n).rules ms old new) stream p.rest.now p.read p.stop) c.bound-bound.ensures.value
    c.in_ok-progress.ensures.progress in
    part_audit here (is_class (class_under c.args.cut.now) c.args.class) stream p.rest.now p.read p.stop old new _
    (c.format_laws.ensures.one_round schedule) refl (c.new-detector.ensures Verified schedule) refl progress refl
    (λ ms recalls. c.in_ok-evidence.ensures.evidence Verified schedule ms recalls)
    (λ ms recalls. c.in_ok-splits.ensures Verified ms (c.committees_are_lawful.ensures.committees Verified schedule
    c.bound-bound.ensures.some) recalls)
    (fault_is here.format stream p.rest.now progress.messages (length stream - length p.rest.now) p.stop _
    progress.are_messages (omega (arith, c.in_ok-progress.ensures.room)) progress.stop_is c.fault_at.ensures)
