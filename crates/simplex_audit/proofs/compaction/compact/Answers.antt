use Rattle.std.proofs.Common.{ℕ, ◌-◌, arith, ap, length, subst, sym, ◌∙◌}
use Rattle.simplex_base.specs.Format.{Format, fixed}
use Rattle.simplex_evidence.specs.Activity.{IsActivity, activity_format}
use Rattle.simplex_evidence.specs.declared.types.activity.Activity.{Activity}
use Rattle.simplex_scheme.specs.Committees.{bound_of}
use Rattle.simplex_rules.specs.Judging.{rules_under}
use Rattle.simplex_rules.specs.Scheme.{rules_of, scheme_of}
use Rattle.simplex_rules.specs.declared.judging.Judging.TheVariants.{From}
use Rattle.simplex_stream.specs.Progress.{IsProgress}
use Rattle.simplex_audit.specs.Basis.{Basis, basis_from}
use Rattle.simplex_audit.specs.Compaction.{IsCompacted}
use Rattle.simplex_audit.proofs.CompactionLemmas.{AreKept, compactor_keeps, is_compacted}
use Rattle.simplex_audit.proofs.FloorLemmas.{from_first}
use Rattle.simplex_audit.proofs.compaction.compact.Given as given
use Rattle.simplex_audit.proofs.compaction.compact.Goals as goal

abbrev payload : (g : given.Over) → Format g.row.D.Denot
payload g = fixed g.D.Fixed.SIZE g.D.Fixed.bytes_of g.D.Fixed.of_bytes

abbrev signature : (g : given.Over) → Format g.row.S-Signature.Denot
signature g = fixed g.S.Signature.Fixed.SIZE g.S.Signature.Fixed.bytes_of g.S.Signature.Fixed.of_bytes

-- the format of messages under a bound
abbrev format : (g : given.Over) → ℕ → Format (Activity g.row.S.Denot g.row.D.Denot g.row.S-Certificate.Denot
    g.row.S-PublicKey.Denot g.row.S-Signature.Denot)
format g bound =
    activity_format g.D.PartialEq.eq (payload g) (record {
      is_value = g.S.Certificate.Read.fits bound;
      encoding = g.S.Certificate.Encoding.encoding;
      reading = g.S.Certificate.Read.reading bound;
    }) (signature g)

pub returns : goal.returns
returns g c =
    let schedule = c.args.committees.now in
    let scheme = scheme_of g.D.PartialEq.eq g.S.CertificateScheme.keys g.S.Scheme.good g.S.CertificateVerifier.certified
    g.S.Listing.listed in
    let all = rules_of scheme schedule in
    let floor = c.args.floor in
    let stream = c.args.stream.now in
    let bound = bound_of g.S.CertificateScheme.keys schedule in
    let whole : Basis _ _ _ _ _ = record { bound = bound; format = format g bound; rules = all } in
    let basis = basis_from floor whole in
    let is_value = IsActivity g.D.PartialEq.eq (payload g) g.S.Certificate.Encoding.is_value (signature g) in
    let p = c.in_ok-progress.progress in
    let new = c.for_each_message.new.visitor in
    let start = c.new-compactor.ensures in
    let progress = subst (λ (n : ℕ). IsProgress (format g n)
    (AreKept is_value (format g n).encoding basis.rules new.kept.items) stream p.rest.now p.read p.stop)
    c.compacting_bound-bound.ensures.value
    (compactor_keeps is_value (format g c.compacting_bound-bound.result) (λ judging. rules_under scheme judging schedule)
    (From floor) basis.rules _ new stream p.rest.now p.read p.stop start.judging (start.recalls schedule) start.kept
    (c.floors_rise.ensures.judged schedule floor) c.in_ok-progress.ensures.progress) in
    let part = subst (IsCompacted basis stream new.kept.items p.read) (sym c.fault_at.ensures)
    (is_compacted basis is_value (c.compacting_bound-bound.ensures.compacts floor) stream p.rest.now new.kept.items p.read
    (length stream - length p.rest.now) p.stop progress (omega (arith, c.in_ok-progress.ensures.room))) in
    record {
      part = part;
      whole = λ first. subst (λ b. IsCompacted b stream new.kept.items p.read c.fault_at.result)
          (ap (λ f. basis_from f whole) first ∙ from_first whole (c.floors_rise.ensures.rise all)) part;
    }
