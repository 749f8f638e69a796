use Rattle.std.proofs.Common.{◌≡◌, ◌+◌, take, drop}
use Rattle.std.specs.List.{sum_by}
use Rattle.simplex_base.specs.Format.{fixed}
use Rattle.simplex_evidence.specs.Activity.{activity_format}
use Rattle.simplex_scheme.specs.Committees.{Schedule, bound_of}
use Rattle.simplex_rules.specs.Scheme.{rules_of, scheme_of}
use Rattle.simplex_audit.specs.Auditor.{Stands, fed_of}
use Rattle.simplex_audit.specs.Basis.{Basis}
use Rattle.simplex_shards.specs.Ranges.{bytes_of_ranges}
use Rattle.simplex_ffi.proofs.parts.feed_ranges.Given as goal

-- the basis of an audit
abbrev pub basis : (g : goal.Over) → Schedule g.row.S.Denot →
    Basis g.row.S.Denot g.row.D.Denot g.row.S-Certificate.Denot g.row.S-PublicKey.Denot g.row.S-Signature.Denot
basis g schedule = record {
  bound = bound_of g.S.CertificateScheme.keys schedule;
  format = activity_format g.D.PartialEq.eq (fixed g.D.Fixed.SIZE g.D.Fixed.bytes_of g.D.Fixed.of_bytes) (record {
    is_value = g.S.Certificate.Read.fits (bound_of g.S.CertificateScheme.keys schedule);
    encoding = g.S.Certificate.Encoding.encoding;
    reading = g.S.Certificate.Read.reading (bound_of g.S.CertificateScheme.keys schedule);
  }) (fixed g.S.Signature.Fixed.SIZE g.S.Signature.Fixed.bytes_of g.S.Signature.Fixed.of_bytes);
  rules = rules_of (scheme_of g.D.PartialEq.eq g.S.CertificateScheme.keys g.S.Scheme.good
      g.S.CertificateVerifier.certified g.S.Listing.listed) schedule;
}

abbrev pub invariant-each : goal.invariant-each
invariant-each g l =
    Stands (basis g) l.fn.committees l.auditor (bytes_of_ranges l.fn.stream (take l.range-index l.fn.ranges))
    × (fed_of l.auditor + sum_by (λ r. r.length) (drop l.range-index l.fn.ranges) ≡ sum_by (λ r. r.length) l.fn.ranges)
