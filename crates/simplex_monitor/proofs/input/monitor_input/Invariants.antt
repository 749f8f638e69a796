use Rattle.std.proofs.Common.{◌≡◌, ℕ, ◌-◌, ◌<◌, ◌^◌, ◌+◌, List, false, length}
use Rattle.std.specs.Prelude.{IsTrue, vec_len}
use Rattle.std.specs.Io.KnownBytes.{Consumes}
use Rattle.simplex_base.specs.Format.{fixed}
use Rattle.simplex_evidence.specs.Activity.{activity_format}
use Rattle.simplex_scheme.specs.Committees.{Schedule, bound_of}
use Rattle.simplex_rules.specs.Scheme.{rules_of, scheme_of}
use Rattle.simplex_stream.specs.Watched.{inner_of, has_failed, is_flushed}
use Rattle.simplex_audit.specs.Basis.{Basis}
use Rattle.simplex_monitor.specs.Hearing.{Heard}
use Rattle.simplex_monitor.specs.Monitoring.{fed_of}
use Rattle.simplex_monitor.proofs.input.monitor_input.Given as goal

-- the basis of an audit
abbrev pub basis : (g : goal.Over) → Schedule g.row.S.Denot → Basis g.row.S.Denot g.row.D.Denot g.row.S-Certificate.Denot
    g.row.S-PublicKey.Denot g.row.S-Signature.Denot
basis g schedule = record {
  bound = bound_of g.S.CertificateScheme.keys schedule;
  format = activity_format g.D.PartialEq.eq (fixed g.D.Fixed.SIZE g.D.Fixed.bytes_of g.D.Fixed.of_bytes) (record {
    is_value = g.S.Certificate.Read.fits (bound_of g.S.CertificateScheme.keys schedule);
    encoding = g.S.Certificate.Encoding.encoding;
    reading = g.S.Certificate.Read.reading (bound_of g.S.CertificateScheme.keys schedule);
  }) (fixed g.S.Signature.Fixed.SIZE g.S.Signature.Fixed.bytes_of g.S.Signature.Fixed.of_bytes);
  rules = rules_of (scheme_of g.D.PartialEq.eq g.S.CertificateScheme.keys g.S.Scheme.good
      g.S.CertificateVerifier.certified g.S.Listing.listed) schedule;
}

-- what was heard so far
abbrev pub invariant-reads : goal.invariant-reads
invariant-reads g l = (has_failed l.reader ≡ false) × (has_failed l.writer ≡ false) × (0 < vec_len l.piece)
    × IsTrue (is_flushed l.writer)
    × ((input : List ℕ) × Consumes (g.R.Read.remaining (inner_of l.fn.reader)) (g.R.Read.remaining (inner_of l.reader)) input
    × (l.seen ≡ fed_of l.fn.monitor + length input)
    × Heard (basis g) g.D.Fixed.bytes_of l.fn.monitor input l.monitor (g.W.Write.contents (inner_of l.fn.writer))
    (g.W.Write.contents (inner_of l.writer)))

-- how many bytes may still come
abbrev pub decreases-reads : goal.decreases-reads
decreases-reads g l = 2 ^ 64 - 1 - l.seen
