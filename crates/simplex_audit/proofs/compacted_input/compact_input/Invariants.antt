use Rattle.std.proofs.Common.{◌-◌, ◌^◌, ◌≡◌, ◌<◌, ◌≤◌, ℕ, List, length, false, vec_len}
use Rattle.std.specs.Io.KnownBytes.{Consumes}
use Rattle.simplex_base.specs.Format.{fixed}
use Rattle.simplex_evidence.specs.Activity.{IsActivity, activity_format}
use Rattle.simplex_evidence.specs.declared.types.activity.Activity.{Activity}
use Rattle.simplex_scheme.specs.Committees.{Schedule, bound_of}
use Rattle.simplex_rules.specs.Scheme.{rules_of, scheme_of}
use Rattle.simplex_audit.specs.Basis.{Basis}
use Rattle.simplex_audit.specs.CompactedInput.{HasCompacted, fed_of}
use Rattle.simplex_stream.specs.Watched.{inner_of, has_failed}
use Rattle.simplex_audit.proofs.compacted_input.compact_input.Given as goal

-- which messages can be encoded
abbrev pub is_value : (g : goal.Over) → Activity g.row.S.Denot g.row.D.Denot g.row.S-Certificate.Denot g.row.S-PublicKey.Denot
    g.row.S-Signature.Denot → Type 0
is_value g = IsActivity g.D.PartialEq.eq (fixed g.D.Fixed.SIZE g.D.Fixed.bytes_of g.D.Fixed.of_bytes)
    g.S.Certificate.Encoding.is_value
    (fixed g.S.Signature.Fixed.SIZE g.S.Signature.Fixed.bytes_of g.S.Signature.Fixed.of_bytes)

-- the basis of an audit
abbrev pub whole : (g : goal.Over) → Schedule g.row.S.Denot → Basis g.row.S.Denot g.row.D.Denot g.row.S-Certificate.Denot
    g.row.S-PublicKey.Denot g.row.S-Signature.Denot
whole g schedule = record {
  bound = bound_of g.S.CertificateScheme.keys schedule;
  format = activity_format g.D.PartialEq.eq (fixed g.D.Fixed.SIZE g.D.Fixed.bytes_of g.D.Fixed.of_bytes) (record {
    is_value = g.S.Certificate.Read.fits (bound_of g.S.CertificateScheme.keys schedule);
    encoding = g.S.Certificate.Encoding.encoding;
    reading = g.S.Certificate.Read.reading (bound_of g.S.CertificateScheme.keys schedule);
  }) (fixed g.S.Signature.Fixed.SIZE g.S.Signature.Fixed.bytes_of g.S.Signature.Fixed.of_bytes);
  rules = rules_of (scheme_of g.D.PartialEq.eq g.S.CertificateScheme.keys g.S.Scheme.good
      g.S.CertificateVerifier.certified g.S.Listing.listed) schedule;
}

abbrev pub invariant-pieces : goal.invariant-pieces
invariant-pieces g l = (has_failed l.reader ≡ false) × (has_failed l.writer ≡ false) × (0 < vec_len l.piece)
    × (fed_of l.state ≤ l.seen)
    × ((input : List ℕ) × Consumes (g.R.Read.remaining (inner_of l.fn.reader)) (g.R.Read.remaining (inner_of l.reader)) input
    × (l.seen ≡ length input)
    × HasCompacted (is_value g) l.fn.floor (whole g l.committees) l.state input (g.W.Write.contents (inner_of l.fn.writer))
    (g.W.Write.contents (inner_of l.writer)))

-- how many bytes may still come
abbrev pub decreases-pieces : goal.decreases-pieces
decreases-pieces g l = 2 ^ 64 - 1 - l.seen
