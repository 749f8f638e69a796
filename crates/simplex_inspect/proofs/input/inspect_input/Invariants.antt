use Rattle.std.proofs.Common.{◌-◌, ◌^◌, ◌≡◌, ◌<◌, ℕ, List, Option, false, vec_len}
use Rattle.std.specs.Io.KnownBytes.{Consumes}
use Rattle.simplex_base.specs.Format.{fixed}
use Rattle.simplex_evidence.specs.Activity.{activity_format}
use Rattle.simplex_evidence.specs.declared.types.activity.Activity.{Activity}
use Rattle.simplex_scheme.specs.Committees.{Schedule}
use Rattle.simplex_rules.specs.Scheme.{scheme_of}
use Rattle.simplex_stream.specs.Watched.{inner_of, has_failed}
use Rattle.simplex_inspect.specs.Inspected.{Lines, bound_under}
use Rattle.simplex_inspect.specs.Left.{IsLeft, bytes_seen}
use Rattle.simplex_inspect.specs.Line.{line_json}
use Rattle.simplex_inspect.specs.Shown.{shown_of}
use Rattle.simplex_inspect.proofs.input.inspect_input.Given as given

-- how messages are read, and the line of each
abbrev pub lines : (g : given.Over) → Option (Schedule g.row.S.Denot) →
    Lines (Activity g.row.S.Denot g.row.D.Denot g.row.S-Certificate.Denot g.row.S-PublicKey.Denot g.row.S-Signature.Denot)
lines g committees = let bound = bound_under g.S.CertificateScheme.keys committees in record {
  format = activity_format g.D.PartialEq.eq (fixed g.D.Fixed.SIZE g.D.Fixed.bytes_of g.D.Fixed.of_bytes) (record {
    is_value = g.S.Certificate.Read.fits bound;
    encoding = g.S.Certificate.Encoding.encoding;
    reading = g.S.Certificate.Read.reading bound;
  }) (fixed g.S.Signature.Fixed.SIZE g.S.Signature.Fixed.bytes_of g.S.Signature.Fixed.of_bytes);
  line = line_json (shown_of g.D.Fixed.bytes_of g.S.Signature.Fixed.bytes_of (scheme_of g.D.PartialEq.eq
      g.S.CertificateScheme.keys g.S.Scheme.good
      g.S.CertificateVerifier.certified g.S.Listing.listed) committees);
}

abbrev pub invariant-reads : given.invariant-reads
invariant-reads g l = (has_failed l.reader ≡ false) × (has_failed l.writer ≡ false) × (0 < vec_len l.piece)
    × ((input : List ℕ) × Consumes (g.R.Read.remaining (inner_of l.fn.reader)) (g.R.Read.remaining (inner_of l.reader)) input
    × IsLeft (lines g l.committees) l.left input (g.W.Write.contents (inner_of l.fn.writer))
    (g.W.Write.contents (inner_of l.writer)))

-- how many bytes may still be seen
abbrev pub decreases-reads : given.decreases-reads
decreases-reads g l = 2 ^ 64 - 1 - bytes_seen l.left
