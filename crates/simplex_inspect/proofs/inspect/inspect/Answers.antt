use Rattle.std.proofs.Common.{Option}
use Rattle.simplex_base.specs.Format.{fixed}
use Rattle.simplex_evidence.specs.Activity.{activity_format}
use Rattle.simplex_evidence.specs.declared.types.activity.Activity.{Activity}
use Rattle.simplex_scheme.specs.Committees.{Schedule}
use Rattle.simplex_rules.specs.Scheme.{scheme_of}
use Rattle.simplex_stream.specs.Watched.{inner_of}
use Rattle.simplex_inspect.specs.Inspected.{Lines, bound_under}
use Rattle.simplex_inspect.specs.Line.{line_json}
use Rattle.simplex_inspect.specs.Shown.{shown_of}
use Rattle.simplex_inspect.proofs.InspectedLemmas.{if_ok_then, if_err_then, nothing_written}
use Rattle.simplex_inspect.proofs.inspect.inspect.Given as given
use Rattle.simplex_inspect.proofs.inspect.inspect.Goals as goal

-- how messages are read, and the line of each
abbrev lines : (g : given.Over) → Option (Schedule g.row.S.Denot) →
    Lines (Activity g.row.S.Denot g.row.D.Denot g.row.S-Certificate.Denot g.row.S-PublicKey.Denot g.row.S-Signature.Denot)
lines g committees = let bound = bound_under g.S.CertificateScheme.keys committees in record {
  format = activity_format g.D.PartialEq.eq (fixed g.D.Fixed.SIZE g.D.Fixed.bytes_of g.D.Fixed.of_bytes) (record {
    is_value = g.S.Certificate.Read.fits bound;
    encoding = g.S.Certificate.Encoding.encoding;
    reading = g.S.Certificate.Read.reading bound;
  }) (fixed g.S.Signature.Fixed.SIZE g.S.Signature.Fixed.bytes_of g.S.Signature.Fixed.of_bytes);
  line = line_json (shown_of g.D.Fixed.bytes_of g.S.Signature.Fixed.bytes_of (scheme_of g.D.PartialEq.eq
      g.S.CertificateScheme.keys g.S.Scheme.good
      g.S.CertificateVerifier.certified g.S.Listing.listed) committees);
}

pub returns-clause-whole : goal.returns-clause-whole
returns-clause-whole g c =
    if_ok_then c.finish.result _ _ (λ fault h. h c.args.stream.now (g.W.Write.contents (inner_of c.args.writer.now))
    (nothing_written (lines g c.args.committees.now) c.args.stream.now _)) c.finish.ensures.whole

pub returns-clause-begun : goal.returns-clause-begun
returns-clause-begun g c =
    if_err_then c.finish.result _ _ (λ e h. h c.args.stream.now (g.W.Write.contents (inner_of c.args.writer.now))
    (nothing_written (lines g c.args.committees.now) c.args.stream.now _)) c.finish.ensures.begun
