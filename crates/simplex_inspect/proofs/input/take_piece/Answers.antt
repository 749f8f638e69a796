use Rattle.std.proofs.Common.{◌++◌, Option}
use Rattle.simplex_base.specs.Format.{fixed}
use Rattle.simplex_evidence.specs.Activity.{activity_format}
use Rattle.simplex_evidence.specs.declared.types.activity.Activity.{Activity}
use Rattle.simplex_scheme.specs.Committees.{Schedule}
use Rattle.simplex_rules.specs.Scheme.{scheme_of}
use Rattle.simplex_stream.specs.Tail.{bytes_held}
use Rattle.simplex_inspect.specs.Inspected.{Lines, bound_under}
use Rattle.simplex_inspect.specs.Line.{line_json}
use Rattle.simplex_inspect.specs.Shown.{shown_of}
use Rattle.simplex_inspect.proofs.InspectedLemmas.{if_err, if_ok_then, if_err_then, begun_now}
use Rattle.simplex_inspect.proofs.InputLemmas.{left_more, begun_of_more}
use Rattle.simplex_inspect.proofs.input.take_piece.Given as given
use Rattle.simplex_inspect.proofs.input.take_piece.Goals as goal

-- how messages are read, and the line of each
abbrev pub lines : (g : given.Over) → Option (Schedule g.row.S.Denot) →
    Lines (Activity g.row.S.Denot g.row.D.Denot g.row.S-Certificate.Denot g.row.S-PublicKey.Denot g.row.S-Signature.Denot)
lines g committees = let bound = bound_under g.S.CertificateScheme.keys committees in record {
  format = activity_format g.D.PartialEq.eq (fixed g.D.Fixed.SIZE g.D.Fixed.bytes_of g.D.Fixed.of_bytes) (record {
    is_value = g.S.Certificate.Read.fits bound;
    encoding = g.S.Certificate.Encoding.encoding;
    reading = g.S.Certificate.Read.reading bound;
  }) (fixed g.S.Signature.Fixed.SIZE g.S.Signature.Fixed.bytes_of g.S.Signature.Fixed.of_bytes);
  line = line_json (shown_of g.D.Fixed.bytes_of g.S.Signature.Fixed.bytes_of (scheme_of g.D.PartialEq.eq
      g.S.CertificateScheme.keys g.S.Scheme.good
      g.S.CertificateVerifier.certified g.S.Listing.listed) committees);
}

pub returns-in_err-left-clause-begun : goal.returns-in_err-left-clause-begun
returns-in_err-left-clause-begun g c = if_err c.from_residual.result _ (λ input start far.
    begun_of_more (lines g c.args.committees.now) input c.args.piece.now start _
    (begun_now (lines g c.args.committees.now) input c.args.left.offset (bytes_held c.args.left.tail) start _ far.written))

pub returns-clause-written : goal.returns-clause-written
returns-clause-written g c =
    if_ok_then c.advance.result _ _ (λ next h input start far. h (input ++ c.args.piece.now) start
    (left_more (lines g c.args.committees.now) c.args.left c.in_ok-left.left input c.args.piece.now start _
    c.in_ok-left.ensures.offset c.in_ok-left.ensures.held c.in_ok-left.ensures.over far))
    c.advance.ensures.written

pub returns-clause-begun : goal.returns-clause-begun
returns-clause-begun g c =
    if_err_then c.advance.result _ _ (λ e h input start far. h (input ++ c.args.piece.now) start
    (left_more (lines g c.args.committees.now) c.args.left c.in_ok-left.left input c.args.piece.now start _
    c.in_ok-left.ensures.offset c.in_ok-left.ensures.held c.in_ok-left.ensures.over far))
    c.advance.ensures.begun

pub returns-then-not-is_due-clause-written : goal.returns-then-not-is_due-clause-written
returns-then-not-is_due-clause-written g c = λ input start far.
    left_more (lines g c.args.committees.now) c.args.left c.in_ok-left.left input c.args.piece.now start _
    c.in_ok-left.ensures.offset c.in_ok-left.ensures.held c.in_ok-left.ensures.over far
