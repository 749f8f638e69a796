use Rattle.std.proofs.Common.{◌≡◌, ℕ, List, ◌++◌, Option, length, sym, ap, subst, ◌∙◌, arith, string_bytes, length-append}
use Rattle.simplex_base.specs.Format.{fixed}
use Rattle.simplex_evidence.specs.Activity.{activity_format}
use Rattle.simplex_evidence.specs.declared.types.activity.Activity.{Activity}
use Rattle.simplex_scheme.specs.Committees.{Schedule}
use Rattle.simplex_rules.specs.Scheme.{scheme_of}
use Rattle.std.specs.List.{flat_map}
use Rattle.std.specs.Io.KnownBytes.{Appends}
use Rattle.simplex_stream.specs.Messages.{IsOver}
use Rattle.simplex_stream.specs.StreamLaws.{front_dropped}
use Rattle.simplex_stream.specs.Text.{AppendsBeginning}
use Rattle.simplex_stream.specs.Watched.{inner_of}
use Rattle.simplex_stream.specs.Tail.{bytes_held}
use Rattle.simplex_inspect.specs.Inspected.{Lines, AreShown, IsWritten, bound_under}
use Rattle.simplex_inspect.specs.Line.{line_json}
use Rattle.simplex_inspect.specs.Shown.{shown_of}
use Rattle.simplex_inspect.proofs.InspectedLemmas.{if_err, begun_now, begun_more, advanced}
use Rattle.simplex_inspect.proofs.input.advance.Given as given
use Rattle.simplex_inspect.proofs.input.advance.Goals as goal

-- how messages are read, and the line of each
abbrev pub lines : (g : given.Over) → Option (Schedule g.row.S.Denot) →
    Lines (Activity g.row.S.Denot g.row.D.Denot g.row.S-Certificate.Denot g.row.S-PublicKey.Denot g.row.S-Signature.Denot)
lines g committees = let bound = bound_under g.S.CertificateScheme.keys committees in record {
  format = activity_format g.D.PartialEq.eq (fixed g.D.Fixed.SIZE g.D.Fixed.bytes_of g.D.Fixed.of_bytes) (record {
    is_value = g.S.Certificate.Read.fits bound;
    encoding = g.S.Certificate.Encoding.encoding;
    reading = g.S.Certificate.Read.reading bound;
  }) (fixed g.S.Signature.Fixed.SIZE g.S.Signature.Fixed.bytes_of g.S.Signature.Fixed.of_bytes);
  line = line_json (shown_of g.D.Fixed.bytes_of g.S.Signature.Fixed.bytes_of (scheme_of g.D.PartialEq.eq
      g.S.CertificateScheme.keys g.S.Scheme.good
      g.S.CertificateVerifier.certified g.S.Listing.listed) committees);
}

pub returns-in_err-reading-clause-begun : goal.returns-in_err-reading-clause-begun
returns-in_err-reading-clause-begun g c = if_err c.from_residual.result _ (λ input start far.
    begun_now (lines g c.args.committees.now) input c.args.left.offset (bytes_held c.args.left.tail) start _ far.written)

pub returns-in_err-write_text-clause-begun : goal.returns-in_err-write_text-clause-begun
returns-in_err-write_text-clause-begun g c =
    let r = c.in_ok-reading.reading in
    let shown = subst (λ (bytes : List ℕ). AreShown (lines g c.args.committees.now) bytes r.rest.now c.args.left.offset r.offset
    r.stop (string_bytes r.text)) c.bytes-bytes.ensures c.in_ok-reading.ensures.shown in
    let w0 = g.W.Write.contents (inner_of c.args.writer.now) in
    let w1 = g.W.Write.contents (inner_of c.write_text.new.writer) in
    if_err c.from_residual-in_err-write_text.result _ (λ input start far.
    begun_more (lines g c.args.committees.now) input c.args.left.offset (bytes_held c.args.left.tail) start w0 far.written
    r.rest.now r.offset r.stop (string_bytes r.text) shown w1
    (subst (AppendsBeginning w0 w1) c.as_bytes.ensures.value c.in_err-write_text.ensures.beginning))

pub returns-clause-written : goal.returns-clause-written
returns-clause-written g c = λ input start far.
    let r = c.in_ok-reading.reading in
    let shown = subst (λ (bytes : List ℕ). AreShown (lines g c.args.committees.now) bytes r.rest.now c.args.left.offset r.offset
    r.stop (string_bytes r.text)) c.bytes-bytes.ensures c.in_ok-reading.ensures.shown in
    let parts : bytes_held c.args.left.tail
    ≡ flat_map (lines g c.args.committees.now).format.encoding shown.messages ++ r.rest.now =
    shown.are_messages.whole in
    let w0 = g.W.Write.contents (inner_of c.args.writer.now) in
    let w1 = g.W.Write.contents (inner_of c.write_text.new.writer) in
    let size =
    ap length parts ∙ length-append (flat_map (lines g c.args.committees.now).format.encoding shown.messages) r.rest.now in
    let whole = ap length c.bytes-bytes.ensures in
    let left : bytes_held c.advance.new.self ≡ r.rest.now =
    c.advance.ensures.held ∙ front_dropped (flat_map (lines g c.args.committees.now).format.encoding shown.messages)
    r.rest.now (bytes_held c.args.left.tail) _ parts (omega (arith, size, whole)) in
    record {
      written = subst (λ (left : List ℕ). IsWritten (lines g c.args.committees.now) input r.offset left start w1) (sym left)
          (advanced (lines g c.args.committees.now) input c.args.left.offset (bytes_held c.args.left.tail) start w0 far.written
          r.rest.now r.offset r.stop (string_bytes r.text) shown w1
          (subst (Appends w0 w1) c.as_bytes.ensures.value c.in_ok-write_text.ensures.written));
      over = λ over. subst (IsOver (lines g c.args.committees.now).format.reading) (sym left)
          (c.is_over-over.ensures over (bound_under g.S.CertificateScheme.keys c.args.committees.now) r.rest.now shown.stop_is);
    }
