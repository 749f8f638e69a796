use Rattle.std.proofs.Common.{◌≡◌, ℕ, ◌++◌, List, Option, inl, inr, sym, ap, subst, ◌∙◌, string_bytes}
use Rattle.std.specs.Io.KnownBytes.{Appends}
use Rattle.std.proofs.KnownBytes.{Appends-trans}
use Rattle.simplex_base.specs.Format.{fixed}
use Rattle.simplex_evidence.specs.Activity.{activity_format}
use Rattle.simplex_evidence.specs.declared.types.activity.Activity.{Activity}
use Rattle.simplex_scheme.specs.Committees.{Schedule}
use Rattle.simplex_rules.specs.Scheme.{scheme_of}
use Rattle.simplex_stream.specs.Fault.{fault_of}
use Rattle.simplex_stream.specs.Text.{AppendsBeginning}
use Rattle.simplex_stream.specs.Watched.{inner_of}
use Rattle.simplex_inspect.specs.Inspected.{Lines, bound_under, fault_text, IsInspected}
use Rattle.simplex_inspect.specs.Line.{line_json}
use Rattle.simplex_inspect.specs.Shown.{shown_of}
use Rattle.simplex_inspect.proofs.InspectedLemmas.{if_err, before, begun_now, begun_behind, inspected}
use Rattle.simplex_inspect.proofs.inspect.finish.Given as given
use Rattle.simplex_inspect.proofs.inspect.finish.Goals as goal

-- how messages are read, and the line of each
abbrev lines : (g : given.Over) → Option (Schedule g.row.S.Denot) →
    Lines (Activity g.row.S.Denot g.row.D.Denot g.row.S-Certificate.Denot g.row.S-PublicKey.Denot g.row.S-Signature.Denot)
lines g committees = let bound = bound_under g.S.CertificateScheme.keys committees in record {
  format = activity_format g.D.PartialEq.eq (fixed g.D.Fixed.SIZE g.D.Fixed.bytes_of g.D.Fixed.of_bytes) (record {
    is_value = g.S.Certificate.Read.fits bound;
    encoding = g.S.Certificate.Encoding.encoding;
    reading = g.S.Certificate.Read.reading bound;
  }) (fixed g.S.Signature.Fixed.SIZE g.S.Signature.Fixed.bytes_of g.S.Signature.Fixed.of_bytes);
  line = line_json (shown_of g.D.Fixed.bytes_of g.S.Signature.Fixed.bytes_of (scheme_of g.D.PartialEq.eq
      g.S.CertificateScheme.keys g.S.Scheme.good
      g.S.CertificateVerifier.certified g.S.Listing.listed) committees);
}

pub returns-in_err-reading-clause-begun : goal.returns-in_err-reading-clause-begun
returns-in_err-reading-clause-begun g c = if_err c.from_residual.result _ (λ input start far.
    let (text, is, some) = begun_now (lines g c.args.committees.now) input c.args.offset c.args.held.now start _ far in
    (text, inl is, some))

pub returns-in_err-last-clause-begun : goal.returns-in_err-last-clause-begun
returns-in_err-last-clause-begun g c = if_err c.from_residual-in_err-last.result _ (λ input start far.
    let (text, is, some) = begun_now (lines g c.args.committees.now) input c.args.offset c.args.held.now start _ far in
    (text, inl is, some))

pub returns-in_err-push_str-clause-begun : goal.returns-in_err-push_str-clause-begun
returns-in_err-push_str-clause-begun g c = if_err c.from_residual-in_err-push_str.result _ (λ input start far.
    let (text, is, some) = begun_now (lines g c.args.committees.now) input c.args.offset c.args.held.now start _ far in
    (text, inl is, some))

pub returns-in_err-write_text-clause-begun : goal.returns-in_err-write_text-clause-begun
returns-in_err-write_text-clause-begun g c =
    let r = c.in_ok-reading.reading in
    let fault = fault_of r.offset r.stop in
    let w0 = g.W.Write.contents (inner_of c.args.writer.now) in
    let w1 = g.W.Write.contents (inner_of c.write_text.new.writer) in
    let more = string_bytes r.text ++ fault_text fault r.rest.now in
    let same : c.as_bytes.result.now ≡ more =
    c.as_bytes.ensures.value ∙ (c.in_ok-push_str.ensures.bytes ∙ ap (λ (t : List ℕ). string_bytes r.text ++ t)
    (c.as_str.ensures.value ∙ (c.in_ok-last.ensures ∙ ap (λ f. fault_text f r.rest.now) c.fault_at-fault.ensures))) in
    if_err c.from_residual-in_err-write_text.result _ (λ input start far. (
      _,
      inr (
        fault,
        inspected (lines g c.args.committees.now) input c.args.offset c.args.held.now start w0 far r.rest.now r.offset r.stop
            (string_bytes r.text) c.in_ok-reading.ensures.shown,
      ),
      begun_behind (lines g c.args.committees.now) input c.args.offset c.args.held.now start w0 far r.rest.now r.offset r.stop
          (string_bytes r.text) c.in_ok-reading.ensures.shown w1 more
          (subst (AppendsBeginning w0 w1) same c.in_err-write_text.ensures.beginning),
    ))

pub returns-clause-whole : goal.returns-clause-whole
returns-clause-whole g c = λ input start far.
    let r = c.in_ok-reading.reading in
    let fault = fault_of r.offset r.stop in
    let w0 = g.W.Write.contents (inner_of c.args.writer.now) in
    let w1 = g.W.Write.contents (inner_of c.write_text.new.writer) in
    let more = string_bytes r.text ++ fault_text fault r.rest.now in
    let so_far = before (lines g c.args.committees.now) input c.args.offset c.args.held.now start w0 far in
    let same : c.as_bytes.result.now ≡ more =
    c.as_bytes.ensures.value ∙ (c.in_ok-push_str.ensures.bytes ∙ ap (λ (t : List ℕ). string_bytes r.text ++ t)
    (c.as_str.ensures.value ∙ (c.in_ok-last.ensures ∙ ap (λ f. fault_text f r.rest.now) c.fault_at-fault.ensures))) in (
      so_far ++ more,
      subst (λ f. IsInspected (lines g c.args.committees.now) input f (so_far ++ more)) (sym c.fault_at-fault.ensures)
          (inspected (lines g c.args.committees.now) input c.args.offset c.args.held.now start w0 far r.rest.now r.offset r.stop
          (string_bytes r.text) c.in_ok-reading.ensures.shown),
      Appends-trans start w0 w1 so_far more far.written (subst (Appends w0 w1) same c.in_ok-write_text.ensures.written),
    )
