use Rattle.std.proofs.Common.{rules, arith, ℕ, List, [], ◌++◌, Option, subst, sym, ap, length}
use Rattle.std.proofs.KnownBytes.{Consumes-nil}
use Rattle.simplex_base.specs.Format.{IsLawful, fixed}
use Rattle.simplex_evidence.specs.Activity.{activity_format}
use Rattle.simplex_evidence.specs.ActivityLaws.{activity_lawful}
use Rattle.simplex_evidence.specs.declared.types.activity.Activity.{Activity}
use Rattle.simplex_scheme.specs.Committees.{Schedule}
use Rattle.simplex_rules.specs.Scheme.{scheme_of}
use Rattle.simplex_stream.specs.Tail.{bytes_held}
use Rattle.simplex_stream.specs.Watched.{inner_of}
use Rattle.simplex_inspect.specs.Inspected.{Lines, IsWritten, bound_under}
use Rattle.simplex_inspect.specs.Line.{line_json}
use Rattle.simplex_inspect.specs.Shown.{shown_of}
use Rattle.simplex_inspect.proofs.InspectedLemmas.{if_err}
use Rattle.simplex_inspect.proofs.InputLemmas.{text_more, part_more, part_of_text}
use Rattle.simplex_inspect.proofs.input.end_at_fault.Given as given
use Rattle.simplex_inspect.proofs.input.end_at_fault.Goals as goal

-- how messages are read, and the line of each
abbrev pub lines : (g : given.Over) → Option (Schedule g.row.S.Denot) →
    Lines (Activity g.row.S.Denot g.row.D.Denot g.row.S-Certificate.Denot g.row.S-PublicKey.Denot g.row.S-Signature.Denot)
lines g committees = let bound = bound_under g.S.CertificateScheme.keys committees in record {
  format = activity_format g.D.PartialEq.eq (fixed g.D.Fixed.SIZE g.D.Fixed.bytes_of g.D.Fixed.of_bytes) (record {
    is_value = g.S.Certificate.Read.fits bound;
    encoding = g.S.Certificate.Encoding.encoding;
    reading = g.S.Certificate.Read.reading bound;
  }) (fixed g.S.Signature.Fixed.SIZE g.S.Signature.Fixed.bytes_of g.S.Signature.Fixed.of_bytes);
  line = line_json (shown_of g.D.Fixed.bytes_of g.S.Signature.Fixed.bytes_of (scheme_of g.D.PartialEq.eq
      g.S.CertificateScheme.keys g.S.Scheme.good
      g.S.CertificateVerifier.certified g.S.Listing.listed) committees);
}

-- the format is lawful
lawful : (g : given.Over) (committees : Option (Schedule g.row.S.Denot)) → IsLawful (lines g committees).format
lawful g committees =
    activity_lawful g.D.PartialEq.eq _ _ _ g.met.D.Fixed.lawful (g.met.S.Certificate.Read.lawful _)
    g.met.S.Signature.Fixed.lawful

pub returns-in_err-fault-clause-begun : goal.returns-in_err-fault-clause-begun
returns-in_err-fault-clause-begun g c = if_err c.from_residual.result _ (λ input more start far.
    let shown = lines g c.args.committees.now in
    let left = c.args.left in
    let before = g.W.Write.contents (inner_of c.args.writer.now) in
    let held = subst (λ (held : List ℕ). IsWritten shown input left.offset held start before) (sym c.bytes-held.ensures)
    far.written in
    part_more shown (lawful g c.args.committees.now) input more left.offset (bytes_held left.tail) start before far.written
    (far.over (search rules)) (search rules) _ (c.in_err-fault.ensures.begun input start held))

pub returns-in_err-drop_rest-clause-begun : goal.returns-in_err-drop_rest-clause-begun
returns-in_err-drop_rest-clause-begun g c = if_err c.from_residual-in_err-drop_rest.result _ (λ input more start far.
    let shown = lines g c.args.committees.now in
    let left = c.args.left in
    let before = g.W.Write.contents (inner_of c.args.writer.now) in
    let held = subst (λ (held : List ℕ). IsWritten shown input left.offset held start before) (sym c.bytes-held.ensures)
    far.written in
    part_more shown (lawful g c.args.committees.now) input more left.offset (bytes_held left.tail) start before far.written
    (far.over (search rules)) (search rules) _
    (part_of_text shown input c.in_ok-fault.fault start _ (c.in_ok-fault.ensures.whole input start held)))

pub returns-clause-whole : goal.returns-clause-whole
returns-clause-whole g c = λ input more start far.
    let shown = lines g c.args.committees.now in
    let left = c.args.left in
    let before = g.W.Write.contents (inner_of c.args.writer.now) in
    let held = subst (λ (held : List ℕ). IsWritten shown input left.offset held start before) (sym c.bytes-held.ensures)
    far.written in
    text_more shown (lawful g c.args.committees.now) input more left.offset (bytes_held left.tail) start before far.written
    (far.over (search rules)) (search rules) c.in_ok-fault.fault _ (c.in_ok-fault.ensures.whole input start held)

pub returns-in_err-drop_rest-clause-too_long : goal.returns-in_err-drop_rest-clause-too_long
returns-in_err-drop_rest-clause-too_long g c = λ e.
    let (more, many, dropped) = c.in_err-drop_rest.ensures.too_long (search rules) in
    let held = ap length c.bytes-held.ensures in
    (more, omega (arith, many, held), dropped)
