use Rattle.std.proofs.Common.{ℕ, List, Option, subst}
use Rattle.simplex_base.specs.Format.{Format, fixed}
use Rattle.simplex_base.specs.declared.codec.error.Error.{Error}
use Rattle.simplex_stream.specs.Progress.{IsProgress}
use Rattle.simplex_evidence.specs.Activity.{activity_format}
use Rattle.simplex_evidence.specs.declared.types.activity.Activity.{Activity}
use Rattle.simplex_scheme.specs.Committees.{Schedule}
use Rattle.simplex_rules.specs.Scheme.{scheme_of}
use Rattle.simplex_inspect.specs.Inspected.{Lines, bound_under}
use Rattle.simplex_inspect.specs.Line.{line_json}
use Rattle.simplex_inspect.specs.Shown.{shown_of}
use Rattle.simplex_inspect.specs.Writing.{WritesLines}
use Rattle.simplex_inspect.specs.declared.reading.LineWriter.{LineWriter}
use Rattle.simplex_inspect.proofs.LinesLemmas.{shown_all, shown_whole}
use Rattle.simplex_inspect.proofs.reading.read_lines.Given as given
use Rattle.simplex_inspect.proofs.reading.read_lines.Goals as goal

-- the messages of a scheme
abbrev Message : given.Over → Type 0
Message g =
    Activity g.row.S.Denot g.row.D.Denot g.row.S-Certificate.Denot g.row.S-PublicKey.Denot g.row.S-Signature.Denot

-- the format of messages under a bound
abbrev format : (g : given.Over) → ℕ → Format (Message g)
format g bound =
    activity_format g.D.PartialEq.eq (fixed g.D.Fixed.SIZE g.D.Fixed.bytes_of g.D.Fixed.of_bytes)
    (record {
      is_value = g.S.Certificate.Read.fits bound;
      encoding = g.S.Certificate.Encoding.encoding;
      reading = g.S.Certificate.Read.reading bound;
    }) (fixed g.S.Signature.Fixed.SIZE g.S.Signature.Fixed.bytes_of g.S.Signature.Fixed.of_bytes)

-- how messages are read under committees, and the line of each
abbrev lines : (g : given.Over) → Option (Schedule g.row.S.Denot) → Lines (Message g)
lines g committees = record {
  format = format g (bound_under g.S.CertificateScheme.keys committees);
  line = line_json (shown_of g.D.Fixed.bytes_of g.S.Signature.Fixed.bytes_of (scheme_of g.D.PartialEq.eq
      g.S.CertificateScheme.keys g.S.Scheme.good
      g.S.CertificateVerifier.certified g.S.Listing.listed) committees);
}

-- what was read, and the lines of it
abbrev IsRead : (g : given.Over) → Option (Schedule g.row.S.Denot) → (old new : LineWriter) (bytes rest : List ℕ) →
    ℕ → Option Error → ℕ → Type 0
IsRead g committees old new bytes rest read stop bound =
    IsProgress (format g bound) (λ ms. WritesLines (lines g committees) ms old new) bytes rest read stop

pub returns-clause-shown : goal.returns-clause-shown
returns-clause-shown g c =
    let p = c.in_ok-progress.progress in
    let committees = c.args.committees.now in
    let next = c.for_each_message.new.visitor in
    let bytes = c.args.bytes.now in
    let start : LineWriter = record { text = c.new.result; offset = c.args.offset } in
    shown_all (lines g committees) start next bytes p.rest.now p.read p.stop c.new.ensures.bytes
    (subst (IsRead g committees start next bytes p.rest.now p.read p.stop) c.reading_bound-bound.ensures
    c.in_ok-progress.ensures.progress)

pub returns-clause-whole : goal.returns-clause-whole
returns-clause-whole g c =
    let p = c.in_ok-progress.progress in
    let committees = c.args.committees.now in
    let next = c.for_each_message.new.visitor in
    let bytes = c.args.bytes.now in
    let start : LineWriter = record { text = c.new.result; offset = c.args.offset } in
    shown_whole (lines g committees) start next bytes p.rest.now p.read p.stop
    (subst (IsRead g committees start next bytes p.rest.now p.read p.stop) c.reading_bound-bound.ensures
    c.in_ok-progress.ensures.progress)
