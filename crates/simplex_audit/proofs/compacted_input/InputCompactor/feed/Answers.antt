use Rattle.std.proofs.Common.{ℕ, sym, subst, ◌∙◌}
use Rattle.simplex_base.specs.Format.{Format, fixed}
use Rattle.simplex_evidence.specs.Activity.{IsActivity, activity_format}
use Rattle.simplex_evidence.specs.declared.types.activity.Activity.{Activity}
use Rattle.simplex_scheme.specs.Committees.{Schedule, bound_of}
use Rattle.simplex_rules.specs.Scheme.{Scheme, rules_of, scheme_of}
use Rattle.simplex_rules.specs.Judging.{rules_under}
use Rattle.simplex_stream.specs.Decoder.{DecodesMore}
use Rattle.simplex_audit.specs.Compacting.{CompactsMore}
use Rattle.simplex_audit.specs.Basis.{Basis}
use Rattle.simplex_audit.proofs.CompactedInputLemmas.{dropped, fed, when}
use Rattle.simplex_audit.proofs.compacted_input.InputCompactor.feed.Given as given
use Rattle.simplex_audit.proofs.compacted_input.InputCompactor.feed.Goals as goal

-- what a message can be
abbrev Message : given.Over → Type 0
Message g =
    Activity g.row.S.Denot g.row.D.Denot g.row.S-Certificate.Denot g.row.S-PublicKey.Denot g.row.S-Signature.Denot

-- which messages can be encoded
abbrev is_value : (g : given.Over) → Message g → Type 0
is_value g = IsActivity g.D.PartialEq.eq (fixed g.D.Fixed.SIZE g.D.Fixed.bytes_of g.D.Fixed.of_bytes)
    g.S.Certificate.Encoding.is_value
    (fixed g.S.Signature.Fixed.SIZE g.S.Signature.Fixed.bytes_of g.S.Signature.Fixed.of_bytes)

-- the scheme of an audit
abbrev scheme : (g : given.Over) → Scheme g.row.S.Denot g.row.D.Denot g.row.S-Certificate.Denot g.row.S-PublicKey.Denot
    g.row.S-Signature.Denot
scheme g = scheme_of g.D.PartialEq.eq g.S.CertificateScheme.keys g.S.Scheme.good g.S.CertificateVerifier.certified
    g.S.Listing.listed

-- the format of messages under a bound
abbrev format : (g : given.Over) → ℕ → Format (Message g)
format g bound =
    activity_format g.D.PartialEq.eq (fixed g.D.Fixed.SIZE g.D.Fixed.bytes_of g.D.Fixed.of_bytes) (record {
      is_value = g.S.Certificate.Read.fits bound;
      encoding = g.S.Certificate.Encoding.encoding;
      reading = g.S.Certificate.Read.reading bound;
    }) (fixed g.S.Signature.Fixed.SIZE g.S.Signature.Fixed.bytes_of g.S.Signature.Fixed.of_bytes)

-- the basis of an audit
abbrev whole : (g : given.Over) → Schedule g.row.S.Denot → Basis g.row.S.Denot g.row.D.Denot g.row.S-Certificate.Denot
    g.row.S-PublicKey.Denot g.row.S-Signature.Denot
whole g schedule = record {
  bound = bound_of g.S.CertificateScheme.keys schedule;
  format = format g (bound_of g.S.CertificateScheme.keys schedule);
  rules = rules_of (scheme g) schedule;
}

pub returns-then-is_over-clause-compacted : goal.returns-then-is_over-clause-compacted
returns-then-is_over-clause-compacted g c = λ floor input start now h.
    dropped (is_value g) floor (whole g c.args.committees.now) c.args.self.now input start now h c.args.piece.now
    (sym c.is_over.ensures ∙ c.if-is_over.true)

pub returns-clause-compacted : goal.returns-clause-compacted
returns-clause-compacted g c =
    let schedule = c.args.committees.now in
    when c.feed.result (λ decodes floor input start now h.
    fed (is_value g) floor (whole g schedule) c.args.self.now input start now h _ c.args.piece.now
    (λ judging. rules_under (scheme g) judging schedule) (sym c.is_over.ensures ∙ c.if-is_over.false)
    (c.floors_rise.ensures.judged schedule floor)
    (subst (λ (n : ℕ). DecodesMore (format g n) (λ more. CompactsMore (is_value g) (format g n).encoding
    (λ judging. rules_under (scheme g) judging schedule) more c.args.self.now.compactor c.feed.new.visitor)
    c.args.piece.now c.args.self.now.decoder c.feed.new.self) c.compacting_bound-bound.ensures.value decodes))
    c.feed.ensures.decoded
