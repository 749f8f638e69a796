use Rattle.std.proofs.Common.{ℕ, [], subst}
use Rattle.simplex_base.specs.Format.{Format, fixed}
use Rattle.simplex_evidence.specs.Activity.{IsActivity, activity_format}
use Rattle.simplex_evidence.specs.declared.types.activity.Activity.{Activity}
use Rattle.simplex_scheme.specs.Committees.{Schedule, bound_of}
use Rattle.simplex_rules.specs.Scheme.{Scheme, rules_of, scheme_of}
use Rattle.simplex_detector.specs.Detector.{Recalls}
use Rattle.simplex_rules.specs.Rules.{Rules}
use Rattle.simplex_audit.specs.Basis.{Basis}
use Rattle.simplex_audit.proofs.CompactedInputLemmas.{starts}
use Rattle.simplex_audit.proofs.compacted_input.InputCompactor.new.Given as given
use Rattle.simplex_audit.proofs.compacted_input.InputCompactor.new.Goals as goal

-- what a message can be
abbrev Message : given.Over → Type 0
Message g =
    Activity g.row.S.Denot g.row.D.Denot g.row.S-Certificate.Denot g.row.S-PublicKey.Denot g.row.S-Signature.Denot

-- which messages can be encoded
abbrev is_value : (g : given.Over) → Message g → Type 0
is_value g = IsActivity g.D.PartialEq.eq (fixed g.D.Fixed.SIZE g.D.Fixed.bytes_of g.D.Fixed.of_bytes)
    g.S.Certificate.Encoding.is_value
    (fixed g.S.Signature.Fixed.SIZE g.S.Signature.Fixed.bytes_of g.S.Signature.Fixed.of_bytes)

-- the scheme of an audit
abbrev scheme : (g : given.Over) → Scheme g.row.S.Denot g.row.D.Denot g.row.S-Certificate.Denot g.row.S-PublicKey.Denot
    g.row.S-Signature.Denot
scheme g = scheme_of g.D.PartialEq.eq g.S.CertificateScheme.keys g.S.Scheme.good g.S.CertificateVerifier.certified
    g.S.Listing.listed

-- the format of messages under a bound
abbrev format : (g : given.Over) → ℕ → Format (Message g)
format g bound =
    activity_format g.D.PartialEq.eq (fixed g.D.Fixed.SIZE g.D.Fixed.bytes_of g.D.Fixed.of_bytes) (record {
      is_value = g.S.Certificate.Read.fits bound;
      encoding = g.S.Certificate.Encoding.encoding;
      reading = g.S.Certificate.Read.reading bound;
    }) (fixed g.S.Signature.Fixed.SIZE g.S.Signature.Fixed.bytes_of g.S.Signature.Fixed.of_bytes)

-- the basis of an audit
abbrev whole : (g : given.Over) → Schedule g.row.S.Denot → Basis g.row.S.Denot g.row.D.Denot g.row.S-Certificate.Denot
    g.row.S-PublicKey.Denot g.row.S-Signature.Denot
whole g schedule = record {
  bound = bound_of g.S.CertificateScheme.keys schedule;
  format = format g (bound_of g.S.CertificateScheme.keys schedule);
  rules = rules_of (scheme g) schedule;
}

pub returns-clause-compacted : goal.returns-clause-compacted
returns-clause-compacted g c = λ start.
    let schedule = c.args.committees.now in
    let compactor = c.new-2.result in
    starts (is_value g) c.args.floor (whole g schedule) _ start c.compacting_bound.ensures.readable c.new-2.ensures.judging
    (subst (λ (r : Rules g.row.S.Denot g.row.D.Denot g.row.S-Certificate.Denot g.row.S-PublicKey.Denot
    g.row.S-Signature.Denot). Recalls r [] compactor.recorder.detector)
    (c.floors_rise.ensures.judged schedule c.args.floor) (c.new-2.ensures.recalls schedule)) c.new-2.ensures.kept
    (c.new.ensures.decoded (bound_of g.S.CertificateScheme.keys schedule))
