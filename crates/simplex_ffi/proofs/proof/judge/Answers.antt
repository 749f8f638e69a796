use Rattle.std.proofs.Common.{◌≡◌, Ok, Some, ap, inr, refl, ◌∙◌}
use Rattle.simplex_base.specs.Format.{Format, fixed}
use Rattle.simplex_evidence.specs.Activity.{activity_format}
use Rattle.simplex_scheme.specs.Committees.{Schedule, bound_of}
use Rattle.simplex_rules.specs.Scheme.{rules_of, scheme_of}
use Rattle.simplex_audit.specs.Basis.{Basis}
use Rattle.simplex_evidence.specs.Contradiction.{Equivocation}
use Rattle.simplex_ffi.specs.Proof.{IsJudged, equivocation_of}
use Rattle.simplex_ffi.proofs.ProofLemmas.{judged_bytes, message_accuses, they_contradict}
use Rattle.simplex_ffi.proofs.proof.judge.Given as given
use Rattle.simplex_ffi.proofs.proof.judge.Goals as goal

abbrev payload : (g : given.Over) → Format g.row.D.Denot
payload g = fixed g.D.Fixed.SIZE g.D.Fixed.bytes_of g.D.Fixed.of_bytes

abbrev signature : (g : given.Over) → Format g.row.S-Signature.Denot
signature g = fixed g.S.Signature.Fixed.SIZE g.S.Signature.Fixed.bytes_of g.S.Signature.Fixed.of_bytes

-- the basis of an audit
abbrev basis : (g : given.Over) → Schedule g.row.S.Denot →
    Basis g.row.S.Denot g.row.D.Denot g.row.S-Certificate.Denot g.row.S-PublicKey.Denot g.row.S-Signature.Denot
basis g schedule = record {
  bound = bound_of g.S.CertificateScheme.keys schedule;
  format = activity_format g.D.PartialEq.eq (payload g) (record {
    is_value = g.S.Certificate.Read.fits (bound_of g.S.CertificateScheme.keys schedule);
    encoding = g.S.Certificate.Encoding.encoding;
    reading = g.S.Certificate.Read.reading (bound_of g.S.CertificateScheme.keys schedule);
  }) (signature g);
  rules = rules_of (scheme_of g.D.PartialEq.eq g.S.CertificateScheme.keys g.S.Scheme.good
      g.S.CertificateVerifier.certified g.S.Listing.listed) schedule;
}

pub returns-in-Ok-None-clause-judged : goal.returns-in-Ok-None-clause-judged
unfolding IsJudged
returns-in-Ok-None-clause-judged g c = λ _.
    let none = rw c.bound.ensures.value at
    (c.read_whole.ensures.none (c.in-Ok-None.is ∙ ap Ok c.in-Ok-None.field-0-is)) in
    inr (λ m e value is same. none m value is, refl, refl)

pub returns-in-Ok-Some-clause-judged : goal.returns-in-Ok-Some-clause-judged
returns-in-Ok-Some-clause-judged g c = λ _.
    let m = c.in-Ok-Some.message in
    let committees = c.args.committees.now in
    let whole = rw (c.bound.ensures.value, c.in-Ok-Some.field-0-is) at c.in-Ok-Some.ensures.whole in
    let one = rw c.bound.ensures.value at c.in-Ok-Some.ensures.one in
    let contradict = λ (e : Equivocation g.row.D.Denot g.row.S-Signature.Denot) (same : equivocation_of m ≡ Some e).
    they_contradict g.row.S.Denot g.row.S-PublicKey.Denot g.D.PartialEq.eq (payload g)
    (g.S.Certificate.Read.fits (bound_of g.S.CertificateScheme.keys committees)) (signature g) m e whole.0 same in
    judged_bytes (basis g committees) c.args.bytes.now m c.args.accusation.now c.judge_message.new.accusation
    c.judge_message.result whole.0 whole.1 (λ x fits is. one x m fits whole.0 is whole.1) contradict
    (λ e same. message_accuses g.row.S.Denot g.row.S-PublicKey.Denot (basis g committees).rules
    (λ d. (g.met.D.Fixed.equal d d).1 refl) m e same (contradict e same))
    c.judge_message.ensures.judged
