use Rattle.std.proofs.Common.{ℕ, arith, subst}
use Rattle.std.proofs.lemmas.List.Elements.{All-weaker}
use Rattle.simplex_base.specs.Format.{Format, fixed}
use Rattle.simplex_evidence.specs.Activity.{IsActivity, activity_format}
use Rattle.simplex_evidence.specs.declared.types.activity.Activity.{Activity}
use Rattle.simplex_scheme.specs.Committees.{bound_of}
use Rattle.simplex_rules.specs.Independence.{IsOfOneRound, in_rounds, is_from}
use Rattle.simplex_rules.specs.Rules.{HaveCommittees, valid_votes}
use Rattle.simplex_rules.specs.Scheme.{rules_of, scheme_of}
use Rattle.simplex_rules.specs.declared.judging.Judging.TheVariants.{From}
use Rattle.simplex_audit.specs.Basis.{Basis}
use Rattle.simplex_audit.proofs.CompactionLemmas.{in_conflict, keeps_compaction, kept_are_values}
use Rattle.simplex_audit.proofs.compaction.compacting_bound.Given as given
use Rattle.simplex_audit.proofs.compaction.compacting_bound.Goals as goal

-- the messages of a scheme
abbrev Message : given.Over → Type 0
Message g =
    Activity g.row.S.Denot g.row.D.Denot g.row.S-Certificate.Denot g.row.S-PublicKey.Denot g.row.S-Signature.Denot

abbrev payload : (g : given.Over) → Format g.row.D.Denot
payload g = fixed g.D.Fixed.SIZE g.D.Fixed.bytes_of g.D.Fixed.of_bytes

abbrev signature : (g : given.Over) → Format g.row.S-Signature.Denot
signature g = fixed g.S.Signature.Fixed.SIZE g.S.Signature.Fixed.bytes_of g.S.Signature.Fixed.of_bytes

-- the format of messages under a bound
abbrev format : (g : given.Over) → ℕ → Format (Message g)
format g bound =
    activity_format g.D.PartialEq.eq (payload g) (record {
      is_value = g.S.Certificate.Read.fits bound;
      encoding = g.S.Certificate.Encoding.encoding;
      reading = g.S.Certificate.Read.reading bound;
    }) (signature g)

-- what can be encoded
abbrev is_value : (g : given.Over) → Message g → Type 0
is_value g = IsActivity g.D.PartialEq.eq (payload g) g.S.Certificate.Encoding.is_value (signature g)

pub returns : goal.returns
returns g c =
    let schedule = c.args.committees.now in
    let bound = bound_of g.S.CertificateScheme.keys schedule in
    let all = rules_of (scheme_of g.D.PartialEq.eq g.S.CertificateScheme.keys g.S.Scheme.good
    g.S.CertificateVerifier.certified g.S.Listing.listed) schedule in
    record {
      value = c.reading_bound.ensures.value;
      readable = c.reading_bound.ensures.readable;
      compacts = λ floor.
          let judged = in_rounds (is_from floor) all in
          let basis : Basis _ _ _ _ _ = record { bound = bound; format = format g bound; rules = judged } in
          keeps_compaction basis c.reading_bound.ensures.readable
          (λ ms. c.evidence_is_determined.ensures.only (valid_votes judged ms)) (c.splits_are_determined.ensures.only judged)
          (λ m. omega arith)
          (λ ms. c.news_suffices.ensures.compaction judged ms g.met.D.Eq.laws)
          (λ ms each. c.news_suffices.ensures.few judged ms g.met.D.Eq.laws
          (subst HaveCommittees (c.floors_rise.ensures.judged schedule floor)
          (c.reading_bound.ensures.committees_under (From floor)))
          (All-weaker (format g bound).is_value (IsOfOneRound g.S.Listing.listed)
          (λ m is. c.rounds_are_independent.ensures.whole judged m (in_conflict g.D.PartialEq.eq (payload g)
          (g.S.Certificate.Read.fits bound) (signature g) m is)) ms each))
          (is_value g) (kept_are_values g.D.PartialEq.eq (payload g) g.S.Certificate.Encoding.is_value
          (g.S.Certificate.Read.fits bound) (signature g) judged);
    }
