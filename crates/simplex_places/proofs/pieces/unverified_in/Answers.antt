use Rattle.std.proofs.Common.{ℕ, ap, sym, subst, ◌∙◌}
use Rattle.std.specs.Prelude.{All, Contains}
use Rattle.std.specs.List.{flat_map}
use Rattle.simplex_base.specs.Format.{fixed}
use Rattle.simplex_evidence.specs.Activity.{votes_in}
use Rattle.simplex_scheme.specs.Committees.{committee_of, size_by}
use Rattle.simplex_rules.specs.Scheme.{rules_of, scheme_of}
use Rattle.simplex_places.specs.Pieces.{is_judged}
use Rattle.simplex_places.specs.Suspects.{passing_of}
use Rattle.simplex_places.proofs.ByteLemmas.{IsCast, passing_stand}
use Rattle.simplex_places.proofs.pieces.unverified_in.Goals as goal

pub returns-clause-piece : goal.returns-clause-piece
returns-clause-piece g c =
    let size : ℕ → ℕ = λ epoch. size_by g.S.CertificateScheme.keys (committee_of c.args.committees.now epoch) in
    let read = c.in_ok-reader.ensures c.reading_bound-bound.ensures.value in
    record {
      messages = read.messages;
      rest = read.rest;
      are_messages = read.are_messages;
      whole_is = read.place_is;
      attestations = c.in_ok-found.found.items;
      attestations_are = c.in_ok-found.ensures
          ∙ ap (passing_of (is_judged c.args.floor size)) (c.deref.ensures.value ∙ read.places_are);
      unverified_are = rw (c.deref-2.ensures.value) at c.in_ok-unverified.ensures;
      over_is = read.over_is;
    }

pub returns-clause-votes : goal.returns-clause-votes
returns-clause-votes g c =
    let eq = g.D.PartialEq.eq in
    let payload = fixed g.D.Fixed.SIZE g.D.Fixed.bytes_of g.D.Fixed.of_bytes in
    let signature = fixed g.S.Signature.Fixed.SIZE g.S.Signature.Fixed.bytes_of g.S.Signature.Fixed.of_bytes in
    let listed = g.S.Listing.listed in
    let bytes = c.args.bytes.now in
    let rules = rules_of (scheme_of g.D.PartialEq.eq g.S.CertificateScheme.keys g.S.Scheme.good
    g.S.CertificateVerifier.certified g.S.Listing.listed) c.args.committees.now in
    let is = returns-clause-piece g c in
    let cast = Contains (flat_map (votes_in listed) is.messages) in
    record {
      messages = is.messages;
      rest = is.rest;
      are_messages = is.are_messages;
      each =
          subst (All (IsCast payload signature bytes cast))
          (sym (is.unverified_are.attestations ∙ is.attestations_are))
          (passing_stand eq payload g.S.Certificate.Encoding.encoding signature listed g.met.S.Counted.counted bytes cast
          (is_judged c.args.floor rules.size) is.messages is.rest is.are_messages.whole (λ v c. c));
    }
