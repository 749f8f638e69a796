use Rattle.std.proofs.Common.{sym, subst}
use Rattle.std.specs.Prelude.{All, Contains}
use Rattle.std.specs.List.{flat_map}
use Rattle.simplex_base.specs.Format.{fixed}
use Rattle.simplex_evidence.specs.Activity.{votes_in}
use Rattle.simplex_rules.specs.Scheme.{rules_of, scheme_of}
use Rattle.simplex_places.specs.Suspects.{is_sought, suspected_in}
use Rattle.simplex_places.proofs.ByteLemmas.{IsCast, passing_stand}
use Rattle.simplex_places.proofs.suspects.suspects_are_votes.Goals as goal

pub returns : goal.returns
returns g c committees stream found are =
    let eq = g.D.PartialEq.eq in
    let payload = fixed g.D.Fixed.SIZE g.D.Fixed.bytes_of g.D.Fixed.of_bytes in
    let signature = fixed g.S.Signature.Fixed.SIZE g.S.Signature.Fixed.bytes_of g.S.Signature.Fixed.of_bytes in
    let listed = g.S.Listing.listed in
    let rules = rules_of (scheme_of g.D.PartialEq.eq g.S.CertificateScheme.keys g.S.Scheme.good
    g.S.CertificateVerifier.certified g.S.Listing.listed) committees in
    let cast = Contains (flat_map (votes_in listed) are.messages) in
    record {
      messages = are.messages;
      rest = are.rest;
      are_messages = are.are_messages;
      each =
          subst (All (IsCast payload signature stream cast))
          (sym are.found_are)
          (passing_stand eq payload g.S.Certificate.Encoding.encoding signature listed g.met.S.Counted.counted stream cast
          (is_sought (suspected_in rules are.messages) rules.size) are.messages are.rest are.are_messages.whole (λ v c. c));
    }
