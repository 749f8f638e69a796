use Rattle.std.proofs.Common.{ℕ, ap, ◌∙◌}
use Rattle.std.proofs.lemmas.Result.{IfOk-weaker}
use Rattle.simplex_base.specs.Format.{fixed}
use Rattle.simplex_evidence.specs.Activity.{activity_encoding}
use Rattle.simplex_scheme.specs.Committees.{committee_of, size_by}
use Rattle.simplex_rules.specs.Scheme.{rules_of, scheme_of}
use Rattle.simplex_places.specs.Places.{message_places, places_along}
use Rattle.simplex_places.specs.Suspects.{sought_of, suspected_by, suspected_in}
use Rattle.simplex_places.proofs.SuspectLemmas.{sought_alike}
use Rattle.simplex_places.proofs.suspects.suspects.Goals as goal

pub returns-clause-listed : goal.returns-clause-listed
returns-clause-listed g c =
    let committees = c.args.committees.now in
    let payload = fixed g.D.Fixed.SIZE g.D.Fixed.bytes_of g.D.Fixed.of_bytes in
    let signature = fixed g.S.Signature.Fixed.SIZE g.S.Signature.Fixed.bytes_of g.S.Signature.Fixed.of_bytes in
    let rules = rules_of (scheme_of g.D.PartialEq.eq g.S.CertificateScheme.keys g.S.Scheme.good
    g.S.CertificateVerifier.certified g.S.Listing.listed) committees in
    let size : ℕ → ℕ = λ epoch. size_by g.S.CertificateScheme.keys (committee_of committees epoch) in
    let read = c.in_ok-claims.ensures c.reading_bound-bound.ensures.value in
    let places = places_along (message_places payload signature g.S.Listing.listed)
    (activity_encoding g.D.PartialEq.eq payload g.S.Certificate.Encoding.encoding signature) 0 read.messages in
    let claimed = suspected_by c.in_ok-suspects.suspects in
    let lawful = c.reading_bound-bound.ensures.lawful in
    IfOk-weaker c.sought.result _ _ (λ found is. record {
      messages = read.messages;
      rest = read.rest;
      are_messages = read.are_messages;
      found_are = is ∙ (ap (sought_of claimed size) (c.as_slice.ensures.value ∙ read.places_are)
          ∙ sought_alike claimed (suspected_in rules read.messages) size (record {
            signers = c.in_ok-suspects.ensures.signers committees read.messages lawful read.recalled;
            rounds = c.in_ok-suspects.ensures.rounds committees read.messages lawful read.recalled;
          }) places);
    }) c.sought.ensures

pub returns-clause-votes : goal.returns-clause-votes
returns-clause-votes g c =
    IfOk-weaker c.sought.result _ _
    (λ found. c.suspects_are_votes.ensures c.args.committees.now c.args.stream.now found.items) (returns-clause-listed g c)
