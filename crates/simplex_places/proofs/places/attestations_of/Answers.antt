use Rattle.std.proofs.Common.{◌≡◌, ◌++◌, List, map, ap, subst, sym, ◌∙◌}
use Rattle.simplex_base.specs.Format.{Format, fixed}
use Rattle.simplex_evidence.specs.Activity.{votes_in}
use Rattle.simplex_places.specs.Bytes.{AreSomeAt}
use Rattle.simplex_places.specs.Places.{message_places}
use Rattle.simplex_places.specs.declared.places.AttestationPlace.{AttestationPlace}
use Rattle.simplex_places.specs.declared.places.Placed.{Placed}
use Rattle.simplex_places.proofs.ByteLemmas.{front_stands}
use Rattle.simplex_places.proofs.places.attestations_of.Given as given
use Rattle.simplex_places.proofs.places.attestations_of.Goals as goal

abbrev payload : (g : given.Over) → Format g.row.D.Denot
payload g = fixed g.D.Fixed.SIZE g.D.Fixed.bytes_of g.D.Fixed.of_bytes

abbrev signature : (g : given.Over) → Format g.row.S-Signature.Denot
signature g = fixed g.S.Signature.Fixed.SIZE g.S.Signature.Fixed.bytes_of g.S.Signature.Fixed.of_bytes

pub returns-clause-votes : goal.returns-clause-votes
returns-clause-votes g c = λ bytes rest is.
    let all = message_places (payload g) (signature g) g.S.Listing.listed 0 c.args.message.now in
    let found : c.in_ok-found.found.items ≡ map (λ (p : Placed). p.attestation) all =
    c.in_ok-found.ensures
    ∙ ap (map (λ (p : Placed). p.attestation))
    (c.deref.ensures.value
    ∙ (c.in_ok-push_message.ensures ∙ ap (λ (l : List Placed). l ++ all) c.new-placed.ensures.items)) in
    subst (λ (l : List AttestationPlace). AreSomeAt (payload g) (signature g)
    (votes_in g.S.Listing.listed c.args.message.now) bytes l) (sym found)
    (front_stands g.row.S.Denot g.row.S-PublicKey.Denot g.D.PartialEq.eq (payload g) g.S.Certificate.Encoding.encoding
    (signature g) g.S.Listing.listed g.met.S.Counted.counted c.args.message.now bytes rest is)
