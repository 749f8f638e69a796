use Rattle.std.proofs.Common.{◌≡◌, ◌++◌, List, map, zip, refl, ap, subst, ◌∙◌}
use Rattle.simplex_base.specs.Format.{fixed}
use Rattle.simplex_evidence.specs.Activity.{votes_in}
use Rattle.simplex_places.specs.FirstPlaces.{Notes, carried_at, votes_placed}
use Rattle.simplex_places.specs.Places.{message_places}
use Rattle.simplex_places.specs.declared.places.Placed.{Placed}
use Rattle.simplex_places.proofs.PlaceLemmas.{finds_one}
use Rattle.simplex_places.proofs.first_places.FinderVisitorActivity.take.Goals as goal

pub returns : goal.returns
returns g c =
    let cmp = g.K.Ord.cmp in
    let eq = g.K.PartialEq.eq in
    let key_of = g.K.Key.key_of in
    let listed = g.S.Listing.listed in
    let places = message_places (fixed g.D.Fixed.SIZE g.D.Fixed.bytes_of g.D.Fixed.of_bytes)
    (fixed g.S.Signature.Fixed.SIZE g.S.Signature.Fixed.bytes_of g.S.Signature.Fixed.of_bytes) listed in
    let place = c.args.self.now.place in
    let all = places place c.args.message.now in
    let placed : c.deref.result.now ≡ all =
    c.deref.ensures.value ∙ (c.in_ok-push_message.ensures ∙ ap (λ (l : List Placed). l ++ all) c.clear.ensures.items) in
    finds_one cmp eq key_of (votes_placed (votes_in listed) places) _ c.args.message.now c.args.size c.args.self.now _
    c.requires.size
    (subst (λ (l : List Placed). Notes cmp eq key_of (zip (votes_in listed c.args.message.now) (map (carried_at place) l))
    c.args.self.now.places c.note_message.new.places) placed c.note_message.ensures) refl
