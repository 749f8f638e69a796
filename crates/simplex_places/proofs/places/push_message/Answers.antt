use Rattle.std.proofs.Common.{ℕ, ◌+◌, List}
use Rattle.simplex_base.specs.Format.{Format, fixed}
use Rattle.simplex_evidence.specs.Contents.{contents_value, signed_value}
use Rattle.simplex_votes.specs.Votes.{SignedVote}
use Rattle.simplex_places.specs.Places.{attestation_in, vote_places}
use Rattle.simplex_places.specs.declared.places.Placed.{Placed}
use Rattle.simplex_places.proofs.ContentsLemmas.{both_pushed, contents_fit, first_fits, second_fits, vote_encoding}
use Rattle.simplex_places.proofs.places.push_message.Given as given
use Rattle.simplex_places.proofs.places.push_message.Goals as goal

-- the formats of payloads and of signatures
abbrev payload : (g : given.Over) → Format g.row.D.Denot
payload g = fixed g.D.Fixed.SIZE g.D.Fixed.bytes_of g.D.Fixed.of_bytes

abbrev signature : (g : given.Over) → Format g.row.S-Signature.Denot
signature g = fixed g.S.Signature.Fixed.SIZE g.S.Signature.Fixed.bytes_of g.S.Signature.Fixed.of_bytes

abbrev encoded : (g : given.Over) → SignedVote g.row.D.Denot g.row.S-Signature.Denot → List ℕ
encoded g v =
    vote_encoding g.row.S.Denot g.row.S-PublicKey.Denot (payload g) g.S.Certificate.Encoding.encoding (signature g) v

-- where a vote stands from a place on
abbrev places_at : (g : given.Over) → SignedVote g.row.D.Denot g.row.S-Signature.Denot → ℕ → List Placed
places_at g v place =
    vote_places {S = g.row.S.Denot} {P = g.row.S-PublicKey.Denot} (payload g) (signature g) place v.subject (attestation_in v)

-- a vote
pub push_vote-requires : goal.push_vote-requires
push_vote-requires g c =
    let fits = contents_fit g.row.S.Denot g.row.S-PublicKey.Denot (payload g) g.S.Certificate.Encoding.encoding (signature g)
    g.D.PartialEq.eq c.args.place c.args.message.now (contents_value c.contents.result) c.contents.ensures.value c.requires in
    rw c.in-Vote.is at fits

-- a certificate
pub push_certificate-requires : goal.push_certificate-requires
push_certificate-requires g c =
    let fits = contents_fit g.row.S.Denot g.row.S-PublicKey.Denot (payload g) g.S.Certificate.Encoding.encoding (signature g)
    g.D.PartialEq.eq c.args.place c.args.message.now (contents_value c.contents.result) c.contents.ensures.value c.requires in
    rw c.in-Certificate.is at fits

-- the first of two votes
pub push_vote-requires-in-Evidence : goal.push_vote-requires-in-Evidence
push_vote-requires-in-Evidence g c =
    let fits = contents_fit g.row.S.Denot g.row.S-PublicKey.Denot (payload g) g.S.Certificate.Encoding.encoding (signature g)
    g.D.PartialEq.eq c.args.place c.args.message.now (contents_value c.contents.result) c.contents.ensures.value c.requires in
    first_fits (c.args.place + 1) (encoded g (signed_value c.in-Evidence.first)) (encoded g (signed_value c.in-Evidence.second))
    (rw c.in-Evidence.is at fits)

-- the second
pub push_vote-requires-in-Evidence-2 : goal.push_vote-requires-in-Evidence-2
push_vote-requires-in-Evidence-2 g c =
    let fits = contents_fit g.row.S.Denot g.row.S-PublicKey.Denot (payload g) g.S.Certificate.Encoding.encoding (signature g)
    g.D.PartialEq.eq c.args.place c.args.message.now (contents_value c.contents.result) c.contents.ensures.value c.requires in
    second_fits (c.args.place + 1) c.in_ok-next-in-Evidence.next (encoded g (signed_value c.in-Evidence.first))
    (encoded g (signed_value c.in-Evidence.second)) c.in_ok-next-in-Evidence.ensures.0 (rw c.in-Evidence.is at fits)

pub returns-in_ok-_end-in-Vote : goal.returns-in_ok-_end-in-Vote
returns-in_ok-_end-in-Vote g c = rw (← c.contents.ensures.value) (rw c.in-Vote.is c.in_ok-_end-in-Vote.ensures.1)

pub returns-in-Certificate : goal.returns-in-Certificate
returns-in-Certificate g c = rw (← c.contents.ensures.value) (rw c.in-Certificate.is c.push_certificate.ensures)

pub returns-in_ok-_end-in-Evidence : goal.returns-in_ok-_end-in-Evidence
returns-in_ok-_end-in-Evidence g c =
    rw (← c.contents.ensures.value) (rw c.in-Evidence.is
    (both_pushed _ _ _ _ (places_at g (signed_value c.in-Evidence.second)) _ _ c.in_ok-next-in-Evidence.ensures.0
    c.in_ok-next-in-Evidence.ensures.1 c.in_ok-_end-in-Evidence.ensures.1))
