use Rattle.simplex_rules.proofs.Prelude.{All, All-push, IsEncoded, fixed, subst, sym}
use Rattle.simplex_ballots.proofs.round_votes.push_found.Goals as goal

pub returns-in_ok-push-clause-encoded : goal.returns-in_ok-push-clause-encoded
returns-in_ok-push-clause-encoded g c = λ old.
    let P = IsEncoded g.D.PartialEq.eq (fixed g.D.Fixed.SIZE g.D.Fixed.bytes_of g.D.Fixed.of_bytes)
    (fixed g.S.Signature.Fixed.SIZE g.S.Signature.Fixed.bytes_of g.S.Signature.Fixed.of_bytes) in
    subst (All P) (sym c.in_ok-push.ensures.items) (All-push P _ _ old c.encode_size.ensures.encoded)
