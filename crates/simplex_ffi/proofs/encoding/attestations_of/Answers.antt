use Rattle.simplex_ffi.proofs.SignerLemmas.{attestations_more, attestations_whole, room_more}
use Rattle.simplex_ffi.proofs.encoding.attestations_of.Goals as goal

pub split_at-requires : goal.split_at-requires
split_at-requires g c =
    let room = room_more g.S.Signature.Fixed.SIZE c.args.signers.now c.signers.signer-index c.signers.rest.now
    c.signers-test.true c.signers.invariant.room in
    rw c.SIZE.ensures room.0

pub signers-preserved : goal.signers-preserved
signers-preserved g c =
    let size = g.S.Signature.Fixed.SIZE in
    let room = room_more size c.args.signers.now c.signers.signer-index c.signers.rest.now c.signers-test.true
    c.signers.invariant.room in
    let more = attestations_more g.S.Signature.Fixed.of_bytes size c.args.signers.now c.signers.signer-index
    c.signers.rest.now c.signers.attestations.items _ c.signers-test.true c.signers.invariant.made in
    record {
      room = rw (c.split_at.ensures.back, c.SIZE.ensures) room.1;
      made = rw (
        c.in_ok-push.ensures.items,
        c.attestation_of.ensures,
        c.split_at.ensures.front,
        c.split_at.ensures.back,
        c.SIZE.ensures,
      ) more;
    }

pub returns : goal.returns
returns g c =
    attestations_whole g.S.Signature.Fixed.of_bytes g.S.Signature.Fixed.SIZE c.args.signers.now c.signers.signer-index
    c.signers.rest.now c.signers.attestations.items _ c.signers-test.false c.signers.invariant.made
