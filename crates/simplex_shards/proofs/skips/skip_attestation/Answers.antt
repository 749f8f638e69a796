use Rattle.simplex_base.specs.Format.{fixed}
use Rattle.simplex_shards.proofs.SkipLemmas.{skipped_attestation}
use Rattle.simplex_shards.proofs.skips.skip_attestation.Goals as goal

pub returns-clause-rest : goal.returns-clause-rest
returns-clause-rest g c =
    skipped_attestation (fixed g.S.Signature.Fixed.SIZE g.S.Signature.Fixed.bytes_of g.S.Signature.Fixed.of_bytes)
    c.args.bytes.now c.in_ok-signer.rest.now c.in_ok-skip_fixed.field-0.now c.in_ok-signer.signer c.in_ok-signer.ensures.rest
    c.in_ok-skip_fixed.ensures.rest
