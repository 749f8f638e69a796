use Rattle.std.proofs.Common.{◌≡◌, ◌*◌, ◌++◌, length, drop}
use Rattle.simplex_ffi.specs.Messages.{attestations_by}
use Rattle.simplex_ffi.proofs.encoding.attestations_of.Given as goal

abbrev pub invariant-signers : goal.invariant-signers
invariant-signers g l = record {
  room : length l.rest ≡ length (drop l.signer-index l.signers) * g.S.Signature.Fixed.SIZE;
  made : l.attestations.items ++ attestations_by g.S.Signature.Fixed.of_bytes g.S.Signature.Fixed.SIZE
      (drop l.signer-index l.signers) l.rest
      ≡ attestations_by g.S.Signature.Fixed.of_bytes g.S.Signature.Fixed.SIZE l.fn.signers l.fn.signatures;
}
