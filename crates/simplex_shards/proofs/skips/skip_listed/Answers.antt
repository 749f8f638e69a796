use Rattle.std.proofs.lemmas.Option.{IfSome_then}
use Rattle.simplex_base.specs.Format.{fixed}
use Rattle.simplex_shards.proofs.SkipLemmas.{skipped_listed}
use Rattle.simplex_shards.proofs.skips.skip_listed.Goals as goal

pub returns-clause-rest : goal.returns-clause-rest
returns-clause-rest g c =
    IfSome_then c.skip_attestations.result c.skip_attestations.ensures.rest (λ rest skipped.
    skipped_listed _ _ (fixed g.S.Signature.Fixed.SIZE g.S.Signature.Fixed.bytes_of g.S.Signature.Fixed.of_bytes)
    c.args.bound c.in_ok-count.count c.args.bytes.now c.in_ok-count.rest.now rest.now c.in_ok-count.ensures.rest
    c.if-count-eq0.false c.if-count-bound.false skipped)
