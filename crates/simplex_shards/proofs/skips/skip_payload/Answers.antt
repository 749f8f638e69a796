use Rattle.std.proofs.lemmas.Option.{IfSome_then}
use Rattle.simplex_base.specs.Format.{fixed_at}
use Rattle.simplex_base.specs.Varint.{number_64}
use Rattle.simplex_shards.proofs.SkipLemmas.{skipped_both}
use Rattle.simplex_shards.proofs.skips.skip_payload.Goals as goal

pub returns-clause-rest : goal.returns-clause-rest
returns-clause-rest g c =
    IfSome_then c.skip_fixed.result c.skip_fixed.ensures.rest (λ rest skipped.
    skipped_both number_64.reading (fixed_at g.D.Fixed.SIZE g.D.Fixed.of_bytes) c.args.bytes.now c.in_ok-rest.rest.now
    rest.now c.in_ok-rest.field-0-0 c.in_ok-rest.ensures.rest skipped)
