use Rattle.std.proofs.lemmas.Option.{IfSome_then}
use Rattle.simplex_shards.proofs.skips.skip_certified.Goals as goal

pub returns-clause-rest : goal.returns-clause-rest
returns-clause-rest g c =
    IfSome_then c.skip_certificate.result c.skip_certificate.ensures.rest (λ rest skipped. (
      c.in_ok-rest.rest.now,
      c.in_ok-rest.ensures.rest,
      skipped,
    ))
