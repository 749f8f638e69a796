use Rattle.simplex_shards.proofs.skips.skip_signed.Goals as goal

pub returns-clause-rest : goal.returns-clause-rest
returns-clause-rest g c =
    let second = c.in_ok-rest-2.ensures.rest in
    (c.in_ok-rest.rest.now, c.in_ok-rest.ensures.rest, (second.0, second.2))
