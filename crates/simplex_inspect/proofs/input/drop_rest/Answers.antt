use Rattle.std.proofs.Common.{rules, arith, ◌≡◌, ◌+◌, ◌++◌, ◌∙◌, length, take, length-append}
use Rattle.std.proofs.KnownBytes.{Consumes-trans}
use Rattle.std.proofs.lemmas.List.{length-take-le}
use Rattle.simplex_inspect.proofs.input.drop_rest.Goals as goal

pub drops-preserved : goal.drops-preserved
drops-preserved g c =
    let (more, consumed, count) = c.drops.invariant.2 in
    let piece = take c.in_ok-more.more c.read_some.new.piece in
    let came = length-take-le c.in_ok-more.more c.read_some.new.piece c.in_ok-more.ensures.within in (
      search rules,
      search rules,
      (
        more ++ piece,
        Consumes-trans _ _ _ _ _ consumed c.in_ok-more.ensures.bytes,
        omega (arith, count, came, length-append more piece),
      ),
    )

pub returns-then-more-count-clause-bytes : goal.returns-then-more-count-clause-bytes
returns-then-more-count-clause-bytes g c =
    let (more, consumed, count) = c.drops.invariant.2 in
    (more ++ _, Consumes-trans _ _ _ _ _ consumed c.in_ok-more.ensures.bytes)

pub returns-then-more-count-clause-too_long : goal.returns-then-more-count-clause-too_long
returns-then-more-count-clause-too_long g c = λ e.
    let (more, consumed, count) = c.drops.invariant.2 in
    let piece = take c.in_ok-more.more c.read_some.new.piece in
    let came = length-take-le c.in_ok-more.more c.read_some.new.piece c.in_ok-more.ensures.within in
    let many = c.if-more-count.true in (
      more ++ piece,
      omega (arith, count, came, many, length-append more piece),
      Consumes-trans _ _ _ _ _ consumed c.in_ok-more.ensures.bytes,
    )
