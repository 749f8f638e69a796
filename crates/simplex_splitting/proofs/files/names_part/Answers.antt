use Rattle.std.proofs.Common.{rules, arith, ◌≡◌, ◌<◌, ◌^◌, ◌∙◌, ◌++◌, ℕ, List, ap, codes}
use Rattle.simplex_splitting.proofs.FileLemmas.{class_said}
use Rattle.simplex_splitting.proofs.files.names_part.Goals as goal

pub returns-in-Ok : goal.returns-in-Ok
returns-in-Ok c =
    let first : c.args.name.now ≡ c.args.prefix.now ++ c.in-Some.behind.now = search rules in
    let second : c.in-Some.behind.now ≡ codes "." ++ c.in-Some-strip_prefix.number.now = search rules in
    let third = c.in-Ok.ensures.number in
    let name = first ∙ ap (λ (t : List ℕ). c.args.prefix.now ++ t) second in
    let here : c.in-Ok.class < 2 ^ 64 = search rules in
    let most = c.ranges.classes.fits in
    let from = c.from.ensures in (
      (λ lt. (
        c.in-Ok.class,
        (let below : c.in-Ok.class < c.from.result = search rules in omega (arith, below, from)),
        name ∙ ap (λ (t : List ℕ). c.args.prefix.now ++ (codes "." ++ t)) third,
      )),
      (λ (class, below, is).
          let small : class < 2 ^ 64 = omega (arith, below, most) in
          let same = class_said c.args.prefix.now c.args.name.now c.in-Some-strip_prefix.number.now c.in-Ok.class class here
          small name third is in
          let lt : c.in-Ok.class < c.from.result = omega (arith, same, below, from) in
          search rules),
    )
