use Rattle.std.proofs.Common.{ℕ, ◌+◌, ◌/◌, ◌%◌, ap, sym, ◌∙◌}
use Rattle.std.proofs.Math.Nat.{add-mod}
use Rattle.std.specs.Int.NonZero.{non_zero_u64_get}
use Rattle.simplex_shards.proofs.cut.range_of.Goals as goal

pub returns-clause-value : goal.returns-clause-value
returns-clause-value c =
    let epoch = c.args.round.epoch in
    let view = c.args.round.view in
    let width = non_zero_u64_get c.args.width in
    let m = c.from-classes.result in
    sym (add-mod c.get-4.result (c.get.result / c.get-2.result) m)
    ∙ (ap (λ (e : ℕ). (e + c.get.result / c.get-2.result) % m) (c.get-4.ensures ∙ c.epoch.ensures)
    ∙ (ap (λ (v : ℕ). (epoch + v / c.get-2.result) % m) (c.get.ensures ∙ c.view.ensures)
    ∙ (ap (λ (w : ℕ). (epoch + view / w) % m) c.get-2.ensures.value
    ∙ ap (λ (n : ℕ). (epoch + view / width) % n) (c.from-classes.ensures ∙ c.get-3.ensures.value))))
