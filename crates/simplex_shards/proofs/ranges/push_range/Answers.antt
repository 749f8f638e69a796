use Rattle.std.proofs.Common.{◌≡◌, ◌-◌, ℕ, List, Some, length, refl, ap, ◌∙◌}
use Rattle.std.specs.Prelude.{slice_get, slice_set}
use Rattle.simplex_shards.specs.Ranges.{joined}
use Rattle.simplex_shards.specs.declared.ranges.Range.{Range}
use Rattle.simplex_shards.proofs.RangeLemmas.{pushed_apart, pushed_next}
use Rattle.simplex_shards.proofs.ranges.push_range.Goals as goal

pub returns-then-not-is_next : goal.returns-then-not-is_next
returns-then-not-is_next c =
    let rs = c.args.ranges.now.items in
    let last : Some c.in-Some.last.now ≡ slice_get rs (length rs - 1) =
    c.in-Some.ensures.value ∙ ap (λ (xs : List Range). slice_get xs (length xs - 1)) c.deref.ensures.value in
    c.in_ok-push-2.ensures.items ∙ pushed_apart rs c.in-Some.last.now c.args.range last
    (λ e. let next = c.is_next.ensures.1 e in let apart = c.if-not-is_next.true in absurd cc)

pub returns : goal.returns
returns c =
    let rs = c.args.ranges.now.items in
    let last : Some c.in-Some.last.now ≡ slice_get rs (length rs - 1) =
    c.in-Some.ensures.value ∙ ap (λ (xs : List Range). slice_get xs (length xs - 1)) c.deref.ensures.value in
    let len = c.len-end.ensures ∙ c.args.ranges.now.ok.0 in
    ap (λ (n : ℕ). slice_set rs (n - 1) (joined c.in-Some.last.now c.args.range)) len
    ∙ pushed_next rs c.in-Some.last.now c.args.range last (c.is_next.ensures.0 c.if-not-is_next.false)
