use Rattle.std.proofs.Common.{◌+◌, ℕ, List, [], ◌∷◌, ◌++◌, map, take, sym, ap, ◌∙◌}
use Rattle.std.specs.Prelude.{Vec}
use Rattle.std.specs.Global.{Global}
use Rattle.std.specs.List.{flat_map}
use Rattle.std.proofs.lemmas.List.{take_all, take_more}
use Rattle.simplex_shards.specs.declared.ranges.Range.{Range}
use Rattle.simplex_ffi.specs.Rows.{ends_from}
use Rattle.simplex_ffi.proofs.ClassLemmas.{laid_out_more}
use Rattle.simplex_ffi.proofs.classes.lay_out.Goals as goal

pub parts-preserved : goal.parts-preserved
parts-preserved c =
    let parts = c.args.parts.now in
    let i = c.parts.part-index in
    let part = c.part-item.result in
    let here = ap (λ (p : Vec Range Global). take i parts ++ p ∷ []) (sym c.part-item.is) in
    laid_out_more (take i parts) part (take (i + 1) parts) (take_more parts i part c.parts-test.true ∙ here)
    c.parts.ranges.items c.extend_from_slice.new.self.items c.parts.ends.items c.push.new.self.items c.parts.invariant
    (c.in_ok-extend_from_slice.ensures.items ∙ ap (λ (l : List Range). c.parts.ranges.items ++ l) c.deref.ensures.value)
    (c.in_ok-push.ensures.items ∙ ap (λ (k : ℕ). c.parts.ends.items ++ k ∷ [])
    (c.len.ensures ∙ c.extend_from_slice.new.self.ok.0))

pub returns : goal.returns
returns c = (
  c.parts.invariant.0 ∙ ap (λ (l : List (Vec Range Global)). flat_map (λ part. part.items) l)
      (take_all c.parts.part-index c.args.parts.now c.parts-test.false),
  c.parts.invariant.1 ∙ ap (λ (l : List (Vec Range Global)). ends_from 0 (map (λ part. part.items) l))
      (take_all c.parts.part-index c.args.parts.now c.parts-test.false),
)
