use Rattle.std.proofs.Common.{ap, arith, get_or, length, refl, subst, sym, ◌+◌, ◌∙◌}
use Rattle.std.specs.Option.{IsSome}
use Rattle.simplex_ballots.specs.Firsts.{held_from, vacant}
use Rattle.simplex_ballots.proofs.TableLemmas.{fills_grown, free_behind, grown, held_item, held_some, item_in}
use Rattle.simplex_ballots.proofs.firsts.insert_in.Goals as goal
use Rattle.simplex_ballots.proofs.firsts.insert_in.Goals.{then-len-index+in_ok-resize, else-len-index}

pub returns-then-place_in-clause-taken : goal.returns-then-place_in-clause-taken
returns-then-place_in-clause-taken c ok =
    subst IsSome (sym (item_in c.args.places.now.items c.args.first.signer
    ∙ ap (held_item c.args.first.signer)
    (ap (λ ps. get_or ps c.args.first.signer vacant) (sym c.deref.ensures.value) ∙ sym c.place_in.ensures)
    ∙ held_some c.args.first.signer c.place_in.result c.if-place_in.true)) refl

pub returns-clause-added : goal.returns-clause-added
returns-clause-added c ok =
    let old = c.args.places.now.items in
    let i = c.get-index.result in
    elim c.if-len-index.branch [
      | then-len-index+in_ok-resize w ↦
          let behind = w.if-len-index.true in
          let size = c.len.ensures in
          let longer = ap (λ v. length v.items) w.places-is in
          fills_grown old c.if-len-index.places.items i c.args.first c.get-index.ensures
          (ap (λ v. held_from 0 v.items) w.places-is ∙ ap (held_from 0) w.in_ok-resize.ensures.items
          ∙ grown old (i + 1) _ (omega (arith, behind, size)))
          (omega (arith, longer, w.in_ok-resize.ensures.len, w.resize.new.self.ok.0))
          (ap (λ v. get_or v.items i vacant) w.places-is ∙ ap (λ ps. get_or ps i vacant) w.in_ok-resize.ensures.items
          ∙ free_behind old (i + 1) _ i (omega (arith, behind, size)) (omega (arith, behind, size))
          (omega (arith, behind, size, c.args.places.now.ok.0))) c.requires
      | else-len-index w ↦
          let longer = ap (λ v. length v.items) w.places-is in
          fills_grown old c.if-len-index.places.items i c.args.first c.get-index.ensures
          (ap (λ v. held_from 0 v.items) w.places-is) (omega (arith, longer, w.if-len-index.false, c.len.ensures))
          (ap (λ v. get_or v.items i vacant) w.places-is ∙ ap (λ k. get_or old k vacant) c.get-index.ensures
          ∙ ap (λ ps. get_or ps c.args.first.signer vacant) (sym c.deref.ensures.value) ∙ sym c.place_in.ensures
          ∙ c.if-place_in.false) c.requires
    ]
