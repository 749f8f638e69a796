use Rattle.std.proofs.Common.{◌≡◌, length, get_or, ap, sym, ◌∙◌, zero-add, refl}
use Rattle.std.specs.List.{range_with_len}
use Rattle.std.proofs.lemmas.Bool.{false≢true}
use Rattle.std.proofs.lemmas.List.{take_more}
use Rattle.std.proofs.lemmas.List.FromFn.{get_or-range_with_len}
use Rattle.simplex_lead.proofs.Orders.{range_more}
use Rattle.simplex_lead.proofs.elector.order.are_ascending.Goals as goal

-- a participant at another place than its number's
pub returns-then-get-place : goal.returns-then-get-place
returns-then-get-place c =
    let d = c.index-participants-place.result in
    let i = c.participants.place in
    let at : get_or (range_with_len 0 (length c.args.participants.now)) i d ≡ i =
    rw (get_or-range_with_len 0 (length c.args.participants.now) i d c.participants-test.true, zero-add) refl in (
      λ never. absurd (false≢true never),
      λ same.
          absurd (c.if-get-place.true (c.get.ensures ∙ (c.index-participants-place.is ∙ (ap (λ xs. get_or xs i d) same ∙ at)))),
    )

pub participants-preserved : goal.participants-preserved
participants-preserved c =
    let here = sym c.index-participants-place.is ∙ (sym c.get.ensures ∙ c.if-get-place.false) in
    rw (
      take_more c.args.participants.now c.participants.place c.index-participants-place.result c.participants-test.true,
      c.participants.invariant,
      here,
      range_more 0 c.participants.place,
      zero-add,
    ) refl
