use Rattle.std.proofs.Common.{◌≡◌, ◌<◌, ◌∙◌, sym, ap, length, slice_index, zero-add, arith, refl}
use Rattle.std.specs.List.{range_with_len}
use Rattle.std.specs.Option.{option_map}
use Rattle.std.proofs.lemmas.List.FromFn.{get_or-range_with_len, length-range_with_len}
use Rattle.simplex_lead.specs.Rotation.{entries}
use Rattle.simplex_lead.proofs.elector.order.Order.get.Goals as goal

pub returns-in-None : goal.returns-in-None
returns-in-None c =
    let n = c.self.inside.participants in
    let view : range_with_len 0 n ≡ c.args.self.now =
    ap (λ stored. entries n (option_map (λ order. order.items) stored)) (sym c.in-None.is) ∙ c.self.view_is in
    let within : c.args.place < n = omega (arith, c.requires, ap length view, length-range_with_len 0 n) in
    let at : slice_index (range_with_len 0 n) c.args.place ≡ c.args.place =
    rw (get_or-range_with_len 0 n c.args.place 0 within, zero-add) refl in
    c.new.ensures ∙ (sym at ∙ ap (λ order. slice_index order c.args.place) view)
