use Rattle.std.proofs.Common.{ap, option_map, sym, ◌∙◌}
use Rattle.simplex_ballots.specs.Firsts.{first_place_of}
use Rattle.simplex_ballots.proofs.TableLemmas.{held_item, held_some, item_in}
use Rattle.simplex_ballots.proofs.firsts.find_in.Goals as goal

pub returns-then-place-clause-none : goal.returns-then-place-clause-none
returns-then-place-clause-none c =
    item_in c.args.places.now c.args.signer
    ∙ ap (held_item c.args.signer) (sym c.place_in-place.ensures ∙ c.if-place.true)

pub returns-clause-found : goal.returns-clause-found
returns-clause-found c =
    ap (option_map first_place_of) (item_in c.args.places.now c.args.signer
    ∙ ap (held_item c.args.signer) (sym c.place_in-place.ensures)
    ∙ held_some c.args.signer c.place_in-place.result c.if-place.false)
