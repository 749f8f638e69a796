use Rattle.std.proofs.Common.{None, Option, Some, ap, false, option_map, sym, subst, ◌∙◌, ◌≡◌}
use Rattle.std.specs.Prelude.{IfOk, OnErr}
use Rattle.std.specs.Option.{option_or}
use Rattle.simplex_evidence.specs.VoteMap.{item_of}
use Rattle.simplex_ballots.specs.Ballots.{vote_key}
use Rattle.simplex_ballots.specs.Firsts.{first_key, first_place_of}
use Rattle.simplex_ballots.specs.Index.{as_placed, place_of, placed_at, placed_key}
use Rattle.simplex_ballots.specs.declared.placed.Placed.{Placed}
use Rattle.simplex_ballots.proofs.IndexLemmas.{earliest, held_first, later}
use Rattle.simplex_ballots.proofs.index.Index.find.Goals as goal

-- the other vote is among the others
pub returns-then-is_other-clause-found : goal.returns-then-is_other-clause-found
returns-then-is_other-clause-found c =
    let index = c.args.self.now in
    subst (λ (o : Option Placed). IfOk c.other_place.result (λ place. option_map place_of o ≡ Some place))
    (sym (ap (placed_at index c.args.signer c.args.kind) c.if-is_other.true ∙ later index c.args.signer c.args.kind))
    c.other_place.ensures.found

pub returns-then-is_other-clause-none : goal.returns-then-is_other-clause-none
returns-then-is_other-clause-none c =
    let index = c.args.self.now in
    subst (λ (o : Option Placed). OnErr c.other_place.result (o ≡ None))
    (sym (ap (placed_at index c.args.signer c.args.kind) c.if-is_other.true ∙ later index c.args.signer c.args.kind))
    c.other_place.ensures.none

-- the earliest is in the list of its kind
pub returns-in-Ok-clause-found : goal.returns-in-Ok-clause-found
returns-in-Ok-clause-found c =
    let index = c.args.self.now in
    ap (option_map place_of) (ap (placed_at index c.args.signer c.args.kind) c.if-is_other.false
    ∙ earliest index c.args.signer c.args.kind)
    ∙ held_first _ c.args.kind _ c.in-Ok.place
    (ap (λ fs. option_map first_place_of (item_of first_key fs c.args.signer)) (sym c.firsts.ensures) ∙ c.in-Ok.ensures.found)

-- or among the others
pub returns-in-Ok-other_place-clause-found : goal.returns-in-Ok-other_place-clause-found
returns-in-Ok-other_place-clause-found c =
    let index = c.args.self.now in
    let kind = c.args.kind in
    let rest = item_of placed_key index.others (vote_key c.args.signer kind false) in
    ap (option_map place_of) (ap (placed_at index c.args.signer kind) c.if-is_other.false ∙ earliest index c.args.signer kind
    ∙ ap (λ o. option_or (option_map (as_placed kind) o) rest)
    (ap (λ fs. item_of first_key fs c.args.signer) (sym c.firsts.ensures) ∙ c.in-Err.ensures.none))
    ∙ c.in-Ok-other_place.ensures.found

-- or nowhere
pub returns-in-Err-other_place-clause-none : goal.returns-in-Err-other_place-clause-none
returns-in-Err-other_place-clause-none c =
    let index = c.args.self.now in
    let kind = c.args.kind in
    let rest = item_of placed_key index.others (vote_key c.args.signer kind false) in
    ap (placed_at index c.args.signer kind) c.if-is_other.false ∙ earliest index c.args.signer kind
    ∙ ap (λ o. option_or (option_map (as_placed kind) o) rest)
    (ap (λ fs. item_of first_key fs c.args.signer) (sym c.firsts.ensures) ∙ c.in-Err.ensures.none)
    ∙ c.in-Err-other_place.ensures.none
