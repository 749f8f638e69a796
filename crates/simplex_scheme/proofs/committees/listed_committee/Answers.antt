use Rattle.std.proofs.Common.{◌∙◌, Err, Ok, ap, rules, sym}
use Rattle.std.proofs.lemmas.List.Sorted.{answers_always}
use Rattle.std.specs.Prelude.{option_map}
use Rattle.simplex_scheme.proofs.CommitteeLemmas.{entry_of, entry_at, searched}
use Rattle.simplex_scheme.proofs.committees.listed_committee.Goals as goal

pub returns-in-Ok : goal.returns-in-Ok
returns-in-Ok g c =
    let by_key = c.in-Ok.ensures.position (λ p. p.0) (answers_always _ _ _ (λ f a r h called. search rules)) in
    let at = (searched c.args.pairs.now c.requires c.args.epoch (Ok c.in-Ok.place) c.in-Ok.ensures.bound by_key).found in
    sym (ap (option_map (λ p. p.1)) (ap (entry_of c.args.pairs.now) (sym (at.1 c.index-pairs-place.result))
    ∙ entry_at c.args.pairs.now c.requires c.in-Ok.place c.index-pairs-place.result at.0))

pub returns-in-Err : goal.returns-in-Err
returns-in-Err g c =
    let by_key = c.in-Err.ensures.position (λ p. p.0) (answers_always _ _ _ (λ f a r h called. search rules)) in
    sym (ap (option_map (λ p. p.1))
    (searched c.args.pairs.now c.requires c.args.epoch (Err c.in-Err.field-0) c.in-Err.ensures.bound by_key).none)
