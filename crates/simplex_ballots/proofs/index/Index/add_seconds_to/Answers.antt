use Rattle.std.proofs.Common.{ap, append-nil, append_assoc, sym, take_all, [], ◌∷◌, ◌++◌, ◌∙◌}
use Rattle.std.specs.List.{flat_map}
use Rattle.simplex_ballots.specs.Firsts.{first_key}
use Rattle.simplex_ballots.specs.Index.{second_signer}
use Rattle.simplex_ballots.specs.declared.firsts.First.{First}
use Rattle.simplex_ballots.proofs.IndexLemmas.{seconds, appended_next}
use Rattle.simplex_ballots.proofs.index.Index.add_seconds_to.Goals as goal

pub others-init : goal.others-init
others-init c = c.in_ok-add_signers_to.ensures ∙ sym (append-nil _)

pub others-preserved : goal.others-preserved
others-preserved c =
    appended_next second_signer
    (c.args.signers.now.items ++ flat_map (λ (f : First). first_key f ∷ []) c.args.self.now.nullifies)
    c.others.signers.items c.add_if_second.new.signers.items c.as_slice-placed-items.result.now c.others.placed-index
    c.placed-item.result c.placed-item.result c.others-test.true c.placed-item.is c.others.invariant
    c.in_ok-add_if_second.ensures

pub returns : goal.returns
returns c =
    let nullifies = flat_map (λ (f : First). first_key f ∷ []) c.args.self.now.nullifies in
    c.others.invariant
    ∙ ap (λ placed. (c.args.signers.now.items ++ nullifies) ++ flat_map second_signer placed)
    (take_all c.others.placed-index c.as_slice-placed-items.result.now c.others-test.false
    ∙ c.as_slice-placed-items.ensures.items)
    ∙ append_assoc c.args.signers.now.items nullifies (flat_map second_signer c.args.self.now.others)
    ∙ ap (λ signers. c.args.signers.now.items ++ signers) (sym (seconds c.args.self.now))
