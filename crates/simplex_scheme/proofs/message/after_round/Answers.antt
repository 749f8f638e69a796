use Rattle.std.proofs.Common.{◌≡◌, ◌≢◌, ◌++◌, ℕ, List, MatchOption, ap, subst, ◌∙◌}
use Rattle.simplex_base.specs.Varint.{number_64}
use Rattle.simplex_scheme.proofs.MessageLemmas.{two_parts}
use Rattle.simplex_scheme.proofs.message.after_round.Goals as goal

pub returns-in-Some : goal.returns-in-Some
returns-in-Some c =
    let rest = c.in-Some.rest.now in
    let first : c.as_slice.result.now ≡ number_64.encoding c.args.round.epoch =
    c.as_slice.ensures ∙ c.new.ensures.wide ∙ ap number_64.encoding (c.get.ensures ∙ c.epoch.ensures) in
    let second : c.as_slice-in-Some.result.now ≡ number_64.encoding c.args.round.view =
    c.as_slice-in-Some.ensures ∙ c.new-in-Some.ensures.wide ∙ ap number_64.encoding (c.get-in-Some.ensures ∙ c.view.ensures) in
    two_parts c.args.bytes.now (number_64.encoding c.args.round.epoch) (number_64.encoding c.args.round.view) rest
    c.after-in-Some.result (c.in-Some.ensures ∙ ap (λ p. p ++ rest) first)
    (subst (λ p. MatchOption c.after-in-Some.result ((x : List ℕ) → rest ≢ p ++ x) (λ x. rest ≡ p ++ x.now)) second
    c.after-in-Some.ensures)
