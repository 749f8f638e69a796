use Rattle.std.proofs.Common.{Ok, not, ◌≡◌, ◌∙◌, sym, ap, decimal}
use Rattle.std.proofs.lemmas.Bool.{false≢true}
use Rattle.std.proofs.lemmas.Fmt.{parse-decimal}
use Rattle.std.proofs.lemmas.Slice.Eq.{bytes_eq-Decides}
use Rattle.simplex_cli.proofs.numbers.parse_number.Goals as goal

pub returns-in_default-clause-usage : goal.returns-in_default-clause-usage
returns-in_default-clause-usage c = λ number small e.
    let parsed =
    parse-decimal 64 number c.args.text.now c.parse.result small small e c.parse.ensures.value.0 in
    c.in_default.not-Ok number parsed

pub returns-then-ne-clause-usage : goal.returns-then-ne-clause-usage
returns-then-ne-clause-usage c = λ number small e.
    let parsed =
    parse-decimal 64 number c.args.text.now c.parse.result small small e c.parse.ensures.value.0 in
    let both : Ok number ≡ Ok c.in-Ok.number = sym parsed ∙ c.in-Ok.is in
    let is : number ≡ c.in-Ok.number = cc in
    let equal : c.format.result.now ≡ c.args.text.now = c.format.ensures.text ∙ (ap decimal (sym is) ∙ sym e) in
    false≢true
    (sym (c.ne.ensures ∙ ap not ((bytes_eq-Decides c.format.result.now c.args.text.now).1 equal)) ∙ c.if-ne.true)
