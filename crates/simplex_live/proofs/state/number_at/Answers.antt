use Rattle.std.proofs.Common.{rules, arith, ◌≡◌, ◌∙◌, ap, take, drop, subst, sym, get_or, ◌<◌, ℕ}
use Rattle.std.proofs.lemmas.Grind.{common_steps}
use Rattle.simplex_live.proofs.StateLemmas.{number_read, part_bytes}
use Rattle.simplex_live.proofs.state.number_at.Goals as goal

pub returns-in-Some-first_chunk : goal.returns-in-Some-first_chunk
returns-in-Some-first_chunk c fits =
    let rest : c.in-Some.rest.now ≡ drop c.args.place c.args.bytes.now =
    grind (arith, common_steps, c.in-Some.ensures.lookup) in
    let all : (i : ℕ) → get_or c.args.bytes.now i 0 < 256 = search rules in
    let is = c.in-Some-first_chunk.ensures.cases.same ∙ ap (take 8) rest in
    number_read c.in-Some-first_chunk.number.now _ (search rules)
    (λ i. subst (λ xs. get_or xs i 0 < 256) (sym is) (part_bytes c.args.bytes.now 8 c.args.place all i))
    c.from_le_bytes.ensures ∙ is
