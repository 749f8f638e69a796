use Rattle.std.proofs.Common.{rules, inl, inr, map, refl, string_bytes}
use Rattle.std.proofs.KnownBytes.{Keeps-refl}
use Rattle.simplex_live.proofs.EndingLemmas.{keys_fail}
use Rattle.simplex_live.proofs.live.hear_options.Goals as goal

-- without a file of keys
pub returns-in_default-clause-ends : goal.returns-in_default-clause-ends
returns-in_default-clause-ends g c = (map string_bytes c.args.behind.now, λ e. refl, inr c.hear_words.ensures.ends)

pub returns-in_err-named-clause-ends : goal.returns-in_err-named-clause-ends
returns-in_err-named-clause-ends g c = (
  map string_bytes c.args.behind.now,
  λ e. refl,
  inl (
    Keeps-refl _,
    (λ e. let is = c.in-Some.is in absurd cc),
    keys_fail c.in_err-named.field-0.0 c.from_residual.result (search rules) c.in_err-named.ensures,
  ),
)

-- with a file
pub returns-clause-ends : goal.returns-clause-ends
returns-clause-ends g c = (
  map string_bytes c.as_slice.result.now,
  λ e. let is = c.in-Some.is in absurd cc,
  inr c.hear_words-2.ensures.ends,
)
