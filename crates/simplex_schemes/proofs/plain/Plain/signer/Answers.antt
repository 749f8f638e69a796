use Rattle.std.proofs.Common.{arith, rules, ◌≡◌, ◌<◌, length}
use Rattle.simplex_schemes.proofs.PlainLemmas.{key_at, none_is, not_outside}
use Rattle.std.proofs.lemmas.List.Elements.{All-weaker}
use Rattle.simplex_schemes.proofs.plain.Plain.signer.Goals as goal

pub returns-in_err-namespace-clause-outside : goal.returns-in_err-namespace-clause-outside
returns-in_err-namespace-clause-outside c none = absurd (not_outside _ _ _ c.in-Some.ensures.found none)

pub overflow_cast-place : goal.overflow_cast-place
overflow_cast-place c =
    let at : c.in-Some.place < length c.args.participants =
    (key_at c.args.participants c.in-Some.place c.args.key.now c.in-Some.ensures.found).0 in
    let few = c.requires.few in
    omega arith

pub invariant_of-result : goal.invariant_of-result
invariant_of-result c = (
  c.requires.some,
  c.requires.few,
  λ me is. let at : c.in-Some.place < length c.args.participants =
      (key_at c.args.participants c.in-Some.place c.args.key.now c.in-Some.ensures.found).0 in
      let same : c.new-3.result ≡ me = cc in omega (arith, c.new-3.ensures),
  c.new-2.ensures,
)

pub returns-clause-outside : goal.returns-clause-outside
returns-clause-outside c none = absurd (not_outside _ _ _ c.in-Some.ensures.found none)

pub returns-in_default-clause-inside : goal.returns-in_default-clause-inside
returns-in_default-clause-inside c =
    All-weaker _ _ (λ one. none_is one c.args.key.now) c.args.participants c.in_default.ensures.none

pub returns-clause-inside : goal.returns-clause-inside
returns-clause-inside c =
    let at = key_at c.args.participants c.in-Some.place c.args.key.now c.in-Some.ensures.found in
    (c.in-Some.place, at.1, search rules)
