use Rattle.std.proofs.Common.{◌≡◌, [], ap, map, string_bytes, sym, subst, List, ℕ, ◌∙◌, Err, inl, inr}
use Rattle.std.proofs.lemmas.Result.{err_from_is_err_and}
use Rattle.simplex_cli.specs.Arguments.{AreGroups, NameCommittees}
use Rattle.simplex_cli.specs.declared.status.Failure.TheVariants as failures
use Rattle.simplex_cli.proofs.ArgumentLemmas.{no_rising, no_texts_named, not_one, refused_empty}
use Rattle.simplex_cli.proofs.arguments.parse_committees.Goals as goal

pub returns-then-count_keys-gt0-clause-committees : goal.returns-then-count_keys-gt0-clause-committees
returns-then-count_keys-gt0-clause-committees g c =
    subst (NameCommittees (g.S.Named.naming c.args.common.now) (map string_bytes c.args.texts.now)) (sym c.every.ensures)
    c.in_ok-committee.ensures.committee

pub returns-in_err-committee-clause-usage : goal.returns-in_err-committee-clause-usage
returns-in_err-committee-clause-usage g c = λ usage.
    let p = err_from_is_err_and c.from_residual.result c.from_residual.ensures.1 in
    let failed = sym (p.1 ∙ ap Err p.2) ∙ usage in
    let is : c.in_err-committee.field-0.0 ≡ failures.Usage = cc in
    not_one (g.S.Named.naming c.args.common.now) (map string_bytes c.args.texts.now) c.count_keys.result
    c.if-count_keys-gt0.true c.count_keys.ensures.keys (c.in_err-committee.ensures.usage (ap Err is))

pub returns-in_err-pairs-clause-usage : goal.returns-in_err-pairs-clause-usage
returns-in_err-pairs-clause-usage g c = λ usage.
    let p = err_from_is_err_and c.from_residual-in_err-pairs.result c.from_residual-in_err-pairs.ensures.1 in
    let failed = sym (p.1 ∙ ap Err p.2) ∙ usage in
    let is : c.in_err-pairs.field-0.0 ≡ failures.Usage = cc in
    no_rising (g.S.Named.naming c.args.common.now) (g.S.Named.is_naming c.args.common.now) (map string_bytes c.args.texts.now)
    c.count_keys.result c.if-count_keys-gt0.false c.count_keys.ensures.group (c.in_err-pairs.ensures.usage (ap Err is))

pub returns-in-Ok-clause-committees : goal.returns-in-Ok-clause-committees
returns-in-Ok-clause-committees g c =
    let listed = c.in-Ok.ensures.listed in
    subst (NameCommittees (g.S.Named.naming c.args.common.now) (map string_bytes c.args.texts.now)) (sym listed.0)
    (listed.1, listed.2, c.in_ok-pairs.ensures.groups)

pub returns-in-Err-clause-usage : goal.returns-in-Err-clause-usage
returns-in-Err-clause-usage g c = λ usage.
    let pairs = c.in_ok-pairs.pairs.items in
    let none : pairs ≡ [] = refused_empty c.in-Err.field-0 pairs (c.in-Err.ensures.empty.0, c.in-Err.ensures.unordered.0)
    c.in_ok-pairs.ensures.rising in
    let texts = map string_bytes c.args.texts.now in
    let naming = g.S.Named.naming c.args.common.now in
    no_texts_named naming (g.S.Named.is_naming c.args.common.now) texts
    (subst (λ (ps : List (ℕ × g.row.S.Denot)). AreGroups naming texts ps) none c.in_ok-pairs.ensures.groups)

pub returns-in_err-committee-clause-memory : goal.returns-in_err-committee-clause-memory
returns-in_err-committee-clause-memory g c = λ memory.
    let p = err_from_is_err_and c.from_residual.result c.from_residual.ensures.1 in
    let failed = sym (p.1 ∙ ap Err p.2) ∙ memory in
    let is : c.in_err-committee.field-0.0 ≡ failures.OutOfMemory = cc in
    inl (c.in_err-committee.ensures.memory (ap Err is))

pub returns-in_err-pairs-clause-memory : goal.returns-in_err-pairs-clause-memory
returns-in_err-pairs-clause-memory g c = λ memory.
    let p = err_from_is_err_and c.from_residual-in_err-pairs.result c.from_residual-in_err-pairs.ensures.1 in
    let failed = sym (p.1 ∙ ap Err p.2) ∙ memory in
    let is : c.in_err-pairs.field-0.0 ≡ failures.OutOfMemory = cc in
    inr (c.in_err-pairs.ensures.memory (ap Err is))
