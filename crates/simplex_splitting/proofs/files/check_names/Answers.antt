use Rattle.std.proofs.Common.{rules, arith, ◌<◌, ◌≤◌, ℕ, [], List, inl, inr, get_or, length, map, string_bytes, subst, sym}
use Rattle.std.proofs.lemmas.Bool.{cases_eq}
use Rattle.std.proofs.lemmas.List.{length-map}
use Rattle.simplex_splitting.specs.Files.{NamesPart}
use Rattle.simplex_splitting.proofs.FileLemmas.{same_within}
use Rattle.simplex_splitting.proofs.LineLemmas.{name_there}
use Rattle.simplex_splitting.proofs.files.check_names.Goals as goal

pub returns-then-names_part-clause-named : goal.returns-then-names_part-clause-named
returns-then-names_part-clause-named c =
    let same = c.names.invariant.0 in
    let within : c.names.name-index < length c.args.names.now = search rules in
    let len = length-map c.args.names.now string_bytes in
    let there = name_there c.args.names.now c.names.name-index c.name-item.result within c.name-item.is in
    let named : NamesPart c.args.prefix.now c.args.classes (string_bytes c.name-item.result) = search rules in
    rw same (
    record {
      within = omega (arith, within, len);
      named = subst (NamesPart c.args.prefix.now c.args.classes) (sym there) named;
      before = c.names.invariant.1;
    }
    )

pub returns-clause-apart : goal.returns-clause-apart
returns-clause-apart c = λ k d within.
    let past : length c.args.names.now ≤ c.names.name-index = search rules in
    let len = length-map c.args.names.now string_bytes in
    subst (λ (n : List ℕ). ¬ NamesPart c.args.prefix.now c.args.classes n)
    (same_within (map string_bytes c.args.names.now) k [] d within)
    (c.names.invariant.1 k (omega (arith, within, past, len)))

pub names-init : goal.names-init
names-init c = (search rules, (λ k before. absurd (omega (arith, before))))

pub names-preserved : goal.names-preserved
names-preserved c =
    let within : c.names.name-index < length c.args.names.now = search rules in
    let there = name_there c.args.names.now c.names.name-index c.name-item.result within c.name-item.is in
    let other : ¬ NamesPart c.args.prefix.now c.args.classes (string_bytes c.name-item.result) = search rules in (
      search rules,
      (λ k before. elim (cases_eq k c.names.name-index) [
        | inl same ↦
            subst (λ (i : ℕ). ¬ NamesPart c.args.prefix.now c.args.classes (get_or (map string_bytes c.args.names.now) i []))
            (sym same) (subst (λ (n : List ℕ). ¬ NamesPart c.args.prefix.now c.args.classes n) (sym there) other)
        | inr apart ↦ c.names.invariant.1 k (omega (arith, before, apart))
      ]),
    )
