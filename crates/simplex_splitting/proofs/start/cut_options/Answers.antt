use Rattle.std.proofs.Common.{rules, inl, map, string_bytes}
use Rattle.std.proofs.KnownBytes.{Keeps-refl}
use Rattle.simplex_splitting.proofs.EndingLemmas.{named_ends, no_parts, parts_fail}
use Rattle.simplex_splitting.proofs.start.cut_options.Goals as goal

pub returns-in_err-check_names-clause-ends : goal.returns-in_err-check_names-clause-ends
returns-in_err-check_names-clause-ends g c =
    named_ends _ c.args.options.now (map string_bytes c.args.names.now) _ c.in_err-check_names.field-0.0 c.from_residual.result
    _ (search rules) c.get-classes.ensures.value c.in_err-check_names.ensures.named (Keeps-refl _)

pub returns-in_err-create_parts-clause-ends : goal.returns-in_err-create_parts-clause-ends
returns-in_err-create_parts-clause-ends g c =
    let names = map string_bytes c.args.names.now in
    inl (
      no_parts c.args.options.now names _ c.get-classes.ensures.value c.in_ok-check_names.ensures.apart,
      parts_fail _ names _ _ c.in_err-create_parts.field-0.0 c.from_residual-in_err-create_parts.result (search rules)
          c.in_err-create_parts.ensures (Keeps-refl _),
    )

pub returns-clause-ends : goal.returns-clause-ends
returns-clause-ends g c =
    inl (
      no_parts c.args.options.now (map string_bytes c.args.names.now) _ c.get-classes.ensures.value
          c.in_ok-check_names.ensures.apart,
      c.cut_signed.ensures.ends,
    )
