use Rattle.std.proofs.Common.{◌≡◌, ◌-◌, ℕ, List, None, Option, Some, String, drop, inl, length, map, string_bytes, subst, sym, take}
use Rattle.std.specs.Global.{Global}
use Rattle.std.proofs.lemmas.Result.{err_from_is_err_and}
use Rattle.std.proofs.KnownBytes.{Keeps-refl}
use Rattle.simplex_audit.specs.Outcome.{reader_use, writer_use}
use Rattle.simplex_cli.specs.Verdicts.{AreBehindVerdicts}
use Rattle.simplex_cli.specs.declared.verdicts.SignatureSize.{SignatureSize}
use Rattle.simplex_cli.proofs.CompactLemmas.{words_behind}
use Rattle.simplex_cli.proofs.InspectLemmas.{gives_nothing, inspect_without, none_counted, none_plain, plain_ends, verdicts_end}
use Rattle.simplex_cli.proofs.inspecting.show_input.Goals as goal

pub returns-in_err-size-clause-ends : goal.returns-in_err-size-clause-ends
returns-in_err-size-clause-ends g c =
    let p = err_from_is_err_and c.from_residual.result c.from_residual.ensures.1 in
    let input = c.args.input.now in
    let output = c.args.output.now in
    rw (p.1, p.2) (inspect_without _ _
    (reader_use g.R.Read.remaining input input) (writer_use g.W.Write.contents output output)
    _ (λ e. gives_nothing _ c.in_err-size.ensures.usage) (inl c.in_err-size.ensures.failure) (Keeps-refl _))

-- the words behind the option
behind : (words : List (String Global)) (count : ℕ) (size another : Option SignatureSize) → size ≡ another →
    AreBehindVerdicts (map string_bytes words) size (drop count (map string_bytes words)) →
    AreBehindVerdicts (map string_bytes words) another (map string_bytes (take (length words - count) (drop count words)))
behind words count size another is at =
    let here = map string_bytes words in
    let there = map string_bytes (take (length words - count) (drop count words)) in
    subst (λ (which : Option SignatureSize). AreBehindVerdicts here which there) is
    (subst (λ (texts : List (List ℕ)). AreBehindVerdicts here size texts) (sym (words_behind string_bytes count words)) at)

pub returns-in-None-clause-ends : goal.returns-in-None-clause-ends
returns-in-None-clause-ends g c =
    plain_ends _ (map string_bytes c.args.arguments.now) _ _ _ _
    (behind c.args.arguments.now c.in_ok-size.count _ None c.in-None.is c.in_ok-size.ensures.size) c.show_plain.ensures.ends

pub returns-in-None-clause-untouched : goal.returns-in-None-clause-untouched
returns-in-None-clause-untouched g c = λ nothing.
    c.show_plain.ensures.untouched (none_plain (map string_bytes c.args.arguments.now) _
    (behind c.args.arguments.now c.in_ok-size.count _ None c.in-None.is c.in_ok-size.ensures.size) nothing)

pub returns-in-Some-clause-ends : goal.returns-in-Some-clause-ends
returns-in-Some-clause-ends g c =
    verdicts_end _ (map string_bytes c.args.arguments.now) _ _ _ _ c.in-Some.size
    (behind c.args.arguments.now c.in_ok-size.count _ (Some c.in-Some.size) c.in-Some.is c.in_ok-size.ensures.size)
    c.show_verdicts.ensures.ends

pub returns-in-Some-clause-untouched : goal.returns-in-Some-clause-untouched
returns-in-Some-clause-untouched g c = λ nothing.
    c.show_verdicts.ensures.untouched (none_counted (map string_bytes c.args.arguments.now) _ c.in-Some.size
    (behind c.args.arguments.now c.in_ok-size.count _ (Some c.in-Some.size) c.in-Some.is c.in_ok-size.ensures.size) nothing)
