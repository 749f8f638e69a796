use Rattle.std.proofs.Common.{rules, arith, ◌≡◌, ◌<◌, ◌+◌, ◌∙◌, ◌||◌, ◌++◌, ◌∷◌, Bool, [], ℕ, ap, get_or, length, map, refl, string_bytes, sym}
use Rattle.std.specs.Int.NonZero.{non_zero_u32_get}
use Rattle.std.specs.Prelude.{is_some}
use Rattle.std.proofs.KnownBytes.{Keeps-refl}
use Rattle.std.proofs.lemmas.List.{length-map}
use Rattle.simplex_audit.specs.Outcome.{writer_use}
use Rattle.simplex_splitting.specs.Splitting.{IsReadAs}
use Rattle.simplex_splitting.proofs.EndingLemmas.{file_fails, line_fails, none_cut}
use Rattle.simplex_splitting.proofs.LineLemmas.{any_more, name_there, one_longer, read_more, said_begun, said_more}
use Rattle.simplex_splitting.proofs.cutting.cut_files.Invariants.{format}
use Rattle.simplex_splitting.proofs.cutting.cut_files.Goals as goal

pub returns-in_err-totals-clause-ends : goal.returns-in_err-totals-clause-ends
returns-in_err-totals-clause-ends g c =
    let (cut, faults) = c.files.invariant.3 in
    let within : c.files.name-index < length c.args.names.now = search rules in
    let len = length-map c.args.names.now string_bytes in
    let place = c.files.invariant.1 in
    file_fails (IsReadAs (format g (non_zero_u32_get c.args.options.now.division.bound))) (map string_bytes c.args.names.now)
    (writer_use g.W.Write.contents c.args.output.now c.files.output) c.files.place _ c.in_err-totals.field-0.0
    c.from_residual.result (search rules) (omega (arith, within, len, place)) c.in_err-totals.ensures.error cut

pub returns-in_err-say_line-clause-ends : goal.returns-in_err-say_line-clause-ends
returns-in_err-say_line-clause-ends g c =
    let (cut, faults) = c.files.invariant.3 in
    let t = c.in_ok-totals.totals in
    let (input, into) = c.in_ok-totals.ensures.cut in
    let within : c.files.name-index < length c.args.names.now = search rules in
    let len = length-map c.args.names.now string_bytes in
    let place = c.files.invariant.1 in
    let count = cut.count_is in
    let same : string_bytes c.name-item.result ≡ c.as_str-in-files.result.now = search rules in
    let there = name_there c.args.names.now c.files.name-index c.name-item.result within c.name-item.is in
    let name = ap (λ (n : ℕ). get_or (map string_bytes c.args.names.now) n []) (count ∙ place) ∙ there ∙ same in
    line_fails (IsReadAs (format g (non_zero_u32_get c.args.options.now.division.bound))) (map string_bytes c.args.names.now)
    g.W.Write.contents c.args.output.now c.files.output c.say_line.new.output c.files.place c.in_err-say_line.field-0.0
    c.from_residual-in_err-say_line.result (search rules) c.in_err-say_line.ensures.error cut (
      cut.all ++ t ∷ [],
      read_more (IsReadAs (format g (non_zero_u32_get c.args.options.now.division.bound))) cut.all t cut.read
          (input, into.read),
      said_begun _ _ _ (map string_bytes c.args.names.now) cut.all _ t (omega (arith, within, len, place, count)) name cut.said
          c.in_err-say_line.ensures.begun,
    )

pub returns-clause-ends : goal.returns-clause-ends
returns-clause-ends g c =
    let (cut, faults) = c.files.invariant.3 in
    let end : c.files.name-index ≡ length c.args.names.now = search rules in
    let all_cut : c.files.place ≡ length (map string_bytes c.args.names.now) =
    c.files.invariant.1 ∙ end ∙ sym (length-map c.args.names.now string_bytes) in
    record {
      files = record {
        all = cut.all;
        count_is = cut.count_is ∙ all_cut;
        read = cut.read;
        said = cut.said;
        flushed = λ some. cut.flushed (omega (arith, some, all_cut));
      };
      faults = faults;
    }

pub files-init : goal.files-init
files-init g c = (
  search rules,
  search rules,
  search rules,
  (
    none_cut (IsReadAs (format g (non_zero_u32_get c.args.options.now.division.bound))) (map string_bytes c.args.names.now)
        (writer_use g.W.Write.contents c.args.output.now c.args.output.now) (Keeps-refl _),
    refl,
  ),
)

pub files-preserved : goal.files-preserved
files-preserved g c =
    let (cut, faults) = c.files.invariant.3 in
    let t = c.in_ok-totals.totals in
    let (input, into) = c.in_ok-totals.ensures.cut in
    let within : c.files.name-index < length c.args.names.now = search rules in
    let len = length-map c.args.names.now string_bytes in
    let place = c.files.invariant.1 in
    let count = cut.count_is in
    let same : string_bytes c.name-item.result ≡ c.as_str-in-files.result.now = search rules in
    let there = name_there c.args.names.now c.files.name-index c.name-item.result within c.name-item.is in
    let name = ap (λ (n : ℕ). get_or (map string_bytes c.args.names.now) n []) (count ∙ place) ∙ there ∙ same in (
      search rules,
      search rules,
      search rules,
      (
        record {
          all = cut.all ++ t ∷ [];
          count_is = one_longer cut.all t ∙ ap (λ (n : ℕ). n + 1) count;
          read =
              read_more (IsReadAs (format g (non_zero_u32_get c.args.options.now.division.bound))) cut.all t cut.read
              (input, into.read);
          said =
              said_more _ _ _ (map string_bytes c.args.names.now) cut.all _ t (omega (arith, within, len, place, count)) name
              cut.said c.in_ok-say_line.ensures.written;
          flushed = λ some. c.in_ok-say_line.ensures.flushed;
        },
        c.is_faulted-faulted.ensures ∙ (ap (λ (b : Bool). b || is_some t.fault) faults ∙ sym (any_more cut.all t)),
      ),
    )
