-- The suffix of a name determines its kind, and the bytes before it are the base.
use Rattle.std.proofs.Common.{◌≡◌, ◌≢◌, ◌↔◌, ℕ, List, ◌++◌, get_or, sym, ap, ◌∙◌, arith}
use Rattle.std.specs.Prelude.{codes, reverse}
use Rattle.std.proofs.lemmas.List.{append_cancel_right, reverse-append}
use Rattle.simplex_scheme.specs.Namespace.{names_of, AreApart, DetermineBases}

-- two lists that differ at a place from the end are two
apart_from_end : (base other suffix ending : List ℕ) (place : ℕ) →
    get_or (reverse suffix ++ reverse base) place 0 ≢ get_or (reverse ending ++ reverse other) place 0 →
    base ++ suffix ≢ other ++ ending
apart_from_end base other suffix ending place differ same =
    differ
    (ap (λ bytes. get_or bytes place 0) (sym (reverse-append base suffix) ∙ ap reverse same ∙ reverse-append other ending))

-- names of two kinds differ, for any two bases
pub names_apart : (base other : List ℕ) → AreApart (names_of base) (names_of other)
names_apart base other = record {
  notarize = (
    apart_from_end base other (codes "_NOTARIZE") (codes "_NULLIFY") 0 (λ same. omega arith),
    apart_from_end base other (codes "_NOTARIZE") (codes "_FINALIZE") 3 (λ same. omega arith),
    apart_from_end base other (codes "_NOTARIZE") (codes "_SEED") 0 (λ same. omega arith),
  );
  nullify = (
    apart_from_end base other (codes "_NULLIFY") (codes "_NOTARIZE") 0 (λ same. omega arith),
    apart_from_end base other (codes "_NULLIFY") (codes "_FINALIZE") 0 (λ same. omega arith),
    apart_from_end base other (codes "_NULLIFY") (codes "_SEED") 0 (λ same. omega arith),
  );
  finalize = (
    apart_from_end base other (codes "_FINALIZE") (codes "_NOTARIZE") 3 (λ same. omega arith),
    apart_from_end base other (codes "_FINALIZE") (codes "_NULLIFY") 0 (λ same. omega arith),
    apart_from_end base other (codes "_FINALIZE") (codes "_SEED") 0 (λ same. omega arith),
  );
  seed = (
    apart_from_end base other (codes "_SEED") (codes "_NOTARIZE") 0 (λ same. omega arith),
    apart_from_end base other (codes "_SEED") (codes "_NULLIFY") 0 (λ same. omega arith),
    apart_from_end base other (codes "_SEED") (codes "_FINALIZE") 0 (λ same. omega arith),
  );
}

-- before one suffix, equal names have equal bases
before_suffix : (base other suffix : List ℕ) → (base ++ suffix ≡ other ++ suffix) ↔ (base ≡ other)
before_suffix base other suffix = (append_cancel_right base other suffix, ap (λ front. front ++ suffix))

-- names of one kind are equal exactly where their bases are
pub names_determine_bases : (base other : List ℕ) → DetermineBases base other
names_determine_bases base other = record {
  notarize = before_suffix base other (codes "_NOTARIZE");
  nullify = before_suffix base other (codes "_NULLIFY");
  finalize = before_suffix base other (codes "_FINALIZE");
  seed = before_suffix base other (codes "_SEED");
}
