use Rattle.std.proofs.Common.{arith, ◌∙◌, sym, subst}
use Rattle.std.specs.Prelude.{codes}
use Rattle.std.proofs.lemmas.Bool.{false≢true}
use Rattle.std.proofs.lemmas.List.{drop_all}
use Rattle.simplex_live.specs.State.{AreRecords}
use Rattle.simplex_live.proofs.StateLemmas.{kind_is}
use Rattle.simplex_live.proofs.state.recover.Goals as goal

pub returns-then-not-starts_with-clause-other : goal.returns-then-not-starts_with-clause-other
returns-then-not-starts_with-clause-other c _ of =
    let kind = kind_is c.args.bytes.now (codes "simplex1") c.min-begins.result c.starts_with.result c.min-begins.ensures
    c.starts_with.ensures.value in
    absurd (false≢true (sym c.if-not-starts_with.true ∙ kind.1 of.0))

pub returns-then-bytes-lt-HEAD-clause-own : goal.returns-then-bytes-lt-HEAD-clause-own
returns-then-bytes-lt-HEAD-clause-own c =
    let kind = kind_is c.args.bytes.now (codes "simplex1") c.min-begins.result c.starts_with.result c.min-begins.ensures
    c.starts_with.ensures.value in
    (kind.0 c.if-not-starts_with.false, λ long. absurd (omega (arith, long, c.if-bytes-lt-HEAD.true)))

pub returns-then-bytes-lt-HEAD-clause-records : goal.returns-then-bytes-lt-HEAD-clause-records
returns-then-bytes-lt-HEAD-clause-records c =
    subst (λ bytes. AreRecords bytes c.in_ok-records.field-0) (sym (drop_all 48 c.args.bytes.now (omega (
      arith,
      c.if-bytes-lt-HEAD.true,
    )))) c.in_ok-records.ensures
