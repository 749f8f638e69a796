use Rattle.std.proofs.Common.{rules, inl, inr}
use Rattle.simplex_cli.specs.declared.verdicts.SignatureSize.TheVariants.{Bytes48, Bytes64, Bytes96}
use Rattle.simplex_live.proofs.EndingLemmas.{verdicts_behind}
use Rattle.simplex_live.proofs.live.hear_words.Goals as goal

pub returns-in-Some-Bytes48-clause-ends : goal.returns-in-Some-Bytes48-clause-ends
returns-in-Some-Bytes48-clause-ends g c =
    inr (inl (
      Bytes48,
      _,
      verdicts_behind c.in-Ok.count c.args.words.now c.in-Ok.size Bytes48 (search rules) c.in-Ok.ensures.size,
      c.hear-in-Some-Bytes48.ensures.ends,
    ))

pub returns-in-Some-Bytes64-clause-ends : goal.returns-in-Some-Bytes64-clause-ends
returns-in-Some-Bytes64-clause-ends g c =
    inr (inl (
      Bytes64,
      _,
      verdicts_behind c.in-Ok.count c.args.words.now c.in-Ok.size Bytes64 (search rules) c.in-Ok.ensures.size,
      c.hear-in-Some-Bytes64.ensures.ends,
    ))

pub returns-in-Some-Bytes96-clause-ends : goal.returns-in-Some-Bytes96-clause-ends
returns-in-Some-Bytes96-clause-ends g c =
    inr (inl (
      Bytes96,
      _,
      verdicts_behind c.in-Ok.count c.args.words.now c.in-Ok.size Bytes96 (search rules) c.in-Ok.ensures.size,
      c.hear-in-Some-Bytes96.ensures.ends,
    ))
