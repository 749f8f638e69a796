use Rattle.std.proofs.Common.{rules, None, Some}
use Rattle.simplex_cli.specs.declared.verdicts.SignatureSize.TheVariants.{Bytes48, Bytes64, Bytes96}
use Rattle.simplex_splitting.proofs.EndingLemmas.{signed_ends}
use Rattle.simplex_splitting.proofs.start.cut_signed.Goals as goal

pub returns-in-None-clause-ends : goal.returns-in-None-clause-ends
returns-in-None-clause-ends g c =
    signed_ends _ _ _ _ c.cut_files.result c.args.options.now.signature None (search rules) c.cut_files.ensures.ends

pub returns-in-Some-Bytes48-clause-ends : goal.returns-in-Some-Bytes48-clause-ends
returns-in-Some-Bytes48-clause-ends g c =
    signed_ends _ _ _ _ c.cut_files-in-Some-Bytes48.result c.args.options.now.signature (Some Bytes48) (search rules)
    c.cut_files-in-Some-Bytes48.ensures.ends

pub returns-in-Some-Bytes64-clause-ends : goal.returns-in-Some-Bytes64-clause-ends
returns-in-Some-Bytes64-clause-ends g c =
    signed_ends _ _ _ _ c.cut_files-in-Some-Bytes64.result c.args.options.now.signature (Some Bytes64) (search rules)
    c.cut_files-in-Some-Bytes64.ensures.ends

pub returns-in-Some-Bytes96-clause-ends : goal.returns-in-Some-Bytes96-clause-ends
returns-in-Some-Bytes96-clause-ends g c =
    signed_ends _ _ _ _ c.cut_files-in-Some-Bytes96.result c.args.options.now.signature (Some Bytes96) (search rules)
    c.cut_files-in-Some-Bytes96.ensures.ends
