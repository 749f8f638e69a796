use Rattle.std.proofs.Common.{Err, inl, inr, refl}
use Rattle.std.proofs.KnownBytes.{Keeps-refl}
use Rattle.simplex_splitting.specs.declared.complaints.Trouble.TheVariants as troubles
use Rattle.simplex_splitting.proofs.OptionLemmas.{options_behind}
use Rattle.simplex_splitting.proofs.start.cut_words.Goals as goal

pub returns-in-Err-clause-ends : goal.returns-in-Err-clause-ends
returns-in-Err-clause-ends g c = (
  Err troubles.Usage,
  c.conclude.ensures,
  inr (inl (Keeps-refl _, refl, c.in-Err.ensures.usage)),
)

pub returns-in-Ok-clause-ends : goal.returns-in-Ok-clause-ends
returns-in-Ok-clause-ends g c = (
  c.cut_options-ended.result,
  c.conclude-in-Ok.ensures,
  inl (
    c.in-Ok.options,
    _,
    options_behind c.in-Ok.count c.args.words.now c.in-Ok.options c.in-Ok.ensures.options,
    c.cut_options-ended.ensures.ends,
  ),
)
