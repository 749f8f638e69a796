use Rattle.std.proofs.Common.{◌≡◌, ap, ◌∙◌, Err, inr, map, refl, string_bytes}
use Rattle.std.specs.Vec.Iter.{into_iter_items}
use Rattle.std.proofs.KnownBytes.{Keeps-refl}
use Rattle.simplex_cli.specs.Arguments.{words_of}
use Rattle.simplex_cli.specs.Status.{number_of}
use Rattle.simplex_splitting.specs.declared.complaints.Trouble.TheVariants as troubles
use Rattle.simplex_splitting.proofs.EndingLemmas.{ends_alike}
use Rattle.simplex_splitting.proofs.start.start_split.Goals as goal

pub returns-in-Ok-without_name-clause-ends : goal.returns-in-Ok-without_name-clause-ends
returns-in-Ok-without_name-clause-ends g c =
    let words : map string_bytes c.as_slice.result.now ≡ words_of (into_iter_items c.in-Ok.given) =
    ap (map string_bytes) c.as_slice.ensures.value ∙ c.in-Ok-without_name.ensures in
    let (ending, status, ends) = c.cut_words.ensures.ends in
    rw c.in-Ok.is (
      ending,
      c.number-in-Ok-without_name.ensures ∙ ap number_of status,
      ends_alike _ _ _ _ ending words ends,
    )

pub returns-in-Err-without_name-clause-ends : goal.returns-in-Err-without_name-clause-ends
returns-in-Err-without_name-clause-ends g c =
    rw c.in-Ok.is (
      Err troubles.OutOfMemory,
      c.number-in-Err-without_name.ensures ∙ ap number_of c.conclude-in-Err-without_name.ensures,
      inr (inr (Keeps-refl _, refl)),
    )
