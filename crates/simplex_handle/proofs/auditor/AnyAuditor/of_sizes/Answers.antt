use Rattle.std.proofs.Common.{◌∙◌, ap, refl}
use Rattle.simplex_border.specs.Signatures.{size_in_bytes}
use Rattle.simplex_handle.specs.Roster.{Of48, Of64, Of96}
use Rattle.simplex_handle.proofs.RepliesLemmas.{at_some}
use Rattle.simplex_handle.proofs.auditor.AnyAuditor.of_sizes.Goals as goal

pub returns-in-Some-clause-some : goal.returns-in-Some-clause-some
returns-in-Some-clause-some c =
    let made = at_some _ _ _ c.in-Some.is c.in_ok-live-in-Some-Of48.ensures.some in
    let size = c.in-Some-Of48.ensures.some ∙ ap size_in_bytes c.in-Some-Of48.field-0-is in
    (made.0, made.1, (Of48 made.0, (size, refl), made.2))

pub returns-in-Some-2-clause-some : goal.returns-in-Some-2-clause-some
returns-in-Some-2-clause-some c =
    let made = at_some _ _ _ c.in-Some-2.is c.in_ok-live-in-Some-Of64.ensures.some in
    let size = c.in-Some-Of64.ensures.some ∙ ap size_in_bytes c.in-Some-Of64.field-0-is in
    (made.0, made.1, (Of64 made.0, (size, refl), made.2))

pub returns-in-Some-3-clause-some : goal.returns-in-Some-3-clause-some
returns-in-Some-3-clause-some c =
    let made = at_some _ _ _ c.in-Some-3.is c.in_ok-live-in-Some-Of96.ensures.some in
    let size = c.in-Some-Of96.ensures.some ∙ ap size_in_bytes c.in-Some-Of96.field-0-is in
    (made.0, made.1, (Of96 made.0, (size, refl), made.2))
