use Rattle.std.proofs.Common.{ℕ, List, ◌∷◌, ◌++◌, get_or, sym, ap, ◌∙◌, arith}
use Rattle.std.proofs.Math.Seq.{drop-cons}
use Rattle.std.proofs.lemmas.List.{take_rest}
use Rattle.simplex_evidence.proofs.types.activity.ActivityRead.least_size.Goals as goal

pub returns-in-len1-up : goal.returns-in-len1-up
returns-in-len1-up g c x more fits e =
    let bytes = c.args.bytes.now in
    let parts = drop-cons bytes 0 0 (omega arith) ∙ ap (λ (t : List ℕ). get_or bytes 0 0 ∷ t) (sym (take_rest bytes 1)) in
    let least = c.size_behind.ensures x more fits (e ∙ ap (λ (t : List ℕ). t ++ more) parts) in
    omega (arith, least, c.saturating_add.ensures)
