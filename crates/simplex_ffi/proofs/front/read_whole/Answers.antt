use Rattle.std.proofs.Common.{ℕ, List, [], ◌++◌, ap, sym, ◌∙◌}
use Rattle.simplex_ffi.proofs.FrontLemmas.{never_fails}
use Rattle.simplex_ffi.proofs.front.read_whole.Goals as goal

pub returns-in-Ok-clause-one : goal.returns-in-Ok-clause-one
returns-in-Ok-clause-one g c = λ x y fits also is same.
    (c.in-Ok.ensures.one x y [] [] fits also (ap (λ (bytes : List ℕ). bytes ++ []) (sym is ∙ same))).0

pub returns-in-Err-clause-one : goal.returns-in-Err-clause-one
returns-in-Err-clause-one g c = λ x y fits also is same.
    (c.in-Err.ensures.one x y [] [] fits also (ap (λ (bytes : List ℕ). bytes ++ []) (sym is ∙ same))).0

pub returns-in-Err-clause-none : goal.returns-in-Err-clause-none
returns-in-Err-clause-none g c = λ none message fits is.
    never_fails g.M.Read.takes_memory c.in-Err.error message (c.refused.ensures.none none)
    (c.in-Err.ensures.again message fits is)
