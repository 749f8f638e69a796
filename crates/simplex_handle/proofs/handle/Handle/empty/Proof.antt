-- A null pointer owns nothing.
use Rattle.std.proofs.Common.{◌≡◌, List, [], ◌∷◌, ◌++◌, refl, sym, subst}
use mir.Val.{Val, vnull}
use base.Logic.{SProp, ent, emp, id⊢}
use base.Fml.{ftrue}
use prog.Wp.{WpFn}
use types.Kit.{‵, raw, ◌⊛◌, ◌$◌, ◌∵◌, !, qed, by, move, keep, split, fsplit, fjoin, suffices, use0, rewrite, feq_i}
use types.Run.{lit, no_more, and_then, returns, enter}
use types.ByLocal.{alloc_all, pass_all, free_all, look_at, get, sets}
use types.Part.{agg}
use contract.Monad.{fact, fact_i}
use contract.Running.{tables}
use denote.Exit.{yes}
use denote.RattleType.{owns}
use denote.Signature.{types_at, plain}
use denote.RawPtr.{null_ptr}
use denote.Steps.{nothing}
use denote.Param.{layout}
use denote.Triple.Walked.{Stays, stay_dropped, walk_of, Goes-dropped}
use Rattle.std.proofs.cell.Inside.{one}
use Rattle.std.proofs.raw_atomic.Walks.{proved_at, leaves}
use Rattle.std.specs.declared.option.Option.TheVariants.{None}
use Rattle.simplex_handle.specs.Held.{Held}
use Rattle.simplex_handle.proofs.Handles.{Alloc, Handle, handle_closed, laws, null_fits}
use Rattle.simplex_handle.proofs.Pointers.{struct_of}
use Rattle.simplex_handle.specs.contracts.handle.Handle.empty as promised
use Rattle.simplex_handle.proofs.handle.Handle.empty.Statement.{statement}
use Rattle.simplex_handle.proofs.handle.Handle.empty.Code as code

pub empty_spec : {M : Type 1} → statement M
empty_spec 𝓤 𝓛 𝓜 𝓡 wired =
    let 𝓣 = tables 𝓤 𝓛.H 𝓜 𝓡 𝓡.env in
    let ended = promised.ended in
    let clauses = promised.clauses 𝓛 𝓜.mem 𝓡.returns in
    let fn = code.function in
    let stays : Stays ended.signature.params ended.kept = (stay_dropped (plain (λ _. Alloc)) yes, tt) in
    proved_at 𝓛 ended stays clauses 𝓜 𝓡 (Goes-dropped 𝓛 0 (plain (λ _. Alloc)) yes (λ κs x f. refl), tt)
    promised.Key.name fn (code.unfolded 𝓤 𝓛.H 𝓜 𝓡 wired) (λ z are.
    let a = z.0.3.0 in
    let Post : Val → SProp 𝓤 = (walk_of 𝓛 ended stays clauses).post z in
    let Runs : List Val → SProp 𝓤 = λ values. WpFn 𝓤 𝓛.H 𝓣.C 𝓣.Λ fn values Post in
    let found = one (layout Alloc) z.0.4.0 ((laws.lawful 𝓛).typed a z.0.4.0 are.0) in
    let alloc : Val = found.0 in
    let made : Handle.Denot = record { at = null_ptr; alloc = a; held = None } in
    qed 𝓛 ((‵ ftrue ⊛ ‵ (owns (types_at ended.signature.params z.0.0) z.0.3 z.0.4)) ∷ raw
    ((clauses z.0.0 z.0.3).requires z.1) ∷ [])
    ∵ split ! $ move ! (1 ∷ []) $ fsplit ! $
    rewrite ! 0 (λ us. ‵ (Alloc.own_val a us)) found.1 refl $
    feq_i ! Held None None refl $ handle_closed ! null_ptr alloc a None $
    suffices ! (Runs (alloc ∷ []))
    (subst (λ us. ent 𝓤 (Runs (alloc ∷ [])) (Runs us)) (sym (λ i. found.1 i ++ [])) (id⊢ 𝓤 (Runs (alloc ∷ [])))) $
    enter ! 𝓣.C 𝓣.Λ fn (alloc ∷ []) Post $ alloc_all ! (λ locals. pass_all ! refl (found.2, tt) $
    sets ! (agg ! (and_then ! (lit ! tt) (and_then ! (get ! refl) (no_more !)))) refl (null_fits alloc found.2) $
    use0 𝓛 (raw (fact 𝓤 (made.held ≡ None))) (fact_i 𝓤 (made.held ≡ None) (emp 𝓤) refl) $
    nothing ! $ nothing ! $ fjoin ! $ returns ! (look_at ! 0 refl) $ free_all ! refl $ keep ! (4 ∷ 0 ∷ 2 ∷ 1 ∷ []) $
    by ! (leaves 𝓛 ended stays clauses z (struct_of vnull alloc) made (tt, tt) (tt, tt))))
