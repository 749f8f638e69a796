-- The pointer is compared with null, which owns nothing.
use Rattle.std.proofs.Common.{◌≡◌, List, [], ◌∷◌, ◌++◌, refl, sym, ap, ◌∙◌, subst, lit<}
use mir.Val.{Val, vptr, vnull, vcons, vnil}
use base.Logic.{SProp, ent, emp, id⊢}
use base.Fml.{ftrue}
use prog.Wp.{WpFn}
use types.Kit.{‵, raw, ◌⊛◌, at_ret, ◌$◌, ◌∵◌, !, qed, by, move, keep, split, fsplit, fjoin, suffices, use0, use1}
use types.Run.{stop, fld, lit, of_opd, bin, no_more, and_then, first, branches, exec, returns, enter}
use types.ByLocal.{alloc_all, pass_all, free_all, look_at, get, get_in, sets, sets_last, env}
use types.Part.{agg, sub, whole}
use types.Match.{live}
use contract.Monad.{fact, fact_i}
use contract.Running.{tables}
use denote.Exit.{yes}
use denote.RattleType.{RattleType, owns}
use denote.Signature.{types_at, type_at, plain}
use denote.RawPtr.{Ptr, block_ptr, ptr_val, tests_null}
use denote.Steps.{nothing}
use denote.Param.{layout}
use denote.Triple.Walked.{Stays, stay_dropped, walk_of, Goes-dropped}
use Rattle.std.specs.Prelude.{MatchOption}
use Rattle.std.proofs.ResultValues.{and_tt}
use Rattle.std.proofs.VecSteps.Shapes.{after}
use Rattle.std.proofs.cell.Inside.{Good}
use Rattle.std.proofs.option.Made.{Some-of, none_of}
use Rattle.std.proofs.raw_atomic.Walks.{proved_at, leaves}
use Rattle.std.specs.contracts.impls.GlobalAllocator.TheImpl.{ghosts}
use Rattle.std.specs.declared.option.Option.TheVariants.{None, Some}
use Rattle.simplex_handle.proofs.Handles.{Alloc, Auditor, Handle, handle_opened, laws, none_or_one, null_fits}
use Rattle.simplex_handle.proofs.Pointers.{Pointer, closed, fits_beside, struct_of}
use Rattle.simplex_handle.specs.contracts.handle.Handle.into_pointer as promised
use Rattle.simplex_handle.proofs.handle.Handle.into_pointer.Statement.{statement}
use Rattle.simplex_handle.proofs.handle.Handle.into_pointer.Code as code

pub into_pointer_spec : {M : Type 1} → statement M
into_pointer_spec 𝓤 𝓛 𝓜 𝓡 wired =
    let 𝓣 = tables 𝓤 𝓛.H 𝓜 𝓡 𝓡.env in
    let ended = promised.ended in
    let clauses = promised.clauses 𝓛 𝓜.mem 𝓡.returns in
    let fn = code.function in
    let Given : RattleType = Pointer Auditor Alloc laws ghosts in
    let stays : Stays ended.signature.params ended.kept = (stay_dropped (plain (λ _. Handle)) yes, tt) in
    proved_at 𝓛 ended stays clauses 𝓜 𝓡 (Goes-dropped 𝓛 0 (plain (λ _. Handle)) yes (λ κs x f. refl), tt)
    promised.Key.name fn (code.unfolded 𝓤 𝓛.H 𝓜 𝓡 wired) (λ z are.
    let handle = z.0.3.0 in
    let a = handle.alloc in
    let Post : Val → SProp 𝓤 = (walk_of 𝓛 ended stays clauses).post z in
    let Runs : List Val → SProp 𝓤 = λ values. WpFn 𝓤 𝓛.H 𝓣.C 𝓣.Λ fn values Post in
    let Out : RattleType = type_at ended.signature.result z.0.0 in
    let Says : Out.Denot → Type 0 = λ r. MatchOption r (handle.held ≡ None) (λ p. handle.held ≡ Some p.value) in
    qed 𝓛 ((‵ ftrue ⊛ ‵ (owns (types_at ended.signature.params z.0.0) z.0.3 z.0.4)) ∷ raw
    ((clauses z.0.0 z.0.3).requires z.1) ∷ [])
    ∵ split ! $ move ! (1 ∷ []) $ fsplit ! $
    handle_opened ! handle z.0.4.0 (λ alloc values good.
    none_or_one ! a handle.at handle.held
    -- nothing is owned
    (λ at held.
    let word : Val = struct_of vnull alloc in
    let is : z.0.4.0 ≡ word ∷ [] = values ∙ ap (λ (p : Ptr). struct_of (ptr_val p) alloc ∷ []) at in
    suffices ! (Runs (word ∷ []))
    (subst (λ us. ent 𝓤 (Runs (word ∷ [])) (Runs us)) (sym (λ i. is i ++ [])) (id⊢ 𝓤 (Runs (word ∷ [])))) $
    enter ! 𝓣.C 𝓣.Λ fn (word ∷ []) Post $ alloc_all ! (λ locals. pass_all ! refl (null_fits alloc good, tt) $
    sets ! (of_opd ! (get_in ! (fld ! refl (stop !)) (sub ! 0 refl (whole !)))) refl (tt, record { fits = lit< tt }) $
    sets ! (of_opd ! (get_in ! (fld ! refl (stop !)) (sub ! 1 refl (whole !)))) refl good $
    sets ! (bin ! (get ! refl) (lit ! tt) tt) refl (tt, tt) $
    first ! $ branches ! (get ! refl)
    (λ _. sets_last ! (agg ! (and_then ! (lit ! tt) (no_more !))) refl (tt, (record { fits = lit< tt }, tt)) $
    exec ! 𝓣.C 𝓣.Λ (env fn.locals locals) (after 4 fn.body) (at_ret (env fn.locals locals) Post) $
    sets ! (of_opd ! (get ! refl)) refl (tt, (record { fits = lit< tt }, tt)) $
    use0 𝓛 (‵ (Out.own_val None (live 0 vnil ∷ []))) (none_of 𝓛 Given) $
    use0 𝓛 (raw (fact 𝓤 (Says None))) (fact_i 𝓤 (Says None) (emp 𝓤) held) $
    nothing ! $ nothing ! $ fjoin ! $ returns ! (look_at ! 0 refl) $ free_all ! refl $ keep ! (5 ∷ 0 ∷ 2 ∷ 1 ∷ []) $
    by ! (leaves 𝓛 ended stays clauses z (live 0 vnil) None (tt, tt) (tt, tt)))
    (λ wrong. absurd wrong)))
    -- an auditor is owned
    (λ b o one at held testable.
    let word : Val = struct_of (vptr b o) alloc in
    let is : z.0.4.0 ≡ word ∷ [] = values ∙ ap (λ (p : Ptr). struct_of (ptr_val p) alloc ∷ []) at in
    let typed = fits_beside Auditor Alloc laws ghosts b o alloc good in
    let some : Val = live 1 (vcons word vnil) in
    let pointer : Given.Denot = record { at = block_ptr b o; alloc = a; value = one } in
    let fits : Good (layout Out) some = (and_tt _ typed.0, (record { fits = lit< tt }, (typed.1, tt))) in
    suffices ! (Runs (word ∷ []))
    (subst (λ us. ent 𝓤 (Runs (word ∷ [])) (Runs us)) (sym (λ i. is i ++ [])) (id⊢ 𝓤 (Runs (word ∷ [])))) $
    enter ! 𝓣.C 𝓣.Λ fn (word ∷ []) Post $ alloc_all ! (λ locals. pass_all ! refl (typed, tt) $
    sets ! (of_opd ! (get_in ! (fld ! refl (stop !)) (sub ! 0 refl (whole !)))) refl (tt, tt) $
    sets ! (of_opd ! (get_in ! (fld ! refl (stop !)) (sub ! 1 refl (whole !)))) refl good $
    sets ! (bin ! (get ! refl) (lit ! tt) (tests_null (block_ptr b o) testable)) refl (tt, tt) $
    first ! $ branches ! (get ! refl) (λ wrong. absurd wrong) (λ _.
    sets ! (of_opd ! (get ! refl)) refl (tt, tt) $
    sets ! (agg ! (and_then ! (get ! refl) (and_then ! (get ! refl) (no_more !)))) refl typed $
    sets_last ! (agg ! (and_then ! (lit ! tt) (and_then ! (get ! refl) (no_more !)))) refl fits $
    exec ! 𝓣.C 𝓣.Λ (env fn.locals locals) (after 4 fn.body) (at_ret (env fn.locals locals) Post) $
    sets ! (of_opd ! (get ! refl)) refl fits $ closed Auditor Alloc laws ghosts ! b o alloc a one $
    use1 𝓛 (‵ (Out.own_val (Some pointer) (some ∷ []))) (Some-of 𝓛 Given pointer word) $
    use0 𝓛 (raw (fact 𝓤 (Says (Some pointer)))) (fact_i 𝓤 (Says (Some pointer)) (emp 𝓤) held) $
    nothing ! $ nothing ! $ fjoin ! $ returns ! (look_at ! 0 refl) $ free_all ! refl $ keep ! (4 ∷ 0 ∷ 2 ∷ 1 ∷ []) $
    by ! (leaves 𝓛 ended stays clauses z some (Some pointer) (tt, tt) (tt, tt)))))))
