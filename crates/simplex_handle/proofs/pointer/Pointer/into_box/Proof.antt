-- The pointer and what it owns make the box.
use Rattle.std.proofs.Common.{◌≡◌, List, [], ◌∷◌, ◌++◌, refl, sym, ap, subst}
use mir.Syntax.{a_type, dcons, dnil}
use mir.Val.{Val, vptr}
use mir.MapTy.{inst_fn}
use base.Logic.{SProp, ent, id⊢}
use base.Fml.{ftrue, flft}
use prog.Wp.{WpFn}
use types.Kit.{‵, raw, ◌⊛◌, some, later, at_ret, ◌$◌, ◌∵◌, !, qed, by, move, keep, drop, split, split3, join, fsplit, fjoin, pick, suffices, use1, await, rewrite, feq_i}
use types.Run.{stop, fld, of_opd, no_more, and_then, first, blocks, exec, returns, enter}
use types.ByLocal.{alloc_all, pass_all, free_all, look_at, get, get_in, sets, lands_last, env}
use types.Part.{sub, whole}
use contract.Monad.{fact}
use contract.BorrowLft.{◌⊑◌}
use contract.Running.{tables}
use denote.Exit.{no}
use denote.RattleType.{RattleType, owns}
use denote.Signature.{types_at, plain}
use denote.RawPtr.{block_ptr}
use denote.Steps.{nothing, only}
use denote.Param.{param, layout, bounded}
use denote.Param.Laws.{param_laws}
use denote.Triple.Clauses.{Lasts, lasts}
use denote.Triple.Spec.{triple_of}
use denote.Triple.Call.{calls_at_last}
use denote.Triple.Table.{framed}
use denote.Triple.Walked.{Stays, stay_dropped, walk_of}
use Rattle.std.proofs.alloc.Calls.{Goes-blank}
use Rattle.std.proofs.VecSteps.Shapes.{after}
use Rattle.std.proofs.cell.Inside.{Good}
use Rattle.std.proofs.BoxSteps.Form as box
use Rattle.std.proofs.BoxSteps.Steps.{box_out, box_in}
use Rattle.std.proofs.raw_atomic.Walks.{proved_at, leaves}
use Rattle.std.specs.contracts.boxed.Box.from_raw as making
use Rattle.std.proofs.boxed.Box.from_raw.Met.{met}
use Rattle.simplex_handle.proofs.Pointers.{Pointer, fits_beside, opened, struct_of}
use Rattle.simplex_handle.specs.contracts.pointer.Pointer.into_box as promised
use Rattle.simplex_handle.proofs.pointer.Pointer.into_box.Statement.{statement}
use Rattle.simplex_handle.proofs.pointer.Pointer.into_box.Code as code

pub into_box_spec : {M : Type 1} → statement M
into_box_spec 𝓤 𝓛 𝓜 𝓡 wired T A L LA ghosts table drops frees lawful glue glued =
    let 𝓣 = tables 𝓤 𝓛.H 𝓜 𝓡 𝓡.env in
    let Boxed : RattleType = param 0 T in
    let Alloc : RattleType = param 1 A in
    let laws = param_laws 1 A LA in
    let ended = promised.ended T A ghosts table drops frees in
    let clauses = promised.clauses T A ghosts table drops frees 𝓛 𝓜.mem 𝓡.returns in
    let B : box.Bx =
    record { row = T; laws = L; al = record { row = A; laws = LA; g = ghosts; d = table; drops = frees } } in
    let at_types = bounded (a_type ∷ a_type ∷ []) (T, (A, tt)) (dcons table (dcons drops (dcons frees dnil))) in
    let fn = inst_fn at_types code.function in
    let Taken : RattleType = Pointer Boxed Alloc laws ghosts in
    let Made : RattleType = box.B B in
    let stays : Stays ended.signature.params ended.kept = (stay_dropped (plain (λ _. Taken)) no, tt) in
    let callee = triple_of 𝓛 (making.signature T A ghosts table frees)
    (making.spec T A ghosts table frees 𝓛 𝓜.mem 𝓡.returns) in
    proved_at 𝓛 ended stays clauses 𝓜 𝓡 (Goes-blank 𝓛 2 (plain (λ _. Taken)) no (λ κs x f. tt), tt)
    (promised.Key.name at_types) fn (code.unfolded 𝓤 𝓛.H 𝓜 𝓡 wired (T, (A, tt)) table drops frees) (λ z are.
    let κs = z.0.0 in
    let pointer = z.0.3.0 in
    let a = pointer.alloc in
    let Post : Val → SProp 𝓤 = (walk_of 𝓛 ended stays clauses).post z in
    let Runs : List Val → SProp 𝓤 = λ values. WpFn 𝓤 𝓛.H 𝓣.C 𝓣.Λ fn values Post in
    let alive = ‵ (flft κs.0 z.0.1.0) ⊛ ‵ (flft κs.1.0 z.0.1.1.0) ⊛ ‵ ftrue in
    qed 𝓛 ((alive ⊛ ‵ (owns (types_at ended.signature.params κs) z.0.3 z.0.4)) ∷ raw ((clauses κs z.0.3).requires z.1) ∷ [])
    ∵ split ! $ move ! (1 ∷ []) $ fsplit ! $
    opened Boxed Alloc laws ghosts ! pointer z.0.4.0 (λ b o alloc at values good.
    let word : Val = struct_of (vptr b o) alloc in
    let typed = fits_beside Boxed Alloc laws ghosts b o alloc good in
    let y : callee.Ghost =
    ((κs, z.0.1, tt, (a, (block_ptr b o, tt)), (alloc ∷ [], (vptr b o ∷ [], tt))), pointer.value) in
    move ! (4 ∷ []) $ use1 𝓛 (raw (fact 𝓤 (κs.0 ⊑ T.lives)) ⊛ raw (fact 𝓤 (κs.1.0 ⊑ A.lives)) ⊛ ‵ ftrue) (id⊢ 𝓤 _) $
    split3 ! $ move ! (2 ∷ []) $ drop ! $ move ! (1 ∷ 2 ∷ []) $ join ! $ move ! (1 ∷ 0 ∷ []) $ join ! $ move ! (2 ∷ []) $
    feq_i ! (List Val) (vptr b o ∷ []) (vptr b o ∷ []) refl $
    fjoin ! $ move ! (2 ∷ 0 ∷ []) $ fjoin ! $ move ! (2 ∷ 0 ∷ []) $ join ! $ join ! $
    use1 𝓛 (raw (callee.pre y)) (id⊢ 𝓤 _) $
    suffices ! (Runs (word ∷ []))
    (subst (λ us. ent 𝓤 (Runs (word ∷ [])) (Runs us)) (sym (λ i. values i ++ [])) (id⊢ 𝓤 (Runs (word ∷ [])))) $
    enter ! 𝓣.C 𝓣.Λ fn (word ∷ []) Post $ alloc_all ! (λ locals. pass_all ! refl (typed, tt) $
    sets ! (of_opd ! (get_in ! (fld ! refl (stop !)) (sub ! 0 refl (whole !)))) refl (tt, tt) $
    sets ! (of_opd ! (get_in ! (fld ! refl (stop !)) (sub ! 1 refl (whole !)))) refl good $
    first ! $ blocks ! $ sets ! (of_opd ! (get ! refl)) refl good $
    calls_at_last ! (framed 𝓤 𝓛.H 𝓜 𝓣) callee
    (met 𝓤 𝓛 𝓜 𝓡 (code.calls-std_alloc::boxed::Box::from_raw 𝓡.env wired) T A L LA ghosts table frees lawful glued) y
    (and_then ! (get ! refl) (and_then ! (get ! refl) (no_more !))) (λ out.
    use1 𝓛 (later (some (λ (r : Made.Denot). (alive ⊛ ‵ (Made.own_val r (out ∷ [])))
    ⊛ some (λ (ls : Lasts (making.ended T A ghosts table frees) κs y.0.3).
    ‵ (lasts (making.ended T A ghosts table frees) κs y.0.3 ls)
    ⊛ (raw (fact 𝓤 (r.value ≡ pointer.value)) ⊛ raw (fact 𝓤 (r.alloc ≡ a))))))) (id⊢ 𝓤 (callee.post y out)) $
    await ! tt $ pick ! (λ r. split ! $ move ! (1 ∷ []) $ pick ! (λ _. split3 ! $ drop ! $
    move ! (2 ∷ []) $ split ! $ move ! (1 ∷ []) $
    box_out B ! r (out ∷ []) (λ c q freed there is fits. box_in B ! r c q r.value there refl $
    rewrite ! 0 (λ us. ‵ (Made.own_val r us)) (sym is) refl $
    let made : Good (layout Made) out =
    subst (Good (layout Made)) (sym (ap only is)) (fits_beside Boxed Alloc laws ghosts c q freed fits) in
    lands_last ! refl made $ exec ! 𝓣.C 𝓣.Λ (env fn.locals locals) (after 3 fn.body) (at_ret (env fn.locals locals) Post) $
    sets ! (of_opd ! (get ! refl)) refl made $ nothing ! $ nothing ! $ fjoin ! $
    returns ! (look_at ! 0 refl) $ free_all ! refl $ keep ! (2 ∷ 0 ∷ 1 ∷ 3 ∷ []) $
    by ! (leaves 𝓛 ended stays clauses z out r ((tt, (tt, tt)), tt) (tt, tt)))))))))
