-- Both fields move, and what they own goes with them.
use Rattle.std.proofs.Common.{◌≡◌, List, [], ◌∷◌, ◌++◌, refl, sym, subst}
use mir.Val.{Val, vptr}
use base.Logic.{SProp, ent, emp, id⊢}
use base.Fml.{ftrue}
use prog.Wp.{WpFn}
use types.Kit.{‵, raw, ◌⊛◌, ◌$◌, ◌∵◌, !, qed, by, move, keep, split, fsplit, fjoin, suffices, use0}
use types.Run.{stop, fld, of_opd, no_more, and_then, returns, enter}
use types.ByLocal.{alloc_all, pass_all, free_all, look_at, get, get_in, sets}
use types.Part.{agg, sub, whole}
use contract.Monad.{fact, fact_i}
use contract.Running.{tables}
use denote.Exit.{yes}
use denote.RattleType.{RattleType, owns}
use denote.Signature.{types_at, plain}
use denote.RawPtr.{block_ptr}
use denote.Steps.{nothing}
use denote.Triple.Walked.{Goes-dropped, Stays, stay_dropped, walk_of}
use Rattle.std.proofs.raw_atomic.Walks.{proved_at, leaves}
use Rattle.std.specs.contracts.impls.GlobalAllocator.TheImpl.{ghosts}
use Rattle.std.specs.declared.option.Option.TheVariants.{Some}
use Rattle.simplex_handle.proofs.Handles.{Alloc, Auditor, Handle, box_held, handle_closed, laws}
use Rattle.simplex_handle.proofs.Pointers.{Pointer, fits_beside, opened, struct_of}
use Rattle.simplex_handle.specs.contracts.handle.Handle.of as promised
use Rattle.simplex_handle.proofs.handle.Handle.of.Statement.{statement}
use Rattle.simplex_handle.proofs.handle.Handle.of.Code as code

pub of_spec : {M : Type 1} → statement M
of_spec 𝓤 𝓛 𝓜 𝓡 wired =
    let 𝓣 = tables 𝓤 𝓛.H 𝓜 𝓡 𝓡.env in
    let ended = promised.ended in
    let clauses = promised.clauses 𝓛 𝓜.mem 𝓡.returns in
    let fn = code.function in
    let Taken : RattleType = Pointer Auditor Alloc laws ghosts in
    let stays : Stays ended.signature.params ended.kept = (stay_dropped (plain (λ _. Taken)) yes, tt) in
    proved_at 𝓛 ended stays clauses 𝓜 𝓡 (Goes-dropped 𝓛 0 (plain (λ _. Taken)) yes (λ κs x f. refl), tt)
    promised.Key.name fn (code.unfolded 𝓤 𝓛.H 𝓜 𝓡 wired) (λ z are.
    let pointer = z.0.3.0 in
    let Post : Val → SProp 𝓤 = (walk_of 𝓛 ended stays clauses).post z in
    let Runs : List Val → SProp 𝓤 = λ values. WpFn 𝓤 𝓛.H 𝓣.C 𝓣.Λ fn values Post in
    qed 𝓛 ((‵ ftrue ⊛ ‵ (owns (types_at ended.signature.params z.0.0) z.0.3 z.0.4)) ∷ raw
    ((clauses z.0.0 z.0.3).requires z.1) ∷ [])
    ∵ split ! $ move ! (1 ∷ []) $ fsplit ! $
    opened Auditor Alloc laws ghosts ! pointer z.0.4.0 (λ b o alloc at values good.
    let word : Val = struct_of (vptr b o) alloc in
    let typed = fits_beside Auditor Alloc laws ghosts b o alloc good in
    let made : Handle.Denot = record { at = block_ptr b o; alloc = pointer.alloc; held = Some pointer.value } in
    box_held ! pointer.alloc b o pointer.value $
    handle_closed ! (block_ptr b o) alloc pointer.alloc (Some pointer.value) $
    suffices ! (Runs (word ∷ []))
    (subst (λ us. ent 𝓤 (Runs (word ∷ [])) (Runs us)) (sym (λ i. values i ++ [])) (id⊢ 𝓤 (Runs (word ∷ [])))) $
    enter ! 𝓣.C 𝓣.Λ fn (word ∷ []) Post $ alloc_all ! (λ locals. pass_all ! refl (typed, tt) $
    sets ! (of_opd ! (get_in ! (fld ! refl (stop !)) (sub ! 0 refl (whole !)))) refl (tt, tt) $
    sets ! (of_opd ! (get_in ! (fld ! refl (stop !)) (sub ! 1 refl (whole !)))) refl good $
    sets ! (of_opd ! (get ! refl)) refl (tt, tt) $
    sets ! (agg ! (and_then ! (get ! refl) (and_then ! (get ! refl) (no_more !)))) refl typed $
    use0 𝓛 (raw (fact 𝓤 (made.held ≡ Some pointer.value)))
    (fact_i 𝓤 (made.held ≡ Some pointer.value) (emp 𝓤) refl) $
    nothing ! $ nothing ! $ fjoin ! $ returns ! (look_at ! 0 refl) $ free_all ! refl $ keep ! (4 ∷ 0 ∷ 2 ∷ 1 ∷ []) $
    by ! (leaves 𝓛 ended stays clauses z word made (tt, tt) (tt, tt)))))
