-- The box is taken apart, and its pointer keeps what it owned.
use Rattle.std.proofs.Common.{◌≡◌, List, [], ◌∷◌, ◌++◌, refl, sym, ap, ◌∙◌, subst}
use mir.Syntax.{a_type, dcons, dnil}
use mir.Raw.{raw as bare}
use mir.Val.{Val, vptr, vstruct, of_list}
use mir.MapTy.{inst_fn}
use base.Logic.{SProp, ent, emp, never, id⊢, fst∗}
use base.Fml.{ftrue, fsep, flft}
use prog.Wp.{WpFn}
use types.Logic.{sem}
use types.Kit.{‵, raw, ◌⊛◌, some, later, ◌$◌, ◌∵◌, !, qed, by, move, keep, drop, split, split3, join, fsplit, fjoin, fpick, pick, suffices, use0, use1, await, rewrite, feq_l}
use types.Run.{stop, fld, of_opd, no_more, and_then, returns, enter}
use types.ByLocal.{alloc_all, pass_all, free_all, look_at, get, get_in, sets, lands_as}
use types.Part.{agg, sub, whole}
use contract.Monad.{fact, fact_i}
use contract.Running.{tables}
use denote.Exit.{no}
use denote.RattleType.{RattleType, owns}
use denote.Signature.{types_at, plain}
use denote.Builtin.{RawPtr}
use denote.RawPtr.{Ptr, block_ptr, null_ptr, ptr_val, in_a_block}
use denote.Steps.{nothing, only, heard}
use denote.Param.{param, layout, bounded}
use denote.Param.Laws.{param_laws}
use denote.Struct.Tuple.{Tuple}
use denote.Triple.Spec.{triple_of}
use denote.Triple.Call.{calls_at}
use denote.Triple.Table.{framed}
use denote.Triple.Walked.{Stays, stay_dropped, walk_of}
use Rattle.std.proofs.alloc.Calls.{Goes-blank, handle_tells}
use Rattle.std.proofs.BoxSteps.Form as box
use Rattle.std.proofs.BoxSteps.Steps.{box_out, box_in}
use Rattle.std.proofs.raw_atomic.Walks.{proved_at, leaves}
use Rattle.std.specs.contracts.boxed.Box.into_raw_with_allocator as taking_apart
use Rattle.std.proofs.boxed.Box.into_raw_with_allocator.Met.{met}
use Rattle.simplex_handle.proofs.Pointers.{boxed_at, closed, fits_beside, struct_of}
use Rattle.simplex_handle.specs.contracts.pointer.Pointer.of as promised
use Rattle.simplex_handle.proofs.pointer.Pointer.of.Statement.{statement}
use Rattle.simplex_handle.proofs.pointer.Pointer.of.Code as code

pub of_spec : {M : Type 1} → statement M
of_spec 𝓤 𝓛 𝓜 𝓡 wired T A L LA ghosts table drops frees lawful glue glued =
    let 𝓣 = tables 𝓤 𝓛.H 𝓜 𝓡 𝓡.env in
    let Boxed : RattleType = param 0 T in
    let Alloc : RattleType = param 1 A in
    let laws = param_laws 1 A LA in
    let ended = promised.ended T A ghosts table drops frees in
    let clauses = promised.clauses T A ghosts table drops frees 𝓛 𝓜.mem 𝓡.returns in
    let B : box.Bx =
    record { row = T; laws = L; al = record { row = A; laws = LA; g = ghosts; d = table; drops = frees } } in
    let at_types = bounded (a_type ∷ a_type ∷ []) (T, (A, tt)) (dcons table (dcons drops (dcons frees dnil))) in
    let fn = inst_fn at_types code.function in
    let stays : Stays ended.signature.params ended.kept = (stay_dropped (plain (λ _. box.B B)) no, tt) in
    let callee = triple_of 𝓛 (taking_apart.signature T A ghosts table frees drops)
    (taking_apart.spec T A ghosts table frees drops 𝓛 𝓜.mem 𝓡.returns) in
    proved_at 𝓛 ended stays clauses 𝓜 𝓡 (Goes-blank 𝓛 2 (plain (λ _. box.B B)) no (λ κs x f. tt), tt)
    (promised.Key.name at_types) fn (code.unfolded 𝓤 𝓛.H 𝓜 𝓡 wired (T, (A, tt)) table drops frees) (λ z are.
    let κs = z.0.0 in
    let boxed = z.0.3.0 in
    let a = boxed.alloc in
    let Post : Val → SProp 𝓤 = (walk_of 𝓛 ended stays clauses).post z in
    let Runs : List Val → SProp 𝓤 = λ values. WpFn 𝓤 𝓛.H 𝓣.C 𝓣.Λ fn values Post in
    let alive = ‵ (flft κs.0 z.0.1.0) ⊛ ‵ (flft κs.1.0 z.0.1.1.0) ⊛ ‵ ftrue in
    let Pair = Tuple (RawPtr ∷ Alloc ∷ []) in
    qed 𝓛 ((alive ⊛ ‵ (owns (types_at ended.signature.params κs) z.0.3 z.0.4)) ∷ raw ((clauses κs z.0.3).requires z.1) ∷ [])
    ∵ split ! $ move ! (1 ∷ []) $ fsplit ! $
    box_out B ! boxed z.0.4.0 (λ b o alloc at values good.
    let word : Val = box.word B alloc b o in
    let typed = fits_beside Boxed Alloc laws ghosts b o alloc good in
    let y : callee.Ghost = ((κs, z.0.1, tt, (boxed, tt), (word ∷ [], tt)), tt) in
    box_in B ! boxed b o boxed.value at refl $
    fjoin ! $ move ! (1 ∷ 0 ∷ []) $ join ! $ join ! $ use1 𝓛 (raw (callee.pre y)) (id⊢ 𝓤 _) $
    suffices ! (Runs (word ∷ []))
    (subst (λ us. ent 𝓤 (Runs (word ∷ [])) (Runs us)) (sym (λ i. values i ++ [])) (id⊢ 𝓤 (Runs (word ∷ [])))) $
    enter ! 𝓣.C 𝓣.Λ fn (word ∷ []) Post $ alloc_all ! (λ locals. pass_all ! refl (typed, tt) $
    sets ! (of_opd ! (get ! refl)) refl typed $
    calls_at ! (framed 𝓤 𝓛.H 𝓜 𝓣) callee
    (met 𝓤 𝓛 𝓜 𝓡 (code.calls-std_alloc::boxed::Box::into_raw_with_allocator 𝓡.env wired)
    T A L LA ghosts table frees drops lawful glued glue) y
    (and_then ! (get ! refl) (no_more !)) (λ out.
    use1 𝓛 (later (some (λ (r : Ptr × A.Denot). (alive ⊛ ‵ (Pair.own_val r (out ∷ [])))
    ⊛ some (λ (_ : (Unit {0} × (Unit {0} × Unit {0})) × Unit {0}). ‵ (fsep (fsep ftrue (fsep ftrue ftrue)) ftrue)
    ⊛ (raw (fact 𝓤 (r.1 ≡ a)) ⊛ ‵ (boxed_at Boxed Alloc laws ghosts a r.0 boxed.value)))))) (id⊢ 𝓤 _) $
    await ! tt $ pick ! (λ r. split ! $ move ! (1 ∷ []) $ pick ! (λ _. split3 ! $ drop ! $ heard ! (r.1 ≡ a) (λ same.
    in_a_block ! r.0 (λ p. boxed_at Boxed Alloc laws ghosts a p boxed.value)
    (fst∗ 𝓤 (never 𝓤) (sem 𝓛 (ghosts.dealloc_token a (bare (layout T)) null_ptr))) (λ c q there.
    move ! (1 ∷ []) $ split ! $ move ! (1 ∷ []) $
    fpick ! (λ parts. fsplit ! $ feq_l ! (λ both. fsplit ! $ feq_l ! (λ first. fsplit ! $
    rewrite ! 0 (λ (s : A.Denot). ‵ (A.own_val s parts.1.0)) same refl $
    handle_tells B.al ! a parts.1.0 (λ freed second fits.
    let made = fits_beside Boxed Alloc laws ghosts c q freed fits in
    let pointer_is = first ∙ ap (λ (p : Ptr). ptr_val p ∷ []) there in
    lands_as ! (ap only (both ∙ (λ i. vstruct (of_list (pointer_is i ++ (second i ++ []))) ∷ []))) refl made $
    sets ! (of_opd ! (get_in ! (fld ! refl (stop !)) (sub ! 0 refl (whole !)))) refl (tt, tt) $
    sets ! (of_opd ! (get_in ! (fld ! refl (stop !)) (sub ! 1 refl (whole !)))) refl fits $
    sets ! (of_opd ! (get ! refl)) refl fits $
    sets ! (agg ! (and_then ! (get ! refl) (and_then ! (get ! refl) (no_more !)))) refl made $
    move ! (3 ∷ 0 ∷ []) $ closed Boxed Alloc laws ghosts ! c q freed a boxed.value $
    use0 𝓛 (raw (fact 𝓤 (boxed.value ≡ boxed.value))) (fact_i 𝓤 (boxed.value ≡ boxed.value) (emp 𝓤) refl) $
    nothing ! $ nothing ! $ fjoin ! $ returns ! (look_at ! 0 refl) $ free_all ! refl $ keep ! (4 ∷ 0 ∷ 2 ∷ 1 ∷ []) $
    by ! (leaves 𝓛 ended stays clauses z (struct_of (vptr c q) freed)
    (record { at = block_ptr c q; alloc = a; value = boxed.value }) ((tt, (tt, tt)), tt) (tt, tt))))))))))))))
