-- How the machine stores a handle, and what it owns.
use Rattle.std.proofs.Common.{◌≡◌, ℕ, List, [], ◌∷◌, ◌++◌, refl, subst, lit<}
use seplogic.Ra.Ura.{Ura}
use mir.Raw.{raw as bare}
use mir.Val.{Val, vnull, vstruct, of_list, has_ty}
use base.Fraction.{full_share}
use base.Fml.{fsep, feq}
use base.Logic.{via, snd∗, guard_i}
use types.Logic.{Logic, sem}
use types.Kit.{Item, Goal, Seq, Step, step, ‵, given, ◌$◌, move, drop, use1, learn, fsplit, fjoin, fpick, fpack, feq_i, feq_l}
use contract.Monad.{fact_use}
use denote.RattleType.{RattleType, Valss}
use denote.Builtin.{RawPtr}
use denote.Memory.{lone}
use denote.RawPtr.{Ptr, block_ptr, null_ptr, ptr_val, lies_at, Testable}
use denote.Steps.{nothing}
use denote.Param.{layout}
use denote.Param.Laws.{Laws}
use denote.Struct.Struct.{within}
use denote.Struct.Owning.{shape}
use Rattle.std.proofs.GlobalToken.{dealloc_token-Testable}
use Rattle.std.proofs.ResultValues.{and_tt}
use Rattle.std.proofs.alloc.Calls.{handle_tells}
use Rattle.std.proofs.alloc.Global.TheLaws as global_laws
use Rattle.std.proofs.cell.Inside.{Good}
use Rattle.std.specs.contracts.alloc.Global as global
use Rattle.std.specs.contracts.impls.GlobalAllocator.TheImpl.{ghosts}
use Rattle.std.specs.declared.alloc.Global.{Global}
use Rattle.std.specs.declared.option.Option.TheVariants.{None, Some}
use Rattle.simplex_handle.specs.Held.{Held, holds}
use Rattle.simplex_handle.specs.contracts.auditor.AnyAuditor as auditor
use Rattle.simplex_handle.specs.contracts.handle.Handle as handle
use Rattle.simplex_handle.proofs.Pointers.{allocator, boxed_at, struct_of}

abbrev pub Auditor : RattleType
Auditor = auditor.the_row

abbrev pub Alloc : RattleType
Alloc = global.the_row

abbrev pub laws : Laws Alloc
laws = global_laws.the_row_laws

abbrev pub Handle : RattleType
Handle = handle.the_row

-- null beside an allocator is a handle
pub null_fits : (alloc : Val) → Good (layout Alloc) alloc → Good (layout Handle) (struct_of vnull alloc)
null_fits alloc good = (and_tt (has_ty (layout Alloc) alloc) good.0, (record { fits = lit< tt }, (good.1, tt)))

module _ {M : Type 1} {𝓤 : Ura M} {𝓛 : Logic 𝓤} {K : Type 0} {Γ : List (Item 𝓤)} {G : Goal 𝓤 𝓛.H} where
  -- what a handle owns is taken out of it
  pub handle_opened : K → (h : Handle.Denot) (values : List Val) →
      ((alloc : Val) → values ≡ struct_of (ptr_val h.at) alloc ∷ [] → Good (layout Alloc) alloc →
      Seq K 𝓛 (‵ (holds h.alloc h.at h.held) ∷ ‵ (Alloc.own_val h.alloc (alloc ∷ [])) ∷ Γ) G) →
      Seq K 𝓛 (‵ (Handle.own_val h values) ∷ Γ) G
  handle_opened ! h values go =
      fsplit ! $ fpick ! (λ parts. fsplit ! $ feq_l ! (λ whole. fsplit ! $ feq_l ! (λ first. fsplit ! $
      handle_tells (allocator Auditor Alloc laws ghosts) ! h.alloc parts.1.0 (λ alloc second good.
      let Is : List Val → List Val → Type 0 = λ us ws. values ≡ vstruct (of_list (us ++ (ws ++ []))) ∷ [] in
      move ! (1 ∷ []) $ drop ! $ move ! (1 ∷ []) $
      go alloc (subst (Is (ptr_val h.at ∷ [])) second (subst (λ us. Is us parts.1.0) first whole)) good))))

  -- and put into it again
  pub handle_closed : K → (at : Ptr) (alloc : Val) (a : Global) (held : Held) →
      Step K 𝓛
      (‵ (Handle.own_val (record { at = at; alloc = a; held = held }) (struct_of (ptr_val at) alloc ∷ [])) ∷ Γ) G
      (‵ (holds a at held) ∷ ‵ (Alloc.own_val a (alloc ∷ [])) ∷ Γ) G
  handle_closed ! at alloc a held = step (λ go.
      let whole : List Val = struct_of (ptr_val at) alloc ∷ [] in
      let first : List Val = ptr_val at ∷ [] in
      nothing ! $ move ! (2 ∷ 0 ∷ []) $ fjoin ! $ feq_i ! (List Val) first first refl $ fjoin ! $
      feq_i ! (List Val) whole whole refl $ fjoin ! $
      fpack ! (Valss (RawPtr ∷ Alloc ∷ [])) (within (shape handle.the_type) (at, (((tt, tt), tt), tt)) whole)
      (first, (alloc ∷ [], tt)) $ fjoin ! $ go)

  -- what a box owns is held
  pub box_held : K → (a : Global) (b o : ℕ) (one : Auditor.Denot) →
      Step K 𝓛 (‵ (holds a (block_ptr b o) (Some one)) ∷ Γ) G
      (‵ (boxed_at Auditor Alloc laws ghosts a (block_ptr b o) one) ∷ Γ) G
  box_held ! a b o one = step (λ go.
      feq_i ! Held (Some one) (Some one) refl $ fjoin ! $
      fpack ! Auditor.Denot
      (λ other. fsep (feq Held (Some one) (Some other)) (boxed_at Auditor Alloc laws ghosts a (block_ptr b o) other)) one $ go)

  -- null holds nothing, and any other pointer, which can be compared with null, what a box owns
  pub none_or_one : K → (a : Global) (at : Ptr) (held : Held) → (at ≡ null_ptr → held ≡ None → Seq K 𝓛 Γ G) →
      ((b o : ℕ) (one : Auditor.Denot) → at ≡ block_ptr b o → held ≡ Some one → Testable (block_ptr b o) →
      Seq K 𝓛 (‵ (boxed_at Auditor Alloc laws ghosts a (block_ptr b o) one) ∷ Γ) G) →
      Seq K 𝓛 (‵ (holds a at held) ∷ Γ) G
  none_or_one ! a null_ptr held none some = feq_l ! (λ is. none refl is)
  none_or_one ! a (block_ptr b o) held none some = fpick ! (λ one. fsplit ! $ feq_l ! (λ is.
      let at : Ptr = block_ptr b o in
      let owned = boxed_at Auditor Alloc laws ghosts a at one in
      let right = ghosts.dealloc_token a (bare (lone Auditor.mir)) at in
      use1 𝓛 (given (Testable at) (‵ owned))
      (fact_use 𝓤 (Testable at)
      (via 𝓤 _ (snd∗ 𝓤 (sem 𝓛 (lies_at Auditor full_share at one)) (sem 𝓛 right))
      (dealloc_token-Testable 𝓛 a (bare (lone Auditor.mir)) at))
      (guard_i 𝓤 (Testable at) (sem 𝓛 owned))) $
      learn ! (λ testable. some b o one refl is testable)))
