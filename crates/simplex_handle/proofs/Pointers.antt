-- How the machine stores a pointer that owns a box, and what it owns.
use Rattle.std.proofs.Common.{◌≡◌, ℕ, List, [], ◌∷◌, ◌++◌, refl, subst}
use mathlib.Core.Bool.{◌&&◌, true}
use lib.Dec.{T}
use seplogic.Ra.Ura.{Ura}
use mir.Syntax.{impl, tnil, dnil}
use mir.Raw.{raw as bare}
use mir.Val.{Val, vptr, vstruct, vcons, vnil, of_list, has_ty, WT}
use base.Fml.{Fml}
use base.Logic.{never, fst∗}
use types.Logic.{Logic, sem}
use types.Kit.{Item, Goal, Seq, Step, step, ‵, ◌$◌, move, drop, fsplit, fjoin, fpick, fpack, feq_i, feq_l}
use denote.RattleType.{RattleType, Valss}
use denote.Builtin.{RawPtr}
use denote.Memory.{lone}
use denote.RawPtr.{Ptr, block_ptr, null_ptr, ptr_val, in_a_block}
use denote.Steps.{nothing}
use denote.Param.{layout}
use denote.Param.Laws.{Laws}
use denote.Struct.Struct.{within}
use denote.Struct.Owning.{shape}
use Rattle.std.specs.declared.alloc.Allocator.{Ghosts}
use Rattle.std.proofs.alloc.Calls.{Al, handle_tells}
use Rattle.std.proofs.cell.Inside.{Good}
use Rattle.std.specs.Box.Ownership.{box_owns}
use Rattle.std.proofs.ResultValues.{and_tt}
use Rattle.simplex_handle.specs.contracts.pointer.Pointer as pointer

-- a struct of two fields in the machine
abbrev pub struct_of : Val → Val → Val
struct_of first second = vstruct (vcons first (vcons second vnil))

module _ (Boxed Alloc : RattleType) (laws : Laws Alloc) (ghosts : Ghosts Alloc.Denot) where
  abbrev pub Pointer : RattleType
  Pointer = pointer.the_row Boxed Alloc ghosts

  -- what is at a place of the heap, and the right to free it
  abbrev pub boxed_at : Alloc.Denot → Ptr → Boxed.Denot → Fml
  boxed_at alloc at value = box_owns (ghosts.dealloc_token alloc) Boxed at value

  abbrev pub allocator : Al
  allocator =
      record { row = Alloc; laws = laws; g = ghosts; d = impl [] tnil dnil; drops = impl [] tnil dnil }

  -- a pointer into a block beside an allocator is a value of the struct
  pub fits_beside : (b o : ℕ) (alloc : Val) → Good (layout Alloc) alloc →
      T (has_ty (layout Alloc) alloc && true) × WT (struct_of (vptr b o) alloc)
  fits_beside b o alloc good = (and_tt (has_ty (layout Alloc) alloc) good.0, (tt, (good.1, tt)))

  module _ {M : Type 1} {𝓤 : Ura M} {𝓛 : Logic 𝓤} {K : Type 0} {Γ : List (Item 𝓤)} {G : Goal 𝓤 𝓛.H} where
    -- the box and the allocator that a pointer owns are taken out of it
    pub opened : K → (p : Pointer.Denot) (values : List Val) →
        ((b o : ℕ) (alloc : Val) → p.at ≡ block_ptr b o → values ≡ struct_of (vptr b o) alloc ∷ [] →
        Good (layout Alloc) alloc →
        Seq K 𝓛 (‵ (boxed_at p.alloc (block_ptr b o) p.value) ∷ ‵ (Alloc.own_val p.alloc (alloc ∷ [])) ∷ Γ) G) →
        Seq K 𝓛 (‵ (Pointer.own_val p values) ∷ Γ) G
    opened ! p values go =
        fsplit ! $ fpick ! (λ parts. fsplit ! $ feq_l ! (λ whole. fsplit ! $ feq_l ! (λ first. fsplit ! $
        handle_tells allocator ! p.alloc parts.1.0 (λ alloc second good.
        move ! (1 ∷ []) $ drop ! $ move ! (1 ∷ []) $
        in_a_block ! p.at (λ at. boxed_at p.alloc at p.value)
        (fst∗ 𝓤 (never 𝓤) (sem 𝓛 (ghosts.dealloc_token p.alloc (bare (lone Boxed.mir)) null_ptr))) (λ b o at.
        let Is : List Val → List Val → Type 0 = λ us ws. values ≡ vstruct (of_list (us ++ (ws ++ []))) ∷ [] in
        go b o alloc at
        (subst (λ (q : Ptr). Is (ptr_val q ∷ []) (alloc ∷ [])) at
        (subst (Is (ptr_val p.at ∷ [])) second (subst (λ us. Is us parts.1.0) first whole))) good)))))

    -- and put into it again
    pub closed : K → (b o : ℕ) (alloc : Val) (a : Alloc.Denot) (value : Boxed.Denot) →
        Step K 𝓛
        (‵ (Pointer.own_val (record { at = block_ptr b o; alloc = a; value = value }) (struct_of (vptr b o) alloc ∷ [])) ∷ Γ) G
        (‵ (boxed_at a (block_ptr b o) value) ∷ ‵ (Alloc.own_val a (alloc ∷ [])) ∷ Γ) G
    closed ! b o alloc a value = step (λ go.
        let whole : List Val = struct_of (vptr b o) alloc ∷ [] in
        let first : List Val = vptr b o ∷ [] in
        nothing ! $ move ! (2 ∷ 0 ∷ []) $ fjoin ! $ feq_i ! (List Val) first first refl $ fjoin ! $
        feq_i ! (List Val) whole whole refl $ fjoin ! $
        fpack ! (Valss (RawPtr ∷ Alloc ∷ []))
        (within (shape (pointer.the_type Boxed Alloc ghosts)) (block_ptr b o, (a, tt)) whole) (first, (alloc ∷ [], tt)) $
        fjoin ! $ go)
