-- The machine value of a handle, and the ownership of one. Assumes `Logic`.
use Rattle.std.proofs.Common.{◌≡◌, ℕ, Bool, true, false, Option, None, Some, List, [], ◌∷◌, ◌++◌, refl, ◌∙◌}
use Rattle.std.specs.Prelude.{not}
use lib.Dec.{T}
use seplogic.Ra.Ura.{Ura}
use mir.Val.{Val, vbool, vstruct, of_list}
use mir.Raw.{raw as bare}
use base.Fml.{ftrue}
use base.Logic.{never, never_e, fst∗}
use types.Logic.{Logic, sem}
use types.Kit.{Item, Goal, Seq, Step, step, ‵, given, ◌$◌, drop, learn, use1, fsplit, fjoin, fpick, fpack, feq_i, feq_l}
use denote.RattleType.{Valss}
use denote.Builtin.{RawPtr, bool}
use denote.RawPtr.{Ptr, block_ptr, null_ptr, ptr_val, in_a_block}
use denote.Memory.{lone}
use denote.Steps.{nothing}
use denote.Struct.Struct.{within}
use denote.Struct.Owning.{shape}
use Rattle.std.specs.declared.alloc.Global.{Global}
use Rattle.std.specs.contracts.impls.GlobalAllocator.TheImpl.{ghosts}
use Rattle.totem_c.specs.declared.handle_contents.HandleContents.{HandleContents}
use Rattle.totem_c.specs.contracts.handle_contents.HandleContents as contents
use Rattle.totem_c.specs.Handles.{handle_owns, is_boxed_at}
use Rattle.totem_c.specs.contracts.c_handle.Handle as c_handle
use Rattle.totem_c.proofs.Loosed.{both}

module _ {M : Type 1} {𝓤 : Ura M} {𝓛 : Logic 𝓤} {K : Type 0} {Γ : List (Item 𝓤)} {G : Goal 𝓤 𝓛.H} where
  -- A handle that has a box.
  pub handle_in : K → (h : (c_handle.the_row).Denot)
      → Step K 𝓛 (‵ ((c_handle.the_row).own_val h (both (ptr_val h.at) (vbool h.made) ∷ [])) ∷ Γ) G (‵ (handle_owns h.made h.at h.value) ∷ Γ) G
  handle_in t h = step (λ s.
      let v : Val = both (ptr_val h.at) (vbool h.made) in
      nothing t $ feq_i t (List Val) (vbool h.made ∷ []) (vbool h.made ∷ []) refl $ fjoin t $
      feq_i t (List Val) (ptr_val h.at ∷ []) (ptr_val h.at ∷ []) refl $ fjoin t $ feq_i t (List Val) (v ∷ []) (v ∷ []) refl $ fjoin t $
      fpack t (Valss (RawPtr ∷ bool ∷ [])) (within (shape c_handle.the_type) (h.at, (h.made, tt)) (v ∷ [])) (ptr_val h.at ∷ [], (vbool h.made ∷ [], tt)) $
      fjoin t $ s)

  -- A handle that is taken apart.
  pub handle_out : K → (h : (c_handle.the_row).Denot) (vs : List Val)
      → (vs ≡ both (ptr_val h.at) (vbool h.made) ∷ [] → Seq K 𝓛 (‵ (handle_owns h.made h.at h.value) ∷ Γ) G) → Seq K 𝓛 (‵ ((c_handle.the_row).own_val h vs) ∷ Γ) G
  handle_out t h vs k =
      fsplit t $ fpick t (λ vss. fsplit t $ feq_l t (λ ev. fsplit t $ feq_l t (λ ep. fsplit t $ feq_l t (λ eb. drop t $
      k (ev ∙ (λ i. vstruct (of_list (ep i ++ (eb i ++ []))) ∷ []))))))

  -- A handle that isn't empty has a box.
  pub full : K → (made : Bool) (at : Ptr) (value : Option HandleContents) → T made
      → ((x : HandleContents) (b o : ℕ) → value ≡ Some x → at ≡ block_ptr b o → (heap : Global) → Seq K 𝓛 (‵ (is_boxed_at (block_ptr b o) x heap) ∷ Γ) G)
      → Seq K 𝓛 (‵ (handle_owns made at value) ∷ Γ) G
  full t true at (Some x) is k = fpick t (λ heap.
      in_a_block t at (λ p. is_boxed_at p x heap) (fst∗ 𝓤 (never 𝓤) (sem 𝓛 (ghosts.dealloc_token heap (bare (lone (contents.the_row).mir)) null_ptr)))
      (λ b o e. k x b o refl e heap))
  full t true at None is k = use1 𝓛 (given ⊥ (‵ ftrue)) (never_e 𝓤 _) $ learn t (λ z. absurd z)
  full t false at value is k = absurd is

  -- An empty handle has no box.
  pub empty : K → (made : Bool) (at : Ptr) (value : Option HandleContents) → T (not made) → (value ≡ None → Seq K 𝓛 Γ G) → Seq K 𝓛 (‵ (handle_owns made at value) ∷ Γ) G
  empty t true at value is k = absurd is
  empty t false at (Some x) is k = use1 𝓛 (given ⊥ (‵ ftrue)) (never_e 𝓤 _) $ learn t (λ z. absurd z)
  empty t false at None is k = drop t $ k refl
