-- `into_raw_box` decides by the mark whether a box is there.
use Rattle.std.proofs.Common.{◌≡◌, None, Some, List, [], ◌∷◌, ◌++◌, refl, sym, subst}
use lib.Dec.{lit<}
use mir.Val.{Val, vbool, vcons, vnil}
use base.Logic.{SProp, ent, emp, id⊢}
use prog.Wp.{WpFn}
use types.Kit.{‵, raw, at_ret, ◌⊛◌, ◌$◌, ◌∵◌, !, qed, by, move, keep, drop, split, fsplit3, fjoin, suffices, rewrite, use0, use1}
use types.Run.{stop, fld, of_opd, lit, no_more, and_then, first, branches, exec, returns, enter}
use types.ByLocal.{alloc_all, pass_all, free_all, look_at, get, get_in, sets, sets_last, env}
use types.Part.{agg, sub, whole}
use contract.Monad.{fact, fact_i}
use contract.Running.{tables}
use denote.Exit.{yes}
use denote.RattleType.{RattleType, owns}
use denote.Laws.{Typed}
use denote.Param.{layout}
use denote.Signature.{types_at, type_at, plain}
use denote.RawPtr.{Ptr, block_ptr, ptr_val, rawptr_Lawful}
use denote.Steps.{nothing}
use denote.Triple.Entry.{alive}
use denote.Triple.Walked.{Stays, stay_dropped, walk_of, Goes-dropped}
use Rattle.std.proofs.alloc.Shapes.{after}
use Rattle.std.proofs.cell.Inside.{Good, one}
use Rattle.std.proofs.option.Made.{Some-of, none_of}
use Rattle.std.specs.Box.Ownership.{box_owns}
use Rattle.std.proofs.ResultValues.{and_tt}
use types.Match.{live}
use Rattle.std.specs.contracts.alloc.Global as heap
use Rattle.std.proofs.alloc.Global.TheLaws as heap_laws
use Rattle.std.specs.contracts.impls.GlobalAllocator.TheImpl.{ghosts}
use Rattle.std.proofs.raw_atomic.Walks.{proved_at, leaves}
use Rattle.totem_c.specs.contracts.handle_contents.HandleContents as contents
use Rattle.totem_c.proofs.Loosed.{both, RawBox, loose_good, loose_in}
use Rattle.totem_c.proofs.Handled.{handle_out, full, empty}
use Rattle.totem_c.specs.contracts.c_handle.Handle as c_handle
use Rattle.totem_c.proofs.c_handle.Handle.TheLaws as held_laws
use Rattle.totem_c.specs.contracts.c_handle.Handle.into_raw_box.{ended, clauses}
use Rattle.totem_c.specs.contracts.c_handle.Handle.into_raw_box.Key.{name as #self}
use Rattle.totem_c.proofs.c_handle.Handle.into_raw_box.Statement.{statement}
use Rattle.totem_c.proofs.c_handle.Handle.into_raw_box.Code as code

pub into_raw_box_spec : {M : Type 1} → statement M
into_raw_box_spec 𝓤 𝓛 𝓜 𝓡 wired =
    let H = 𝓛.H in let 𝓣 = tables 𝓤 H 𝓜 𝓡 𝓡.env in let c = clauses 𝓛 𝓜.mem 𝓡.returns in let fn = code.function in
    let R : RattleType = contents.the_row in let Z : RattleType = heap.the_row in let LZ = heap_laws.the_row_laws in let F : RattleType = c_handle.the_row in
    let L : RattleType = RawBox R Z LZ ghosts in
    let hs : Stays ended.signature.params ended.kept = (stay_dropped (plain (λ _. F)) yes, (stay_dropped (plain (λ _. Z)) yes, tt)) in
    proved_at 𝓛 ended hs c 𝓜 𝓡 (
      Goes-dropped 𝓛 0 (plain (λ _. F)) yes (λ κs x f. refl),
      (Goes-dropped 𝓛 0 (plain (λ _. Z)) yes (λ κs x f. refl), tt),
    ) #self fn (code.unfolded 𝓤 H 𝓜 𝓡 wired) (λ z are.
    let d = z.0.3.0 in let a = z.0.3.1.0 in
    let Post : Val → SProp 𝓤 = (walk_of 𝓛 ended hs c).post z in let Run : List Val → SProp 𝓤 = λ ws. WpFn 𝓤 H 𝓣.C 𝓣.Λ fn ws Post in
    let Out : RattleType = type_at ended.signature.result z.0.0 in
    let h = one (layout Z) z.0.4.1.0 ((LZ.lawful 𝓛).typed a z.0.4.1.0 are.1.0) in let w : Val = both (ptr_val d.at) (vbool d.made) in
    qed 𝓛 ((raw (alive 𝓛 ended.signature z.0.0 z.0.1) ⊛ ‵ (owns (types_at ended.signature.params z.0.0) z.0.3 z.0.4)) ∷
    raw ((c z.0.0 z.0.3).requires z.1) ∷ []) ∵
    split ! $ move ! (1 ∷ []) $ fsplit3 ! $ rewrite ! 1 (λ (us : List Val). ‵ (Z.own_val a us)) h.1 refl $ handle_out ! d z.0.4.0 (λ es.
    let good = (subst (Typed F.mir) es (((held_laws.the_row_laws).lawful 𝓛).typed d z.0.4.0 are.0)).0 in
    suffices ! (Run (w ∷ h.0 ∷ [])) (subst (λ (us : List Val). ent 𝓤 (Run (w ∷ h.0 ∷ [])) (Run us)) (sym (λ i. es i ++ (h.1 i ++ [])))
    (id⊢ 𝓤 (Run (w ∷ h.0 ∷ [])))) $
    -- [the handle's ownership; the heap's handle].
    keep ! (0 ∷ 1 ∷ []) $ enter ! 𝓣.C 𝓣.Λ fn (w ∷ h.0 ∷ []) Post $ alloc_all ! (λ l. pass_all ! refl (good, (h.2, tt)) $ let Ev = env fn.locals l in
    sets ! (of_opd ! (get_in ! (fld ! refl (stop !)) (sub ! 0 refl (whole !)))) refl ((rawptr_Lawful 𝓛).typed d.at _ refl).0 $
    sets ! (of_opd ! (get_in ! (fld ! refl (stop !)) (sub ! 1 refl (whole !)))) refl (tt, tt) $
    sets ! (of_opd ! (get ! refl)) refl (tt, tt) $ first ! $ branches ! (get ! refl)
    (λ is. full ! d.made d.at d.value is (λ x b o ev ep heap.
    let made : Val = both (ptr_val d.at) h.0 in let v : Val = live 1 (vcons made vnil) in let r : L.Denot = record { at = d.at; alloc = a; value = x } in
    let typed : Good (layout L) made = subst (λ (p : Ptr). Good (layout L) (both (ptr_val p) h.0)) (sym ep) (loose_good R Z LZ ghosts b o h.0 h.2) in
    let all : Good (layout Out) v = (and_tt _ typed.0, (record { fits = lit< tt }, (typed.1, tt))) in
    sets ! (agg ! (and_then ! (get ! refl) (and_then ! (get ! refl) (no_more !)))) refl typed $
    sets_last ! (agg ! (and_then ! (lit ! tt) (and_then ! (get ! refl) (no_more !)))) refl all $
    exec ! 𝓣.C 𝓣.Λ Ev (after 4 fn.body) (at_ret Ev Post) $ sets ! (of_opd ! (get ! refl)) refl all $
    use1 𝓛 (‵ (box_owns (ghosts.dealloc_token a) R (block_ptr b o) x)) (id⊢ 𝓤 _) $ loose_in R Z LZ ghosts ! b o h.0 a x $
    rewrite ! 0 (λ (p : Ptr). ‵ (L.own_val (record { at = p; alloc = a; value = x }) (both (ptr_val p) h.0 ∷ []))) (sym ep) refl $
    use1 𝓛 (‵ (Out.own_val (Some r) (v ∷ []))) (Some-of 𝓛 L r made) $
    returns ! (look_at ! 0 refl) $ free_all ! refl $ use0 𝓛 (raw (fact 𝓤 (d.value ≡ Some x))) (fact_i 𝓤 (d.value ≡ Some x) (emp 𝓤) ev) $
    move ! (1 ∷ 0 ∷ []) $ nothing ! $ nothing ! $ fjoin ! $ nothing ! $ fjoin ! $ nothing ! $
    by ! (leaves 𝓛 ended hs c z v (Some r) (tt, (tt, tt)) (tt, (tt, tt)))))
    (λ is. empty ! d.made d.at d.value is (λ ev.
    let v : Val = live 0 vnil in let all : Good (layout Out) v = (tt, (record { fits = lit< tt }, tt)) in
    drop ! $ sets_last ! (agg ! (and_then ! (lit ! tt) (no_more !))) refl all $
    exec ! 𝓣.C 𝓣.Λ Ev (after 4 fn.body) (at_ret Ev Post) $ sets ! (of_opd ! (get ! refl)) refl all $
    returns ! (look_at ! 0 refl) $ free_all ! refl $ use0 𝓛 (raw (fact 𝓤 (d.value ≡ None))) (fact_i 𝓤 (d.value ≡ None) (emp 𝓤) ev) $
    use0 𝓛 (‵ (Out.own_val None (v ∷ []))) (none_of 𝓛 L) $
    nothing ! $ nothing ! $ fjoin ! $ nothing ! $ fjoin ! $ nothing ! $ by ! (leaves 𝓛 ended hs c z v None (tt, (tt, tt)) (tt, (tt, tt)))))
    )))
