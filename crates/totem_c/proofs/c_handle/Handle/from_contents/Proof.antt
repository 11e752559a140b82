-- `from_contents` drops the heap's handle, which takes no bytes, and keeps everything else.
use Rattle.std.proofs.Common.{◌≡◌, true, Some, List, [], ◌∷◌, ◌++◌, refl, sym, subst}
use mir.Val.{Val, vbool, vptr}
use base.Logic.{SProp, ent, emp, id⊢}
use prog.Wp.{WpFn}
use types.Kit.{‵, raw, ◌⊛◌, ◌$◌, ◌∵◌, !, qed, by, move, keep, split, fsplit, fjoin, fpack, suffices, use0}
use types.Run.{stop, fld, of_opd, true_lit, no_more, and_then, returns, enter}
use types.ByLocal.{alloc_all, pass_all, free_all, look_at, get, get_in, sets}
use types.Part.{agg, sub, whole}
use contract.Monad.{fact, fact_i}
use contract.Running.{tables}
use denote.Exit.{yes}
use denote.RattleType.{RattleType, owns}
use denote.Signature.{types_at, plain}
use denote.RawPtr.{block_ptr}
use denote.Steps.{nothing}
use denote.Triple.Entry.{alive}
use denote.Triple.Walked.{Stays, stay_dropped, walk_of, Goes-dropped}
use Rattle.std.specs.contracts.alloc.Global as heap
use Rattle.std.proofs.alloc.Global.TheLaws as heap_laws
use Rattle.std.specs.contracts.impls.GlobalAllocator.TheImpl.{ghosts}
use Rattle.std.proofs.raw_atomic.Walks.{proved_at, leaves}
use Rattle.totem_c.specs.contracts.handle_contents.HandleContents as contents
use Rattle.totem_c.proofs.Loosed.{both, RawBox, loose_good, loose_out}
use Rattle.totem_c.proofs.Handled.{handle_in}
use Rattle.totem_c.specs.Handles.{is_boxed_at}
use Rattle.std.specs.declared.alloc.Global.{Global}
use Rattle.totem_c.specs.contracts.c_handle.Handle as c_handle
use Rattle.totem_c.specs.contracts.c_handle.Handle.from_contents.{ended, clauses}
use Rattle.totem_c.specs.contracts.c_handle.Handle.from_contents.Key.{name as #self}
use Rattle.totem_c.proofs.c_handle.Handle.from_contents.Statement.{statement}
use Rattle.totem_c.proofs.c_handle.Handle.from_contents.Code as code

pub from_contents_spec : {M : Type 1} → statement M
from_contents_spec 𝓤 𝓛 𝓜 𝓡 wired =
    let H = 𝓛.H in let 𝓣 = tables 𝓤 H 𝓜 𝓡 𝓡.env in let c = clauses 𝓛 𝓜.mem 𝓡.returns in let fn = code.function in
    let R : RattleType = contents.the_row in let Z : RattleType = heap.the_row in let LZ = heap_laws.the_row_laws in
    let hs : Stays ended.signature.params ended.kept = (stay_dropped (plain (λ _. RawBox R Z LZ ghosts)) yes, tt) in
    proved_at 𝓛 ended hs c 𝓜 𝓡 (Goes-dropped 𝓛 0 (plain (λ _. RawBox R Z LZ ghosts)) yes (λ κs x f. refl), tt) #self fn (code.unfolded 𝓤 H 𝓜 𝓡 wired) (λ z are.
    let l = z.0.3.0 in
    let Post : Val → SProp 𝓤 = (walk_of 𝓛 ended hs c).post z in let Run : List Val → SProp 𝓤 = λ ws. WpFn 𝓤 H 𝓣.C 𝓣.Λ fn ws Post in
    qed 𝓛 ((raw (alive 𝓛 ended.signature z.0.0 z.0.1) ⊛ ‵ (owns (types_at ended.signature.params z.0.0) z.0.3 z.0.4)) ∷
    raw ((c z.0.0 z.0.3).requires z.1) ∷ []) ∵
    split ! $ move ! (1 ∷ []) $ fsplit ! $ loose_out R Z LZ ghosts ! l z.0.4.0 (λ b o h e ws fits.
    let w : Val = both (vptr b o) h in let d : (c_handle.the_row).Denot = record { at = block_ptr b o; made = true; value = Some l.value } in
    let v : Val = both (vptr b o) (vbool true) in
    fpack ! Global (is_boxed_at (block_ptr b o) l.value) l.alloc $ handle_in ! d $
    suffices ! (Run (w ∷ [])) (subst (λ (us : List Val). ent 𝓤 (Run (w ∷ [])) (Run us)) (sym (λ i. ws i ++ [])) (id⊢ 𝓤 (Run (w ∷ [])))) $
    -- [the handle; the heap's handle; nothing; the tokens; nothing].
    keep ! (0 ∷ []) $ enter ! 𝓣.C 𝓣.Λ fn (w ∷ []) Post $ alloc_all ! (λ at. pass_all ! refl (loose_good R Z LZ ghosts b o h fits, tt) $
    sets ! (of_opd ! (get_in ! (fld ! refl (stop !)) (sub ! 0 refl (whole !)))) refl (tt, tt) $
    sets ! (agg ! (and_then ! (get ! refl) (and_then ! (true_lit !) (no_more !)))) refl (tt, (tt, (tt, tt))) $
    returns ! (look_at ! 0 refl) $ free_all ! refl $ use0 𝓛 (raw (fact 𝓤 (d.value ≡ Some l.value))) (fact_i 𝓤 (d.value ≡ Some l.value) (emp 𝓤) refl) $
    move ! (1 ∷ 0 ∷ []) $ nothing ! $ nothing ! $ fjoin ! $ nothing ! $ by ! (leaves 𝓛 ended hs c z v d (tt, tt) (tt, tt)))))
