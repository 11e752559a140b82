-- `empty_handle` owns nothing.
use Rattle.std.proofs.Common.{◌≡◌, false, None, [], ◌∷◌, refl}
use mir.Val.{Val, vint, vbool}
use mir.Syntax.{w64}
use base.Logic.{SProp, emp}
use types.Kit.{raw, ◌$◌, ◌∵◌, !, qed, by, drop, use0}
use types.Run.{lit, false_lit, no_more, and_then, returns, enter}
use types.ByLocal.{alloc_all, pass_all, free_all, look_at, sets}
use types.Part.{agg}
use contract.Monad.{fact, fact_i}
use contract.Running.{tables}
use denote.RawPtr.{null_ptr}
use denote.Steps.{nothing}
use denote.Triple.Entry.{on_entry}
use denote.Triple.Walked.{Stays, walk_of}
use lib.Dec.{lit<}
use Rattle.std.proofs.raw_atomic.Walks.{proved_at, leaves}
use Rattle.totem_c.proofs.Handled.{handle_in}
use Rattle.totem_c.proofs.Loosed.{both}
use Rattle.totem_c.specs.contracts.c_handle.Handle as c_handle
use Rattle.totem_c.specs.contracts.c_handle.Handle.empty_handle.{ended, clauses}
use Rattle.totem_c.specs.contracts.c_handle.Handle.empty_handle.Key.{name as #self}
use Rattle.totem_c.proofs.c_handle.Handle.empty_handle.Statement.{statement}
use Rattle.totem_c.proofs.c_handle.Handle.empty_handle.Code as code

pub empty_handle_spec : {M : Type 1} → statement M
empty_handle_spec 𝓤 𝓛 𝓜 𝓡 wired =
    let H = 𝓛.H in let 𝓣 = tables 𝓤 H 𝓜 𝓡 𝓡.env in let c = clauses 𝓛 𝓜.mem 𝓡.returns in let fn = code.function in
    let hs : Stays ended.signature.params ended.kept = tt in
    proved_at 𝓛 ended hs c 𝓜 𝓡 tt #self fn (code.unfolded 𝓤 H 𝓜 𝓡 wired) (λ z are.
    let Post : Val → SProp 𝓤 = (walk_of 𝓛 ended hs c).post z in
    let v : Val = both (vint w64 0) (vbool false) in
    let d : (c_handle.the_row).Denot = record { at = null_ptr; made = false; value = None } in
    qed 𝓛 (raw (on_entry 𝓛 ended.signature z.0.0 z.0.1 z.0.3 z.0.4) ∷ raw ((c z.0.0 z.0.3).requires z.1) ∷ []) ∵ drop ! $ drop ! $
    enter ! 𝓣.C 𝓣.Λ fn [] Post $ alloc_all ! (λ l. pass_all ! refl tt $
    sets ! (agg ! (and_then ! (lit ! tt) (and_then ! (false_lit !) (no_more !)))) refl (tt, (record { fits = lit< tt }, (tt, tt))) $
    returns ! (look_at ! 0 refl) $ free_all ! refl $ use0 𝓛 (raw (fact 𝓤 (d.value ≡ None))) (fact_i 𝓤 (d.value ≡ None) (emp 𝓤) refl) $
    nothing ! $ handle_in ! d $ nothing ! $ nothing ! $ by ! (leaves 𝓛 ended hs c z v d tt tt)))
