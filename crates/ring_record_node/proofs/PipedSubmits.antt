-- A call that is submitted gets a ticket, or is refused.
use Rattle.std.proofs.Common.{◌≡◌, ℕ, List, length, None, Result, Ok, Err, inl, inr, refl, sym, subst}
use Rattle.std.specs.Prelude.{OnOk, OnErr, IfOk, IfErr, IsErrAnd, MatchOption}
use Rattle.ring_base.specs.declared.fault.Fault.{Fault}
use Rattle.ring_base.specs.declared.fault.Fault.TheVariants.{Memory}
use Rattle.ring_object.specs.Operations.{Sequential}
use Rattle.ring_payload.specs.declared.call.Call.{Call}
use Rattle.ring_payload.specs.Calls.{IsNewCall}
use Rattle.ring_node_spec.specs.Nodes.{Node}
use Rattle.ring_node_spec.specs.Stepping.{submit_fault, node_after_submit}
use Rattle.ring_record_node.specs.RecordNodes.{IsSubmission}

module _ {O A : Type 0} (object : Sequential O) (old : Node A) (client number : ℕ) (operation : List ℕ) where
  -- the call is none
  pub not_made : (r : Result ℕ Fault) (fault : Fault) → IsErrAnd r (λ (e : Fault). e ≡ fault) → IsNewCall {A = A} client number operation (Err fault)
      → IsSubmission object old client number operation r old
  not_made (Ok x) fault is made = absurd is
  not_made (Err e) fault is made =
      subst (λ (f : Fault). IsSubmission object old client number operation (Err f) old) (sym is) (refl, inl made)

  -- the call is one, and it is submitted
  pub made : (new : Node A) (call : Call A) (r : Result ℕ Fault) → IsNewCall client number operation (Ok call)
      → IfOk r (λ (ticket : ℕ). ticket ≡ length old.tickets) → OnOk r (submit_fault old ≡ None) → OnOk r (new ≡ node_after_submit old call)
      → OnErr r (new ≡ old) → IfErr r (λ (fault : Fault). MatchOption (submit_fault old) (fault ≡ Memory) (λ first. fault ≡ first))
      → IsSubmission object old client number operation r new
  made new call (Ok ticket) is place taken done kept why =
      let same = is.2 in (
        taken,
        place,
        subst (λ (c : Call A). new ≡ node_after_submit old c) same done,
        subst (λ (c : Call A). IsNewCall client number operation (Ok c)) same is,
      )
  made new call (Err fault) is place taken done kept why =
      (kept, inr (subst (λ (c : Call A). IsNewCall client number operation (Ok c)) is.2 is, why))
