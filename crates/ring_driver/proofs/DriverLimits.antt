-- Why a submit is refused, and the driver after a submit that was taken or refused.
use Rattle.std.proofs.Common.{◌≡◌, ℕ, List, Result, Ok, Err, refl, inl, inr}
use Rattle.std.specs.Prelude.{OnOk, OnErr, IfErr, MatchOption}
use Rattle.ring_base.specs.declared.fault.Fault.{Fault}
use Rattle.ring_base.specs.declared.fault.Fault.TheVariants.{Memory}
use Rattle.ring_payload.specs.declared.call.Call.{Call}
use Rattle.ring_payload.specs.Calls.{IsNewCall, call_of}
use Rattle.ring_node_spec.specs.Nodes.{Node}
use Rattle.ring_node_spec.specs.Stepping.{node_after_submit, submit_fault}
use Rattle.ring_driver.specs.Driving.{DriverView, IsRefused, driver_after_call}

-- the reasons why a call isn't made
pub not_made : {A : Type 0} (d : DriverView A) (client number : ℕ) (op : List ℕ) (fault : Fault)
    → IsNewCall {A = A} client number op (Err fault) → IsRefused d client number op fault
not_made d client number op fault is = inl is

-- the reasons why a node doesn't take it
pub not_taken : {A T : Type 0} (d : DriverView A) (client number : ℕ) (op : List ℕ) (r : Result T Fault)
    → IsNewCall {A = A} client number op (Ok (call_of {A = A} client number op))
    → IfErr r (λ fault. MatchOption (submit_fault d.node) (fault ≡ Memory) (λ first. fault ≡ first)) → IfErr r (IsRefused d client number op)
not_taken d client number op (Ok x) made says = tt
not_taken d client number op (Err fault) made says = inr (made, says)

-- a node that took a call, with the frames sent before
pub taken_as : {A T : Type 0} (d : DriverView A) (n : Node A) (call : Call A) (client number : ℕ) (op : List ℕ) (r : Result T Fault)
    → call ≡ call_of client number op → OnOk r (n ≡ node_after_submit d.node call) → OnOk r ((record d { node = n }) ≡ driver_after_call d client number op)
taken_as d n call client number op (Ok x) is taken = rw (taken, is) refl
taken_as d n call client number op (Err x) is taken = tt

pub kept_as : {A T : Type 0} (d : DriverView A) (n : Node A) (r : Result T Fault) → OnErr r (n ≡ d.node) → OnErr r ((record d { node = n }) ≡ d)
kept_as d n (Ok x) kept = tt
kept_as d n (Err x) kept = rw kept refl
