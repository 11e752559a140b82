-- A node with the outputs of its last step, and the effect of its calls.
-- Rules: The replicated log 13 to 15, 18 and 20; Refusals 4 to 6; A node with a clock 5, 6 and 9
use Rattle.std.specs.Prelude.{◌≡◌, ℕ, ◌⊎◌, Bool, false, List, [], ◌∷◌, Option, Some, None, Ok, Err, MatchOption}
use Rattle.ring_base.specs.Group.{Group, IsInGroup}
use Rattle.ring_base.specs.declared.fault.Fault.{Fault}
use Rattle.ring_base.specs.declared.fault.Fault.TheVariants.{Memory, NotMember}
use Rattle.ring_base.specs.declared.timeout_kind.Kind.{Kind}
use Rattle.ring_object.specs.Operations.{Sequential}
use Rattle.ring_core_spec.specs.State.{OutgoingFrame}
use Rattle.ring_payload.specs.declared.call.Call.{Call}
use Rattle.ring_payload.specs.Calls.{call_of, IsNewCall}
use Rattle.ring_wire.specs.declared.frame.Frame.{Frame}
use Rattle.ring_node_spec.specs.Nodes.{Node, node_opening, node_stopped}
use Rattle.ring_node_spec.specs.Stepping.{node_step, node_after_submit, submit_fault}
use Rattle.ring_node_spec.specs.declared.input.Input.{Input}
use Rattle.ring_node_spec.specs.declared.input.Input.TheVariants.{Timeout}
use Rattle.ring_node.specs.Restores.{node_restored}
use Rattle.ring_timers.specs.declared.periods.Periods.{Periods}
use Rattle.ring_clock.specs.Clocks.{ClockView, clock_opening, first_due_at, clock_after_timeout, clock_after_step}
use Rattle.ring_clock.specs.StepOutcomes.{outcome_of, installs}

-- a node of a group with its clock, and the outputs of its last step that were not taken yet
pub record DriverView (A : Type 0) : Type 0 where
  pub group : Group
  pub node : Node A
  pub clock : ClockView
  -- the frames sent, the calls newly committed and the calls dropped by the last step, so far as they were not taken
  pub sends : List (OutgoingFrame A)
  pub committed : List (Call A)
  pub dropped : List (Call A)
  -- the number of places that the last step restored, if it restored any
  pub restored : Option ℕ
  -- whether the last step installed a ring
  pub has_installed : Bool

-- a driver of a node at its opening, with a clock of these periods to which no time has been passed
abbrev pub driver_opening : {A : Type 0} → Group → ℕ → Periods → DriverView A
driver_opening group me periods = record {
  group = group;
  node = node_opening group me;
  clock = clock_opening periods;
  sends = [];
  committed = [];
  dropped = [];
  restored = None;
  has_installed = false;
}

-- the driver after a step
abbrev pub driver_after_step : {A O : Type 0} → Sequential O → DriverView A → Input A → DriverView A
driver_after_step object d input =
    let s = node_step object d.node input in
    record d {
      node = s.node;
      clock = clock_after_step d.clock (outcome_of input s.sends);
      sends = s.sends;
      committed = s.committed;
      dropped = s.dropped;
      restored = node_restored d.node s.node;
      has_installed = installs d.node.core s.node.core;
    }

-- the driver after a refused step
abbrev pub driver_stopped : {A : Type 0} → DriverView A → DriverView A
driver_stopped d = record d { node = node_stopped d.node }

-- the driver to which this time is passed, before a step: the first timeout that is due at it is taken
abbrev pub driver_with_time : {A : Type 0} → DriverView A → ℕ → DriverView A
driver_with_time d now = record d { clock = clock_after_timeout d.clock now (first_due_at d.clock now) }

-- the driver after a step on this timeout, if there is one
abbrev pub driver_after_timeout : {A O : Type 0} → Sequential O → DriverView A → Option Kind → DriverView A
driver_after_timeout object d None = d
driver_after_timeout object d (Some kind) = driver_after_step object d (Timeout kind)

-- the driver to which this time is passed, after a step on the first timeout that is due at it
abbrev pub driver_at : {A O : Type 0} → Sequential O → DriverView A → ℕ → DriverView A
driver_at object d now = driver_after_timeout object (driver_with_time d now) (first_due_at d.clock now)

-- the driver after the submit of a client's call
abbrev pub driver_after_call : {A : Type 0} → DriverView A → ℕ → ℕ → List ℕ → DriverView A
driver_after_call d client number op = record d { node = node_after_submit d.node (call_of client number op) }

-- why a node is not opened: an allocation fails, or the processor is not in the group
abbrev pub IsNotOpened : Group → ℕ → Fault → Type 0
IsNotOpened group number fault = ((fault ≡ Memory) × IsInGroup group number) ⊎ ((fault ≡ NotMember) × ¬ IsInGroup group number)

-- why a call is not submitted: it can't be made, because it is invalid or an allocation fails; or the node has a reason
-- to refuse it; or an allocation of the node fails
abbrev pub IsRefused : {A : Type 0} → DriverView A → ℕ → ℕ → List ℕ → Fault → Type 0
IsRefused {A} d client number op fault =
    IsNewCall {A = A} client number op (Err fault)
    ⊎ (IsNewCall {A = A} client number op (Ok (call_of {A = A} client number op)) × MatchOption (submit_fault d.node) (fault ≡ Memory) (λ first. fault ≡ first))

-- the first element of a list is taken, if there is one
abbrev pub IsFirstTaken : {T : Type 0} → List T → List T → Option T → Type 0
IsFirstTaken before after (Some first) = before ≡ first ∷ after
IsFirstTaken before after None = (before ≡ []) × (after ≡ [])

-- the first frame sent is taken, if there is one
abbrev pub IsTaken : {A : Type 0} → DriverView A → DriverView A → Option (ℕ × Frame A) → Type 0
IsTaken before after (Some valid_frame) = (before.sends ≡ (record { to = valid_frame.0; frame = valid_frame.1 }) ∷ after.sends) × (after ≡ record before { sends = after.sends })
IsTaken before after None = (before.sends ≡ []) × (after ≡ before)
