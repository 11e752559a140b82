-- A network over a world, and the effect of its calls.
-- Rules: Clients 8
use Rattle.std.specs.Prelude.{◌≡◌, ℕ, ◌/◌, ◌%◌, ◌<◌, ◌≤◌, ◌==◌, ◌&&◌, ◌⊎◌, if◌then◌else◌}
use Rattle.std.specs.Prelude.{Bool, true, false, List, [], ◌∷◌, ◌++◌, length, drop, Option, Some, None}
use Rattle.ring_payload.specs.Limits.{max_operation}
use Rattle.ring_base.specs.Fault.{fault_number}
use Rattle.ring_base.specs.Numbers.{saturating_successor}
use Rattle.ring_base.specs.Processors.{has, size, at}
use Rattle.ring_base.specs.declared.fault.Fault.{Fault}
use Rattle.ring_base.specs.declared.fault.Fault.TheVariants.{NotMember, PendingFull, OpTooLong, NumberGap, Stopped as StoppedFault, Memory, NoAnswer}
use Rattle.ring_base.specs.declared.timeout_kind.Kind.{Kind}
use Rattle.ring_base.specs.declared.timeout_kind.Kind.TheVariants.{Join, Consensus, Loss}
use Rattle.ring_base.specs.declared.state.State.{State}
use Rattle.ring_base.specs.declared.state.State.TheVariants.{Gather, Commit, Recovery, Operational, Stopped}
use Rattle.ring_client.specs.Asking.{IsSubmittable}
use Rattle.ring_object.specs.Operations.{Sequential}
use Rattle.ring_payload.specs.declared.call.Call.{Call}
use Rattle.ring_node_spec.specs.declared.event.Event.{Event}
use Rattle.ring_node_spec.specs.declared.event.Event.TheVariants.{Issue, Deliver, Timeout}
use Rattle.ring_node_spec.specs.declared.client_report.Told.{Told}
use Rattle.ring_node_spec.specs.declared.client_report.Told.TheVariants.{Answer, Refused}
use Rattle.ring_node_spec.specs.Worlds.{World}
use Rattle.ring_world.specs.WorldView.{world_of}
use Rattle.ring_world.specs.declared.open_copies.OpenCopy.{OpenCopy}
use Rattle.ring_world.specs.Pumping.{PumpView, IsUnchanged, HasRunEvent}

-- the view of contracts
pub record NetworkView (A : Type 0) : Type 0 where
  -- the world, and the open copies of its frames
  pub pump : PumpView A
  -- the processors that hear each other
  pub group : ℕ
  -- the number of timeouts so far; it stays at 2^64 - 1
  pub timeouts : ℕ

-- nothing has changed
pub record IsNetworkUnchanged {A : Type 0} (n m : NetworkView A) : Type 0 where
  pub rests : IsUnchanged n.pump m.pump
  pub group : m.group ≡ n.group
  pub timeouts : m.timeouts ≡ n.timeouts

-- ---- the effect of a turn

-- a copy is delivered if its sender and its receiver are in the group
abbrev pub hears : ℕ → ℕ → ℕ → Bool
hears group sender receiver = has group sender && has group receiver

-- the delivery of a copy, or no event for a copy that is lost
abbrev pub delivery_event : {A : Type 0} → Bool → OpenCopy → Option (Event A)
delivery_event false pair = None
delivery_event true pair = Some (Deliver pair.receiver pair.frame)

-- the kind of timeout for a node in this state: in Gather Join in even rounds and Consensus in odd rounds, otherwise
-- Loss
abbrev pub timeout_kind : State → ℕ → Kind
timeout_kind Gather round = if round % 2 == 0 then Join else Consensus
timeout_kind Commit round = Loss
timeout_kind Recovery round = Loss
timeout_kind Operational round = Loss
timeout_kind Stopped round = Loss

-- the timeout of a node in this round
abbrev pub timeout_at : {A : Type 0} → World A → ℕ → ℕ → Event A
timeout_at w i round = Timeout i (timeout_kind (w.nodes i).core.state round)

-- the timeout of the group's member whose turn it is, round by round; none if the group has no member
abbrev pub timeout_in : {A : Type 0} → World A → ℕ → ℕ → Option (Event A)
timeout_in w group timeouts = if size group == 0 then None else Some (timeout_at w (at group (timeouts % size group)) (timeouts / size group))

-- ---- the outcome of a submit

-- the refusal of this number, among those that a node has for a submit
abbrev pub fault_of : ℕ → Fault
fault_of number = if number == 2 then PendingFull else if number == 8 then StoppedFault else Memory

-- the refusal, if this is one
abbrev pub refusal_in : {A : Type 0} → Option (Told A) → Option Fault
refusal_in None = None
refusal_in (Some (Answer i c answer)) = None
refusal_in (Some (Refused i c number)) = Some (fault_of number)

-- the call may be issued at the node: the network has the node, and the call may be submitted
abbrev pub IsIssuable : {A : Type 0} → ℕ → Call A → NetworkView A → Type 0
IsIssuable i c n = (i ≤ n.pump.world_view.group.count) × IsSubmittable c

module _ {O : Type 0} (object : Sequential O) where
  -- the event happens, if there is one
  abbrev pub HappensIf : {A : Type 0} → Option (Event A) → PumpView A → PumpView A → Type 0
  HappensIf None old new = new ≡ old
  HappensIf (Some e) old new = HasRunEvent object e old new

  -- the first open copy was closed: it was delivered, or lost
  pub record HasDelivered {A : Type 0} (n m : NetworkView A) : Type 0 where
    pub pair : OpenCopy
    pub others : List OpenCopy
    pub first : n.pump.open_copies ≡ pair ∷ others
    pub comes : HappensIf (delivery_event (hears n.group pair.sender pair.receiver) pair) (record (n.pump) { open_copies = others }) m.pump
    pub timeouts : m.timeouts ≡ n.timeouts

  -- no copy was open: the next timeout happened
  pub record HasTimedOut {A : Type 0} (n m : NetworkView A) : Type 0 where
    pub none : n.pump.open_copies ≡ []
    pub comes : HappensIf (timeout_in (world_of object n.pump.world_view) n.group n.timeouts) n.pump m.pump
    pub timeouts : m.timeouts ≡ saturating_successor n.timeouts

  -- the turn that was due was taken
  pub record HasTurned {A : Type 0} (n m : NetworkView A) : Type 0 where
    pub turn : HasDelivered n m ⊎ HasTimedOut n m
    pub group : m.group ≡ n.group

  -- the call was issued at the node; the world reported nothing new
  pub record IsIssued {A : Type 0} (i : ℕ) (c : Call A) (n m : NetworkView A) : Type 0 where
    pub happens : HasRunEvent object (Issue i c) n.pump m.pump
    pub told : m.pump.world_view.told ≡ n.pump.world_view.told
    pub group : m.group ≡ n.group
    pub timeouts : m.timeouts ≡ n.timeouts

  -- the node refused the call, and the world reported the refusal
  pub record IsToldRefused {A : Type 0} (i : ℕ) (c : Call A) (n m : NetworkView A) (fault : Fault) : Type 0 where
    pub happens : HasRunEvent object (Issue i c) n.pump m.pump
    pub told : m.pump.world_view.told ≡ n.pump.world_view.told ++ Refused i c (fault_number fault) ∷ []
    pub group : m.group ≡ n.group
    pub timeouts : m.timeouts ≡ n.timeouts

  -- why a call is not issued, in this order: no such node, operation too long, number 0, no memory for its copy or the
  -- event, refused by the node
  abbrev pub IsNotIssued : {A : Type 0} → ℕ → Call A → NetworkView A → NetworkView A → Fault → Type 0
  IsNotIssued i c n m NotMember = (n.pump.world_view.group.count < i) × (m ≡ n)
  IsNotIssued i c n m OpTooLong = (i ≤ n.pump.world_view.group.count) × (max_operation < length c.op) × (m ≡ n)
  IsNotIssued i c n m NumberGap = (i ≤ n.pump.world_view.group.count) × (length c.op ≤ max_operation) × (c.number ≡ 0) × (m ≡ n)
  IsNotIssued i c n m Memory = IsIssuable i c n × (IsNetworkUnchanged n m ⊎ IsToldRefused i c n m Memory)
  IsNotIssued i c n m PendingFull = IsIssuable i c n × IsToldRefused i c n m PendingFull
  IsNotIssued i c n m StoppedFault = IsIssuable i c n × IsToldRefused i c n m StoppedFault
  IsNotIssued i c n m _ = ⊥

  -- why a port's call is not issued: the network is borrowed elsewhere, or the network does not issue it
  abbrev pub IsNotAsked : {A : Type 0} → ℕ → Call A → Fault → Type 0
  IsNotAsked {A} i c fault = (fault ≡ NoAnswer) ⊎ ((n : NetworkView A) × (m : NetworkView A) × IsNotIssued i c n m fault)

-- an allocation failed in a turn: a copy that was closed is lost; if none was open, nothing has changed
pub record HasLostTurn {A : Type 0} (n m : NetworkView A) : Type 0 where
  pub rests : IsUnchanged (record (n.pump) { open_copies = drop 1 n.pump.open_copies }) m.pump
  pub group : m.group ≡ n.group
  pub timeouts : m.timeouts ≡ n.timeouts
