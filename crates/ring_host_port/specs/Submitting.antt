-- The refusals of a port's submit.
-- Rules: Clients 2; Refusals 4
use Rattle.std.specs.Prelude.{◌≡◌, ◌<◌, ◌≤◌, ◌⊎◌, length}
use Rattle.ring_payload.specs.Limits.{max_operation}
use Rattle.ring_base.specs.declared.fault.Fault.{Fault}
use Rattle.ring_base.specs.declared.fault.Fault.TheVariants.{OpTooLong, NumberGap}
use Rattle.ring_payload.specs.declared.call.Call.{Call}
use Rattle.ring_client.specs.Asking.{IsSubmittable}
use Rattle.ring_host.specs.RefusingHeap.{IsSubmitFault}

-- The reason for a refusal, the first that holds: the operation is too long; the number is 0; the host refuses it.
abbrev pub IsNotSubmitted : {A : Type 0} → Call A → Fault → Type 0
IsNotSubmitted call fault =
    ((fault ≡ OpTooLong) × (max_operation < length call.op)) ⊎ ((fault ≡ NumberGap) × (length call.op ≤ max_operation) × (call.number ≡ 0))
    ⊎ (IsSubmittable call × IsSubmitFault fault)
