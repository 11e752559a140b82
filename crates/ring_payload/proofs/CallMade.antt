-- A call made by `Call::new` keeps the limits of calls.
use Rattle.std.proofs.Common.{◌≡◌, ℕ, ◌^◌, ◌<◌, ◌≤◌, List, length}
use Rattle.ring_payload.specs.declared.call.Call.{Call}
use Rattle.ring_payload.specs.Calls.{CallFits, call_of}
use Rattle.ring_payload.specs.Limits.{max_operation}

pub made_fits : {A : Type 0} (x : Call A) (client number : ℕ) (bytes : List ℕ) → client < 2 ^ 32 → number < 2 ^ 64 → length bytes ≤ max_operation → 1 ≤ number
    → x ≡ call_of client number bytes → CallFits x
made_fits x client number bytes known small short counted e = rw e (record { client = known; number = counted; number_fits = small; op = short })
