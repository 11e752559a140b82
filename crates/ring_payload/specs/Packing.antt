-- How a visit makes messages from a queue of payloads: it sends a run of Calls as one Pack.
-- Rules: Token and window 9
use Rattle.std.specs.Prelude.{◌≡◌, ℕ, zero, suc, ◌-◌, ◌≤◌, max, Bool, true, false, nat_le, if◌then◌else◌, List, [], ◌∷◌, map, drop, length}
use Rattle.std.specs.List.{AllByRecursion}
use Rattle.ring_codec.specs.BaseReexports.{IsListPrefix}
use Rattle.ring_payload.specs.declared.call.Call.{Call as OneCall}
use Rattle.ring_payload.specs.declared.content.Payload.{Payload}
use Rattle.ring_payload.specs.declared.content.Payload.TheVariants.{Call, Wrapped, End, Head, Part, Pack, Snap}
use Rattle.ring_payload.specs.Limits.{max_pack_calls, max_pack_bytes}
use Rattle.ring_payload.specs.Calls.{call_bytes}
use Rattle.ring_payload.specs.Packs.{pack_bytes}

-- whether the payload may be in a queue: clients and the log send it; a Pack is made from a queue, and is never in one
abbrev pub is_queued : {A : Type 0} → Payload A → Bool
is_queued (Call call) = true
is_queued (Wrapped old) = false
is_queued End = false
is_queued (Head head) = true
is_queued (Part part) = true
is_queued (Pack pack) = false
is_queued (Snap snap) = true

-- each payload of the queue may be in a queue
abbrev pub AreQueued : {A : Type 0} → List (Payload A) → Type 0
AreQueued queue = AllByRecursion (λ (p : Payload _). is_queued p ≡ true) queue

-- the longest run of Calls at the front of a queue within a number of calls and a number of bytes
abbrev pub run_within : {A : Type 0} → ℕ → ℕ → List (Payload A) → List (OneCall A)
run_within zero bytes queue = []
run_within (suc more) bytes [] = []
run_within (suc more) bytes (Call c ∷ queue) = if nat_le (call_bytes c) bytes then c ∷ run_within more (bytes - call_bytes c) queue else []
run_within (suc more) bytes (Wrapped old ∷ queue) = []
run_within (suc more) bytes (End ∷ queue) = []
run_within (suc more) bytes (Head head ∷ queue) = []
run_within (suc more) bytes (Part part ∷ queue) = []
run_within (suc more) bytes (Pack pack ∷ queue) = []
run_within (suc more) bytes (Snap snap ∷ queue) = []

-- the longest run of Calls at the front of a queue that fits one Pack, whose tag and count take two bytes
abbrev pub longest_call_run : {A : Type 0} → List (Payload A) → List (OneCall A)
longest_call_run queue = run_within max_pack_calls (max_pack_bytes - 2) queue

-- the run of Calls is at the front of the queue and fits one Pack
pub record IsCallRun {A : Type 0} (queue : List (Payload A)) (run : List (OneCall A)) : Type 0 where
  pub begins : IsListPrefix (map (λ c. Call c) run) queue
  pub few : length run ≤ max_pack_calls
  pub short : pack_bytes run ≤ max_pack_bytes

-- the run is the longest such run
pub record IsLongestRun {A : Type 0} (queue : List (Payload A)) (run : List (OneCall A)) : Type 0 where
  pub fits : IsCallRun queue run
  pub longest : (other : List (OneCall A)) → IsCallRun queue other → length other ≤ length run

-- the first message of a queue: a Pack of the run if it has at least two Calls, otherwise the first payload unchanged
abbrev pub first_packed_payload : {A : Type 0} → Payload A → List (OneCall A) → Payload A
first_packed_payload first [] = first
first_packed_payload first (c ∷ []) = first
first_packed_payload first (c ∷ d ∷ run) = Pack (record { calls = c ∷ d ∷ run })

-- the rest of the queue after its first message
abbrev pub behind : {A : Type 0} → List (Payload A) → List (Payload A)
behind queue = drop (max 1 (length (longest_call_run queue))) queue

-- the first messages of a queue, at most the given number; each is made from what the previous ones left
abbrev pub packed_payloads : {A : Type 0} → ℕ → List (Payload A) → List (Payload A)
packed_payloads zero queue = []
packed_payloads (suc more) [] = []
packed_payloads (suc more) (first ∷ queue) = first_packed_payload first (longest_call_run (first ∷ queue)) ∷ packed_payloads more (behind (first ∷ queue))

-- the rest of the queue after these messages
abbrev pub unpacked_rest : {A : Type 0} → ℕ → List (Payload A) → List (Payload A)
unpacked_rest zero queue = queue
unpacked_rest (suc more) queue = unpacked_rest more (behind queue)
