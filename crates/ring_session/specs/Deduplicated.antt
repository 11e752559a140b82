-- The calls of a list that take effect. Each client numbers its calls 1, 2 and so on. A call that is repeated, is late
-- or skips a number takes no effect, and neither does a call of a client beyond the first 1,024.
-- Rules: Sessions 6 and 7
use Rattle.std.specs.Prelude.{◌≡◌, ℕ, ◌+◌, ◌==◌, ◌&&◌, ◌||◌, nat_lt, Bool, List, [], ◌∷◌, ◌++◌, count_by, map, take, slice_get, Some, if◌then◌else◌}
use Rattle.ring_payload.specs.declared.call.Call.{Call}

-- Whether the call is of the client.
abbrev pub is_of_client : {A : Type 0} → ℕ → Call A → Bool
is_of_client client c = c.client == client

-- The number of calls of the client among these.
abbrev pub count_of : {A : Type 0} → ℕ → List (Call A) → ℕ
count_of client calls = count_by (is_of_client client) calls

-- The number of clients of these calls.
abbrev pub client_count : {A : Type 0} → List (Call A) → ℕ
client_count [] = 0
client_count (c ∷ cs) = if count_of c.client cs == 0 then client_count cs + 1 else client_count cs

-- The maximum number of known clients.
abbrev pub max_clients : ℕ
max_clients = 1024

-- Whether the client has a call among these, or may be added.
abbrev pub may_call : {A : Type 0} → List (Call A) → ℕ → Bool
may_call kept client = nat_lt 0 (count_of client kept) || nat_lt (client_count kept) max_clients

-- Sessions 6: whether the call takes effect after these, which did: its number is the client's next, and the client may
-- call.
abbrev pub takes_effect : {A : Type 0} → List (Call A) → Call A → Bool
takes_effect kept c = (c.number == count_of c.client kept + 1) && may_call kept c.client

-- The calls of a list that take effect after the kept ones.
abbrev pub deduplicated_after : {A : Type 0} → List (Call A) → List (Call A) → List (Call A)
deduplicated_after kept [] = []
deduplicated_after kept (c ∷ cs) = if takes_effect kept c then c ∷ deduplicated_after (kept ++ c ∷ []) cs else deduplicated_after kept cs

-- Sessions 6: the calls of a list that take effect, in order.
abbrev pub deduplicated : {A : Type 0} → List (Call A) → List (Call A)
deduplicated calls = deduplicated_after [] calls

-- The call is at this index of the list.
abbrev pub IsCallAt : {A : Type 0} → List (Call A) → ℕ → Call A → Type 0
IsCallAt calls p c = slice_get calls p ≡ Some c

-- The numbers of each client's calls are 1, 2, .. in order.
abbrev pub IsNumbered : {A : Type 0} → List (Call A) → Type 0
IsNumbered {A} calls = (p : ℕ) (c : Call A) → IsCallAt calls p c → c.number ≡ count_of c.client (take p calls) + 1

-- The operations of the calls, in order.
abbrev pub operations : {A : Type 0} → List (Call A) → List (List ℕ)
operations {A} calls = map (λ (c : Call A). c.op) calls
