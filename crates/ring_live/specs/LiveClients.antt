-- The results of a live run's clients, and of the run.
-- Formats: The command line
use Rattle.std.specs.Prelude.{◌≡◌, ℕ, ◌-◌, ◌^◌, min, Bool, List, [], ◌∷◌, sum_by, Option, Some, None, Result, Err}
use Rattle.std.specs.Option.{unwrap_or}
use Rattle.ring_base.specs.declared.fault.Fault.{Fault}
use Rattle.ring_base.specs.declared.fault.Fault.TheVariants.{NotMember}
use Rattle.ring_client.specs.Calling.{ClientOf, IsReplied}
use Rattle.ring_client.specs.declared.last_request.Asked.{Asked}
use Rattle.ring_live.specs.declared.live_caller.ClientResult.{ClientResult}
use Rattle.ring_live.specs.declared.running.LiveResult.{LiveResult}
use Rattle.ring_things.specs.Outcome.{decoding}
use Rattle.ring_things.specs.declared.replies.ReplyParts.{ReplyParts}

-- The bytes of the operation that reads key 0 of the counters, which are the second object of the standard object's
-- shelf.
abbrev pub read_bytes : List ℕ
read_bytes = 1 ∷ 2 ∷ 0 ∷ []

-- The count in the parts of a reply, or 0 if there is none.
abbrev pub count_of : Option ReplyParts → ℕ
count_of (Some replied) = unwrap_or replied.value 0
count_of None = 0

-- The count in a reply.
abbrev pub count_in_reply : List ℕ → ℕ
count_in_reply reply = count_of (decoding reply)

-- A port has replied to the client's read with this count.
abbrev pub HasRead : {P : Type 0} → (P → Asked) → ClientOf P → ClientOf P → ℕ → Type 0
HasRead asked old new count = (reply : List ℕ) × IsReplied asked old new read_bytes reply × (count ≡ count_in_reply reply)

-- The number of adds answered to all clients.
abbrev pub answered_of : List ClientResult → ℕ
answered_of results = sum_by (λ (client_result : ClientResult). client_result.answered) results

-- The counter that the first client read, or its fault.
abbrev pub counter_of : List ClientResult → Result ℕ Fault
counter_of [] = Err NotMember
counter_of (first ∷ others) = first.counter

-- The result of a run of this many nodes with these results of its clients.
abbrev pub live_result_of : ℕ → List ClientResult → Bool → LiveResult
live_result_of nodes results is_legal =
    record { nodes = nodes; calls = min (2 ^ 64 - 1) (answered_of results); counter = counter_of results; is_legal = is_legal }
