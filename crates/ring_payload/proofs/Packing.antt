-- The messages of a queue: unpacked, they and the rest are the queue; each run is the longest that fits one Pack.
use Rattle.std.proofs.Common.{◌≡◌, ℕ, zero, suc, ◌+◌, ◌-◌, ◌≤◌, max, true, false, List, [], ◌∷◌, ◌++◌, length, map}
use Rattle.std.proofs.Common.{drop, refl, sym, ap, subst, ◌∙◌, arith, append_assoc}
use Rattle.std.specs.Prelude.{nat_le}
use Rattle.std.specs.List.{flat_map, AllByRecursion}
use Rattle.std.proofs.lemmas.Bool.{cond_both, leb-true, le-leb, true≢false}
use Rattle.ring_payload.specs.declared.call.Call.{Call as OneCall}
use Rattle.ring_payload.specs.declared.content.Payload.{Payload}
use Rattle.ring_payload.specs.declared.content.Payload.TheVariants.{Call, Wrapped, End, Head, Part, Pack, Snap}
use Rattle.ring_payload.specs.Limits.{max_pack_calls, max_pack_bytes}
use Rattle.ring_payload.specs.Calls.{call_bytes, CallFits}
use Rattle.ring_payload.specs.Packs.{calls_bytes, pack_bytes}
use Rattle.ring_payload.specs.Payloads.{PayloadFits}
use Rattle.ring_payload.specs.PayloadKinds.{is_user, unpacked_payloads}
use Rattle.ring_payload.specs.Packing.{is_queued, AreQueued, IsLongestRun, run_within, longest_call_run, first_packed_payload, behind, packed_payloads, unpacked_rest}

-- as many as fit
pub length-packed_payloads : {A : Type 0} → (count : ℕ) (queue : List (Payload A)) → length (packed_payloads count queue) ≤ count
length-packed_payloads zero queue = omega arith
length-packed_payloads (suc more) [] = omega arith
length-packed_payloads (suc more) (first ∷ queue) =
    let i : length (packed_payloads more (behind (first ∷ queue))) ≤ more = length-packed_payloads more (behind (first ∷ queue)) in
    omega arith

abbrev pub calls_as : {A : Type 0} → List (OneCall A) → List (Payload A)
calls_as run = map (λ c. Call c) run

-- a run is at the queue's front
run-front : {A : Type 0} → (more bytes : ℕ) (queue : List (Payload A)) →
    calls_as (run_within more bytes queue) ++ drop (length (run_within more bytes queue)) queue ≡ queue
run-front zero bytes queue = refl
run-front (suc more) bytes [] = refl
run-front (suc more) bytes (Call c ∷ queue) =
    cond_both (nat_le (call_bytes c) bytes) (c ∷ run_within more (bytes - call_bytes c) queue) []
    (λ run. calls_as run ++ drop (length run) (Call c ∷ queue) ≡ Call c ∷ queue)
    (λ e. ap (λ q. Call c ∷ q) (run-front more (bytes - call_bytes c) queue)) (λ e. refl)
run-front (suc more) bytes (Wrapped old ∷ queue) = refl
run-front (suc more) bytes (End ∷ queue) = refl
run-front (suc more) bytes (Head head ∷ queue) = refl
run-front (suc more) bytes (Part part ∷ queue) = refl
run-front (suc more) bytes (Pack pack ∷ queue) = refl
run-front (suc more) bytes (Snap snap ∷ queue) = refl

run-few : {A : Type 0} → (more bytes : ℕ) (queue : List (Payload A)) → length (run_within more bytes queue) ≤ more
run-few zero bytes queue = omega arith
run-few (suc more) bytes [] = omega arith
run-few (suc more) bytes (Call c ∷ queue) =
    cond_both (nat_le (call_bytes c) bytes) (c ∷ run_within more (bytes - call_bytes c) queue) [] (λ run. length run ≤ suc more)
    (λ e. (let i : length (run_within more (bytes - call_bytes c) queue) ≤ more = run-few more (bytes - call_bytes c) queue in omega arith)) (λ e. omega arith)
run-few (suc more) bytes (Wrapped old ∷ queue) = omega arith
run-few (suc more) bytes (End ∷ queue) = omega arith
run-few (suc more) bytes (Head head ∷ queue) = omega arith
run-few (suc more) bytes (Part part ∷ queue) = omega arith
run-few (suc more) bytes (Pack pack ∷ queue) = omega arith
run-few (suc more) bytes (Snap snap ∷ queue) = omega arith

run-short : {A : Type 0} → (more bytes : ℕ) (queue : List (Payload A)) → calls_bytes (run_within more bytes queue) ≤ bytes
run-short zero bytes queue = omega arith
run-short (suc more) bytes [] = omega arith
run-short (suc more) bytes (Call c ∷ queue) =
    cond_both (nat_le (call_bytes c) bytes) (c ∷ run_within more (bytes - call_bytes c) queue) [] (λ run. calls_bytes run ≤ bytes)
    (λ e. (
    let i : calls_bytes (run_within more (bytes - call_bytes c) queue) ≤ bytes - call_bytes c = run-short more (bytes - call_bytes c) queue in
    let j : call_bytes c ≤ bytes = leb-true (call_bytes c) bytes e in
    omega arith
    ))
    (λ e. omega arith)
run-short (suc more) bytes (Wrapped old ∷ queue) = omega arith
run-short (suc more) bytes (End ∷ queue) = omega arith
run-short (suc more) bytes (Head head ∷ queue) = omega arith
run-short (suc more) bytes (Part part ∷ queue) = omega arith
run-short (suc more) bytes (Pack pack ∷ queue) = omega arith
run-short (suc more) bytes (Snap snap ∷ queue) = omega arith

-- no other run at the front that fits is longer
run-longest : {A : Type 0} → (more bytes : ℕ) (queue : List (Payload A)) (other : List (OneCall A)) (rest : List (Payload A)) →
    calls_as other ++ rest ≡ queue → length other ≤ more → calls_bytes other ≤ bytes →
    length other ≤ length (run_within more bytes queue)
run-longest more bytes queue [] rest e l b = omega arith
run-longest zero bytes queue (x ∷ other) rest e l b = absurd (omega arith)
run-longest (suc more) bytes [] (x ∷ other) rest e l b = absurd cc
run-longest (suc more) bytes (Call c ∷ queue) (x ∷ other) rest e l b =
    let same : c ≡ x = cc in
    let behind : calls_as other ++ rest ≡ queue = cc in
    let size : call_bytes c ≡ call_bytes x = ap call_bytes same in
    let less = bytes - call_bytes c in
    let i : length other ≤ length (run_within more less queue) = run-longest more less queue other rest behind (omega arith) (omega arith) in
    cond_both (nat_le (call_bytes c) bytes) (c ∷ run_within more (bytes - call_bytes c) queue) [] (λ run. suc (length other) ≤ length run) (λ t. omega arith)
    (λ t. absurd (true≢false (sym (le-leb (call_bytes c) bytes (omega arith)) ∙ t)))
run-longest (suc more) bytes (Wrapped old ∷ queue) (x ∷ other) rest e l b = absurd cc
run-longest (suc more) bytes (End ∷ queue) (x ∷ other) rest e l b = absurd cc
run-longest (suc more) bytes (Head head ∷ queue) (x ∷ other) rest e l b = absurd cc
run-longest (suc more) bytes (Part part ∷ queue) (x ∷ other) rest e l b = absurd cc
run-longest (suc more) bytes (Pack pack ∷ queue) (x ∷ other) rest e l b = absurd cc
run-longest (suc more) bytes (Snap snap ∷ queue) (x ∷ other) rest e l b = absurd cc

-- the run of a queue's first message is the longest that fits one Pack
pub longest_call_run-longest : {A : Type 0} → (queue : List (Payload A)) → IsLongestRun queue (longest_call_run queue)
longest_call_run-longest queue =
    let bytes = max_pack_bytes - 2 in
    let short : calls_bytes (longest_call_run queue) ≤ bytes = run-short max_pack_calls bytes queue in
    record {
      fits = record {
        begins = (drop (length (longest_call_run queue)) queue, run-front max_pack_calls bytes queue);
        few = run-few max_pack_calls bytes queue;
        short = omega arith;
      };
      longest = λ other r.
          let i : pack_bytes other ≤ max_pack_bytes = r.short in
          run-longest max_pack_calls bytes queue other r.begins.0 r.begins.1 r.few (omega arith);
    }

-- the first payload of a queue, unpacked, is itself
unpacked_payloads-queued : {A : Type 0} → (p : Payload A) → is_queued p ≡ true → unpacked_payloads p ≡ p ∷ []
unpacked_payloads-queued (Call call) h = refl
unpacked_payloads-queued (Wrapped old) h = refl
unpacked_payloads-queued End h = refl
unpacked_payloads-queued (Head head) h = refl
unpacked_payloads-queued (Part part) h = refl
unpacked_payloads-queued (Pack pack) h = absurd cc
unpacked_payloads-queued (Snap snap) h = refl

-- the first message, unpacked, and the rest after it
unpacked_payloads-made : {A : Type 0} → (first : Payload A) (queue : List (Payload A)) (run : List (OneCall A)) → is_queued first ≡ true →
    calls_as run ++ drop (length run) (first ∷ queue) ≡ first ∷ queue →
    unpacked_payloads (first_packed_payload first run) ++ drop (max 1 (length run)) (first ∷ queue) ≡ first ∷ queue
unpacked_payloads-made first queue [] h e = ap (λ q. q ++ queue) (unpacked_payloads-queued first h)
unpacked_payloads-made first queue (c ∷ []) h e = ap (λ q. q ++ queue) (unpacked_payloads-queued first h)
unpacked_payloads-made first queue (c ∷ d ∷ run) h e =
    let n : suc (suc (length run)) ≡ max 1 (suc (suc (length run))) = omega arith in
    subst (λ n. unpacked_payloads (first_packed_payload first (c ∷ d ∷ run)) ++ drop n (first ∷ queue) ≡ first ∷ queue) n e

unpacked_payloads-first : {A : Type 0} → (first : Payload A) (queue : List (Payload A)) → is_queued first ≡ true →
    unpacked_payloads (first_packed_payload first (longest_call_run (first ∷ queue))) ++ behind (first ∷ queue) ≡ first ∷ queue
unpacked_payloads-first first queue h = unpacked_payloads-made first queue (longest_call_run (first ∷ queue)) h (run-front max_pack_calls (max_pack_bytes - 2) (first ∷ queue))

-- dropping elements of a list keeps a fact about each
each-drop : {X : Type 0} → (P : X → Type 0) (n : ℕ) (xs : List X) → AllByRecursion P xs → AllByRecursion P (drop n xs)
each-drop P zero xs h = h
each-drop P (suc n) [] h = h
each-drop P (suc n) (x ∷ xs) h = each-drop P n xs h.1

-- a fact about each payload of a queue holds of each that is left
pub unpacked_rest-each : {A : Type 0} → (P : Payload A → Type 0) (count : ℕ) (queue : List (Payload A)) → AllByRecursion P queue →
    AllByRecursion P (unpacked_rest count queue)
unpacked_rest-each P zero queue h = h
unpacked_rest-each P (suc more) queue h = unpacked_rest-each P more (behind queue) (each-drop P (max 1 (length (longest_call_run queue))) queue h)

behind-nil : {A : Type 0} → (count : ℕ) → unpacked_rest {A = A} count [] ≡ []
behind-nil zero = refl
behind-nil (suc more) = behind-nil more

-- the messages, unpacked, and then the rest are the queue
pub unpacked_payloads-packed_payloads : {A : Type 0} → (count : ℕ) (queue : List (Payload A)) → AreQueued queue →
    flat_map unpacked_payloads (packed_payloads count queue) ++ unpacked_rest count queue ≡ queue
unpacked_payloads-packed_payloads zero queue h = refl
unpacked_payloads-packed_payloads (suc more) [] h = behind-nil more
unpacked_payloads-packed_payloads {A} (suc more) (first ∷ queue) h =
    let rest = behind (first ∷ queue) in
    let made = unpacked_payloads (first_packed_payload first (longest_call_run (first ∷ queue))) in
    let e = unpacked_payloads-packed_payloads more rest (each-drop (λ (p : Payload A). is_queued p ≡ true) (max 1 (length (longest_call_run (first ∷ queue)))) (first ∷ queue) h) in
    append_assoc made (flat_map unpacked_payloads (packed_payloads more rest)) (unpacked_rest more rest) ∙ (ap (λ q. made ++ q) e ∙ unpacked_payloads-first first queue h.0)

-- Limits

run-fits : {A : Type 0} → (more bytes : ℕ) (queue : List (Payload A)) → AllByRecursion PayloadFits queue → AllByRecursion CallFits (run_within more bytes queue)
run-fits zero bytes queue h = tt
run-fits (suc more) bytes [] h = tt
run-fits (suc more) bytes (Call c ∷ queue) h =
    cond_both (nat_le (call_bytes c) bytes) (c ∷ run_within more (bytes - call_bytes c) queue) []
    (λ run. AllByRecursion CallFits run) (λ e. (h.0, run-fits more (bytes - call_bytes c) queue h.1)) (λ e. tt)
run-fits (suc more) bytes (Wrapped old ∷ queue) h = tt
run-fits (suc more) bytes (End ∷ queue) h = tt
run-fits (suc more) bytes (Head head ∷ queue) h = tt
run-fits (suc more) bytes (Part part ∷ queue) h = tt
run-fits (suc more) bytes (Pack pack ∷ queue) h = tt
run-fits (suc more) bytes (Snap snap ∷ queue) h = tt

made-fits : {A : Type 0} → (first : Payload A) (run : List (OneCall A)) → PayloadFits first → AllByRecursion CallFits run → length run ≤ max_pack_calls →
    pack_bytes run ≤ max_pack_bytes → PayloadFits (first_packed_payload first run)
made-fits first [] f each few short = f
made-fits first (c ∷ []) f each few short = f
made-fits first (c ∷ d ∷ run) f each few short = record { some = omega arith; few = few; each = each; short = short }

-- if each payload of a queue keeps its limits, each message does
pub packed_payloads-fits : {A : Type 0} → (count : ℕ) (queue : List (Payload A)) → AllByRecursion PayloadFits queue → AllByRecursion PayloadFits (packed_payloads count queue)
packed_payloads-fits zero queue h = tt
packed_payloads-fits (suc more) [] h = tt
packed_payloads-fits (suc more) (first ∷ queue) h =
    let run = longest_call_run (first ∷ queue) in
    let is = (longest_call_run-longest (first ∷ queue)).fits in
    let each = run-fits max_pack_calls (max_pack_bytes - 2) (first ∷ queue) h in
    let rest = each-drop PayloadFits (max 1 (length run)) (first ∷ queue) h in
    (made-fits first run h.0 each is.few is.short, packed_payloads-fits more (behind (first ∷ queue)) rest)

-- Users

user-made : {A : Type 0} → (first : Payload A) (run : List (OneCall A)) → is_user first ≡ true → is_user (first_packed_payload first run) ≡ true
user-made first [] h = h
user-made first (c ∷ []) h = h
user-made first (c ∷ d ∷ run) h = refl

-- user payloads make user messages
pub packed_payloads-users : {A : Type 0} → (count : ℕ) (queue : List (Payload A)) → AllByRecursion (λ (p : Payload A). is_user p ≡ true) queue →
    AllByRecursion (λ (p : Payload A). is_user p ≡ true) (packed_payloads count queue)
packed_payloads-users zero queue h = tt
packed_payloads-users (suc more) [] h = tt
packed_payloads-users {A} (suc more) (first ∷ queue) h =
    let run = longest_call_run (first ∷ queue) in
    let rest = each-drop (λ (p : Payload A). is_user p ≡ true) (max 1 (length run)) (first ∷ queue) h in
    (user-made first run h.0, packed_payloads-users more (behind (first ∷ queue)) rest)

-- a payload of a queue is a user payload
pub user-queued : {A : Type 0} → (p : Payload A) → is_queued p ≡ true → is_user p ≡ true
user-queued (Call call) h = refl
user-queued (Wrapped old) h = absurd cc
user-queued End h = absurd cc
user-queued (Head head) h = refl
user-queued (Part part) h = refl
user-queued (Pack pack) h = refl
user-queued (Snap snap) h = refl

-- no payloads make no messages
pub packed_none : {A : Type 0} → (n : ℕ) → packed_payloads {A = A} n [] ≡ []
packed_none zero = refl
packed_none (suc n) = refl
