-- The first messages are taken off a queue one by one: the run at its front is measured, and its Calls are moved.
use Rattle.std.proofs.Common.{◌≡◌, ℕ, zero, suc, ◌+◌, ◌-◌, ◌<◌, ◌≤◌, max, List, [], ◌∷◌, ◌++◌, length, take, drop}
use Rattle.std.proofs.Common.{Option, Some, None, IsSome, get_or, refl, sym, ap, subst, ◌∙◌, arith, append_assoc}
use Rattle.std.specs.Prelude.{nat_le, option_to_list}
use Rattle.std.proofs.lemmas.Bool.{cond-true, cond-false, le-leb, lt-leb}
use Rattle.std.proofs.lemmas.List.{drop_more, at_drop_all, append-nil}
use Rattle.ring_payload.specs.declared.call.Call.{Call as OneCall}
use Rattle.ring_payload.specs.declared.content.Payload.{Payload}
use Rattle.ring_payload.specs.declared.content.Payload.TheVariants.{Call, Wrapped, End, Head, Part, Pack, Snap}
use Rattle.ring_payload.specs.Limits.{max_pack_calls}
use Rattle.ring_payload.specs.Calls.{call_bytes}
use Rattle.ring_payload.specs.Packing.{run_within, longest_call_run, first_packed_payload, behind, packed_payloads, unpacked_rest}
use Rattle.ring_payload.proofs.Packing.{calls_as, longest_call_run-longest}
use Rattle.std.proofs.lemmas.List.{take-append-drop}
use Rattle.ring_srp_state.specs.Packing.{call_of, bytes_of, IsLeftOf}
use Rattle.ring_base.proofs.Rows.{left-next}

-- The length of a run

run-none : {A : Type 0} (more bytes : ℕ) (queue : List (Payload A)) → queue ≡ [] → length (run_within more bytes queue) ≡ 0
run-none zero bytes queue e = refl
run-none (suc more) bytes [] e = refl
run-none (suc more) bytes (x ∷ queue) e = absurd cc

run-other : {A : Type 0} (more bytes : ℕ) (x : Payload A) (queue : List (Payload A)) → bytes_of x ≡ None → length (run_within more bytes (x ∷ queue)) ≡ 0
run-other zero bytes x queue e = refl
run-other (suc more) bytes (Call c) queue e = absurd cc
run-other (suc more) bytes (Wrapped old) queue e = refl
run-other (suc more) bytes End queue e = refl
run-other (suc more) bytes (Head head) queue e = refl
run-other (suc more) bytes (Part part) queue e = refl
run-other (suc more) bytes (Pack pack) queue e = refl
run-other (suc more) bytes (Snap snap) queue e = refl

run-long : {A : Type 0} (more bytes b : ℕ) (x : Payload A) (queue : List (Payload A)) → bytes_of x ≡ Some b
    → bytes < b → length (run_within more bytes (x ∷ queue)) ≡ 0
run-long zero bytes b x queue e l = refl
run-long (suc more) bytes b (Call c) queue e l =
    let same : call_bytes c ≡ b = cc in
    ap length (cond-false (nat_le (call_bytes c) bytes) (c ∷ run_within more (bytes - call_bytes c) queue) [] (lt-leb (call_bytes c) bytes (omega arith)))
run-long (suc more) bytes b (Wrapped old) queue e l = refl
run-long (suc more) bytes b End queue e l = refl
run-long (suc more) bytes b (Head head) queue e l = refl
run-long (suc more) bytes b (Part part) queue e l = refl
run-long (suc more) bytes b (Pack pack) queue e l = refl
run-long (suc more) bytes b (Snap snap) queue e l = refl

room-more : {A : Type 0} (more bytes b : ℕ) (x : Payload A) (queue : List (Payload A)) → bytes_of x ≡ Some b
    → b ≤ bytes → length (run_within (suc more) bytes (x ∷ queue)) ≡ suc (length (run_within more (bytes - b) queue))
room-more more bytes b (Call c) queue e l =
    let same : call_bytes c ≡ b = cc in
    ap length (cond-true (nat_le (call_bytes c) bytes) (c ∷ run_within more (bytes - call_bytes c) queue) [] (le-leb (call_bytes c) bytes (omega arith)))
    ∙ ap (λ n. suc (length (run_within more (bytes - n) queue))) same
room-more more bytes b (Wrapped old) queue e l = absurd cc
room-more more bytes b End queue e l = absurd cc
room-more more bytes b (Head head) queue e l = absurd cc
room-more more bytes b (Part part) queue e l = absurd cc
room-more more bytes b (Pack pack) queue e l = absurd cc
room-more more bytes b (Snap snap) queue e l = absurd cc

-- the counted part of a queue's run, and the rest of the run
abbrev pub IsCounted : {A : Type 0} → List (Payload A) → ℕ → ℕ → Type 0
IsCounted queue count left = count + length (run_within (max_pack_calls - count) left (drop count queue)) ≡ length (longest_call_run queue)

module _ {A : Type 0} (queue : List (Payload A)) (count left : ℕ) where
  pub counted-nil : length queue ≤ count → IsCounted queue count left → count ≡ length (longest_call_run queue)
  counted-nil l i =
      let e : length (run_within (max_pack_calls - count) left (drop count queue)) ≡ 0 = run-none (max_pack_calls - count) left
      (drop count queue) (at_drop_all (λ q. q) queue count l) in
      omega arith

  pub counted-other : (x : Payload A) → count < length queue → x ≡ get_or queue count x → bytes_of x ≡ None
      → IsCounted queue count left → count ≡ length (longest_call_run queue)
  counted-other x l at b i =
      let d : drop count queue ≡ x ∷ drop (count + 1) queue = drop_more queue count x l ∙ ap (λ y. y ∷ drop (count + 1) queue) (sym at) in
      let e : length (run_within (max_pack_calls - count) left (drop count queue)) ≡ 0 =
      ap (λ q. length (run_within (max_pack_calls - count) left q)) d ∙ run-other (max_pack_calls - count) left x
      (drop (count + 1) queue) b in
      omega arith

  pub counted-long : (x : Payload A) (b : ℕ) → count < length queue → x ≡ get_or queue count x → bytes_of x ≡ Some b
      → left < b → IsCounted queue count left → count ≡ length (longest_call_run queue)
  counted-long x b l at s far i =
      let d : drop count queue ≡ x ∷ drop (count + 1) queue = drop_more queue count x l ∙ ap (λ y. y ∷ drop (count + 1) queue) (sym at) in
      let e : length (run_within (max_pack_calls - count) left (drop count queue)) ≡ 0 =
      ap (λ q. length (run_within (max_pack_calls - count) left q)) d ∙ run-long (max_pack_calls - count) left b x
      (drop (count + 1) queue) s far in
      omega arith

  pub counted-more : (x : Payload A) (b : ℕ) → count < max_pack_calls → count < length queue → x ≡ get_or queue count x
      → bytes_of x ≡ Some b → b ≤ left → IsCounted queue count left → IsCounted queue (count + 1) (left - b)
  counted-more x b few l at s near i =
      let d : drop count queue ≡ x ∷ drop (count + 1) queue = drop_more queue count x l ∙ ap (λ y. y ∷ drop (count + 1) queue) (sym at) in
      let n : max_pack_calls - count ≡ suc (max_pack_calls - (count + 1)) = omega arith in
      let e : length (run_within (max_pack_calls - count) left (drop count queue)) ≡ suc
      (length (run_within (max_pack_calls - (count + 1)) (left - b) (drop (count + 1) queue))) =
      ap (λ q. length (run_within (max_pack_calls - count) left q)) d
      ∙ ap (λ m. length (run_within m left (x ∷ drop (count + 1) queue))) n
      ∙ room-more (max_pack_calls - (count + 1)) left b x (drop (count + 1) queue) s near in
      omega arith

  pub counted-all : max_pack_calls ≤ count → count ≤ max_pack_calls → IsCounted queue count left → max_pack_calls ≡ length (longest_call_run queue)
  counted-all l u i =
      let n : max_pack_calls - count ≡ 0 = omega arith in
      let e : length (run_within (max_pack_calls - count) left (drop count queue)) ≡ 0 = ap (λ m. length (run_within m left (drop count queue))) n in
      omega arith

-- The Calls of a run

next-call : {A : Type 0} (run : List (OneCall A)) (rest : List (Payload A)) (i : ℕ) → i < length run →
    (c : OneCall A) × (drop i (calls_as run ++ rest) ≡ Call c ∷ drop (suc i) (calls_as run ++ rest)) × (take (suc i) run ≡ take i run ++ c ∷ [])
next-call [] rest i l = absurd (omega (arith, l))
next-call (c ∷ run) rest zero l = (c, refl, refl)
next-call (c ∷ run) rest (suc i) l =
    let n = next-call run rest i (omega arith) in
    (n.0, n.1, ap (λ xs. c ∷ xs) n.2)

call-at : {A : Type 0} (queue : List (Payload A)) (i : ℕ) → i < length (longest_call_run queue) →
    (c : OneCall A) × (drop i queue ≡ Call c ∷ drop (suc i) queue) × (take (suc i) (longest_call_run queue) ≡ take i (longest_call_run queue) ++ c ∷ [])
call-at queue i l =
    let b = (longest_call_run-longest queue).fits.begins in
    let n = next-call (longest_call_run queue) b.0 i l in
    (n.0, subst (λ q. drop i q ≡ Call n.0 ∷ drop (suc i) q) b.1 n.1, n.2)

-- a Call of the run is at the front of the rest
pub queue-left : {A : Type 0} (queue now : List (Payload A)) (i : ℕ) → i < length (longest_call_run queue) → now ≡ drop i queue → length now ≡ 0 → ⊥
queue-left queue now i l e z =
    let c = call-at queue i l in
    let n : length now ≡ suc (length (drop (suc i) queue)) = ap length (e ∙ c.1) in
    absurd (omega arith)

pub call-left : {A : Type 0} (queue now after : List (Payload A)) (p : Payload A) (i : ℕ)
    → i < length (longest_call_run queue) → now ≡ drop i queue → now ≡ p ∷ after → call_of p ≡ None → ⊥
call-left queue now after p i l e n none =
    let c = call-at queue i l in
    let front : p ∷ after ≡ Call c.0 ∷ drop (suc i) queue = sym n ∙ e ∙ c.1 in
    let same : p ≡ Call c.0 = cc in
    let some : Some c.0 ≡ None = ap call_of (sym same) ∙ none in
    absurd cc

pub call-moved : {A : Type 0} (queue now after : List (Payload A)) (calls : List (OneCall A)) (p : Payload A)
    (c : OneCall A) (i : ℕ) → i < length (longest_call_run queue) →
    calls ≡ take i (longest_call_run queue) → now ≡ drop i queue → now ≡ p ∷ after → call_of p ≡ Some c →
    (calls ++ c ∷ [] ≡ take (i + 1) (longest_call_run queue)) × (after ≡ drop (i + 1) queue)
call-moved queue now after calls p c i l t e n some =
    let a = call-at queue i l in
    let front : p ∷ after ≡ Call a.0 ∷ drop (suc i) queue = sym n ∙ e ∙ a.1 in
    let first : p ≡ Call a.0 = cc in
    let rest : after ≡ drop (suc i) queue = cc in
    let told : Some c ≡ Some a.0 = sym some ∙ ap call_of first in
    let same : c ≡ a.0 = cc in
    let one : suc i ≡ i + 1 = omega arith in (
      ap (λ xs. xs ++ c ∷ []) t ∙ ap (λ x. take i (longest_call_run queue) ++ x ∷ []) same ∙ sym a.2
          ∙ ap (λ n. take n (longest_call_run queue)) one,
      rest ∙ ap (λ n. drop n queue) one,
    )

-- The first message

made-alone : {A : Type 0} (first : Payload A) (run : List (OneCall A)) → length run < 2 → first_packed_payload first run ≡ first
made-alone first [] l = refl
made-alone first (c ∷ []) l = refl
made-alone first (c ∷ d ∷ run) l = absurd (omega (arith, l))

made-pack : {A : Type 0} (first : Payload A) (run : List (OneCall A)) → 2 ≤ length run → first_packed_payload first run ≡ Pack (record { calls = run })
made-pack first [] l = absurd (omega (arith, l))
made-pack first (c ∷ []) l = absurd (omega (arith, l))
made-pack first (c ∷ d ∷ run) l = refl

-- where the run has no call or one, the first payload goes as it is
pub first-alone : {A : Type 0} (queue after : List (Payload A)) (o : Option (Payload A)) → queue ≡ option_to_list o
    ++ after → (0 < length queue → IsSome o) → length (longest_call_run queue) < 2 →
    (option_to_list o ≡ packed_payloads 1 queue) × (after ≡ behind queue)
first-alone [] after None e s l = (refl, sym e)
first-alone {A} (x ∷ queue) after None e s l =
    let some : IsSome {T = Payload A} None = s (omega arith) in
    absurd cc
first-alone [] after (Some p) e s l = absurd cc
first-alone (x ∷ queue) after (Some p) e s l =
    let first : x ≡ p = cc in
    let rest : queue ≡ after = cc in
    let n : max 1 (length (longest_call_run (x ∷ queue))) ≡ 1 = omega arith in
    (ap (λ y. y ∷ []) (sym first ∙ sym (made-alone x (longest_call_run (x ∷ queue)) l)), sym rest ∙ ap (λ m. drop m (x ∷ queue)) (sym n))

-- a run of two or more goes as a Pack
pub first-packed_payloads : {A : Type 0} (queue : List (Payload A)) (run : List (OneCall A)) → run ≡ longest_call_run queue → 2 ≤ length (longest_call_run queue) →
    Pack (record { calls = run }) ∷ [] ≡ packed_payloads 1 queue
first-packed_payloads [] run e l = absurd (omega (arith, l))
first-packed_payloads (first ∷ queue) run e l = ap (λ y. y ∷ []) (ap (λ r. Pack (record { calls = r })) e ∙ sym (made-pack first (longest_call_run (first ∷ queue)) l))

pub behind-packed_payloads : {A : Type 0} (queue : List (Payload A)) (count : ℕ) → count ≡ length (longest_call_run queue) → 2 ≤ count → drop count queue ≡ behind queue
behind-packed_payloads queue count e l =
    let n : count ≡ max 1 (length (longest_call_run queue)) = omega arith in
    ap (λ m. drop m queue) n

-- All messages

packed_payloads-first : {A : Type 0} (more : ℕ) (queue : List (Payload A)) (m : Payload A) → m ∷ [] ≡ packed_payloads 1 queue
    → packed_payloads (suc more) queue ≡ m ∷ packed_payloads more (behind queue)
packed_payloads-first more [] m e = absurd cc
packed_payloads-first more (first ∷ queue) m e =
    let same : m ≡ first_packed_payload first (longest_call_run (first ∷ queue)) = cc in
    ap (λ x. x ∷ packed_payloads more (behind (first ∷ queue))) (sym same)

packed_payloads-none : {A : Type 0} (more : ℕ) (queue : List (Payload A)) → [] ≡ packed_payloads 1 queue → packed_payloads more queue ≡ []
packed_payloads-none zero queue e = refl
packed_payloads-none (suc more) [] e = refl
packed_payloads-none (suc more) (first ∷ queue) e = absurd cc

left-none : {A : Type 0} (more : ℕ) (queue : List (Payload A)) → [] ≡ packed_payloads 1 queue → unpacked_rest more queue ≡ behind queue
left-none zero [] e = refl
left-none (suc zero) [] e = refl
left-none (suc (suc more)) [] e = left-none (suc more) [] e
left-none more (first ∷ queue) e = absurd cc

-- nothing was taken yet
pub taken-begun : {A : Type 0} (most : ℕ) (taken all : List (Payload A)) → taken ≡ [] → taken ++ packed_payloads (most - 0) all ≡ packed_payloads most all
taken-begun most taken all e =
    let n : most - 0 ≡ most = omega arith in
    ap (λ xs. xs ++ packed_payloads (most - 0) all) e ∙ ap (λ m. packed_payloads m all) n

pub left-begun : {A : Type 0} (most : ℕ) (all : List (Payload A)) → unpacked_rest (most - 0) all ≡ unpacked_rest most all
left-begun most all =
    let n : most - 0 ≡ most = omega arith in
    ap (λ m. unpacked_rest m all) n

-- an empty queue makes no messages, and stays empty
pub packed_payloads-empty : {A : Type 0} (most : ℕ) (queue : List (Payload A)) → length queue ≡ 0 → [] ≡ packed_payloads most queue
packed_payloads-empty zero queue e = refl
packed_payloads-empty (suc more) [] e = refl
packed_payloads-empty (suc more) (first ∷ queue) e = absurd cc

pub left-empty : {A : Type 0} (most : ℕ) (queue : List (Payload A)) → length queue ≡ 0 → queue ≡ unpacked_rest most queue
left-empty zero queue e = refl
left-empty (suc more) [] e = left-empty more [] e
left-empty (suc more) (first ∷ queue) e = absurd cc

-- one more message was taken
pub taken-more : {A : Type 0} (most counter : ℕ) (taken now after all : List (Payload A)) (m : Payload A)
    → counter < most → m ∷ [] ≡ packed_payloads 1 now → after ≡ behind now →
    taken ++ packed_payloads (most - counter) now ≡ all → (taken ++ m ∷ []) ++ packed_payloads (most - (counter + 1)) after ≡ all
taken-more most counter taken now after all m l e b i =
    append_assoc taken (m ∷ []) (packed_payloads (most - (counter + 1)) after)
    ∙ ap (λ q. taken ++ m ∷ packed_payloads (most - (counter + 1)) q) b
    ∙ ap (λ xs. taken ++ xs) (sym (ap (λ n. packed_payloads n now) (left-next most counter l) ∙ packed_payloads-first (most - (counter + 1)) now m e))
    ∙ i

pub left-more : {A : Type 0} (most counter : ℕ) (now after end : List (Payload A)) → counter < most → after ≡ behind now →
    unpacked_rest (most - counter) now ≡ end → unpacked_rest (most - (counter + 1)) after ≡ end
left-more most counter now after end l b i =
    ap (λ q. unpacked_rest (most - (counter + 1)) q) b ∙ sym (ap (λ n. unpacked_rest n now) (left-next most counter l)) ∙ i

-- nothing is left to take
pub taken-none : {A : Type 0} (more : ℕ) (taken now all : List (Payload A)) → [] ≡ packed_payloads 1 now → taken ++ packed_payloads more now ≡ all → taken ≡ all
taken-none more taken now all e i = sym (append-nil taken) ∙ ap (λ xs. taken ++ xs) (sym (packed_payloads-none more now e)) ∙ i

pub left-all : {A : Type 0} (more : ℕ) (now after end : List (Payload A)) → [] ≡ packed_payloads 1 now → after ≡ behind now → unpacked_rest more now ≡ end → after ≡ end
left-all more now after end e b i = b ∙ sym (left-none more now e) ∙ i

-- the greatest number of messages was taken
pub taken-all : {A : Type 0} (most counter : ℕ) (taken now all : List (Payload A)) → most ≤ counter → taken ++ packed_payloads (most - counter) now ≡ all → taken ≡ all
taken-all most counter taken now all l i =
    let n : most - counter ≡ 0 = omega arith in
    sym (append-nil taken) ∙ ap (λ m. taken ++ packed_payloads m now) (sym n) ∙ i

pub left-end : {A : Type 0} (most counter : ℕ) (now end : List (Payload A)) → most ≤ counter → unpacked_rest (most - counter) now ≡ end → now ≡ end
left-end most counter now end l i =
    let n : most - counter ≡ 0 = omega arith in
    ap (λ m. unpacked_rest m now) (sym n) ∙ i

-- The rest of the queue where memory was refused

pub left-whole : {A : Type 0} (queue : List (Payload A)) → IsLeftOf queue queue
left-whole queue = ([], refl)

pub left-drop : {A : Type 0} (queue left : List (Payload A)) (n : ℕ) → left ≡ drop n queue → IsLeftOf left queue
left-drop queue left n e = (take n queue, ap (λ xs. take n queue ++ xs) e ∙ take-append-drop n queue)

pub left-behind : {A : Type 0} (queue left : List (Payload A)) → left ≡ behind queue → IsLeftOf left queue
left-behind queue left e = left-drop queue left (max 1 (length (longest_call_run queue))) e

pub left-twice : {A : Type 0} {queue mid left : List (Payload A)} → IsLeftOf mid queue → IsLeftOf left mid → IsLeftOf left queue
left-twice {A} {queue} {mid} {left} a b = (a.0 ++ b.0, append_assoc a.0 b.0 left ∙ ap (λ xs. a.0 ++ xs) b.1 ∙ a.1)
